-- Parts of what is asked of a write that is performed.
use Rattle.std.specs.Prelude.{◌≡◌, ◌≢◌, ◌⊎◌, ℕ, true, false, List, Some, IsSome}
use Rattle.version_pair.specs.declared.pair.Pair.{Pair}
use Rattle.doc_register.specs.declared.op.Op.{Op}
use Rattle.doc_register.specs.declared.op.Op.TheVariants.{Get, Create}
use Rattle.doc_register.specs.declared.state.Conflicts.{Conflicts}
use Rattle.doc_register.specs.Register.{condition_of, value_of}
use Rattle.events.specs.declared.record.Rec.{Rec}
use Rattle.events.specs.Heard.{pair_of}
use Rattle.deciding.specs.Reported.{IsFoundWith, IsKnown}
use Rattle.deciding.specs.Branches.{Branch, IsAtMost, position}
use Rattle.deciding.specs.Steps.{MayHaveTaken}

-- the operation gives each number that was found with the pair
abbrev pub GivesFound : List Rec → Op → Pair → Type 0
GivesFound records op q = (k : ℕ) → IsFoundWith records q k → value_of op ≡ Some k

-- a known pair is that of an index or a create
abbrev pub GivesKnown : List Rec → Op → Pair → Type 0
GivesKnown records op q = IsKnown records q → IsSome (value_of op)

-- the document has the pair of the condition
abbrev pub IsConditionMet : List Rec → Branch → Pair → Type 0
IsConditionMet records b c = (b.exists ≡ true) × (position records b.least ≡ position records (Some c)) × IsAtMost b.least (Some c)

-- the reply shows the pair, or may hide it
abbrev pub Takes : Conflicts → List Rec → Rec → Pair → Type 0
Takes conflicts records r q = (pair_of r.heard ≡ Some q) ⊎ MayHaveTaken conflicts records r q

-- the branch meets what the write asks for
pub record IsMetBy (records : List Rec) (b : Branch) (op : Op) : Type 0 where
  pub write : op ≢ Get
  pub condition : (c : Pair) → condition_of op ≡ Some c → IsConditionMet records b c
  pub missing : (k : ℕ) → op ≡ Create k → b.exists ≡ false
