-- The writes of a document by what they may have done, as the code keeps them.
use Rattle.std.specs.Prelude.{◌≡◌, ◌≢◌, ◌≤◌, ℕ, List, [], ◌∷◌, Option, None, Some, option_map, slice_get}
use Rattle.version_pair.specs.declared.pair.Pair.{Pair}
use Rattle.doc_register.specs.declared.op.Op.{Op}
use Rattle.doc_register.specs.declared.op.Op.TheVariants.{Get, Index, Delete, Create}
use Rattle.doc_register.specs.declared.reply.Reply.{Reply}
use Rattle.doc_register.specs.Register.{condition_of, value_of}
use Rattle.events.specs.declared.record.Rec.{Rec}
use Rattle.events.specs.Heard.{pair_of}
use Rattle.deciding.specs.declared.groups.Entry.{Entry}
use Rattle.deciding.specs.declared.groups.Groups.{Groups}
use Rattle.deciding.specs.declared.writes.By.{By}
use Rattle.deciding.specs.declared.writes.By.TheVariants as by
use Rattle.deciding.specs.declared.writes.Lost.{Lost}
use Rattle.deciding.specs.declared.writes.Lost.TheVariants as lost
use Rattle.deciding.specs.declared.writes.Writes.{Writes}
use Rattle.deciding.specs.Branches.{position}
use Rattle.deciding.specs.Positions.{version_of}
use Rattle.deciding.specs.aids.Groups.{AreGroupsOf, Has}

-- ---- kinds

-- which write without a condition it is
abbrev pub kind_of_op : Op → Option Lost
kind_of_op Get = None
kind_of_op (Index k None) = Some lost.Index
kind_of_op (Index k (Some c)) = None
kind_of_op (Delete None) = Some lost.Delete
kind_of_op (Delete (Some c)) = None
kind_of_op (Create k) = Some lost.Create

-- of a call without a reply; none if it has one
abbrev pub kind_unanswered : Op → Option (ℕ × Reply) → Option Lost
kind_unanswered op None = kind_of_op op
kind_unanswered op (Some heard) = None

-- which write without a reply and without a condition the call is, if it is one
abbrev pub kind_of : Rec → Option Lost
kind_of r = kind_unanswered r.op r.heard

-- the first call of the kind; if none is given, no call is of it
abbrev pub IsFirst : List Rec → Lost → Option ℕ → Type 0
IsFirst records kind None = (i : ℕ) (r : Rec) → slice_get records i ≡ Some r → kind_of r ≢ Some kind
IsFirst records kind (Some n) = (first : Rec) × (slice_get records n ≡ Some first) × (kind_of first ≡ Some kind)
    × ((i : ℕ) (r : Rec) → slice_get records i ≡ Some r → kind_of r ≡ Some kind → n ≤ i)

-- ---- keys

-- the version of the pair that the reply to a write shows
abbrev pub key_shown : List Rec → Rec → Option ℕ
key_shown records r = option_map (version_of records) (pair_of r.heard)

-- the position of the pair that a write asks for, if it has no reply
abbrev pub key_unanswered : List Rec → Option Pair → Option (ℕ × Reply) → Option ℕ
key_unanswered records condition None = option_map (λ c. position records (Some c)) condition
key_unanswered records condition (Some heard) = None

abbrev pub key_asked : List Rec → Rec → Option ℕ
key_asked records r = key_unanswered records (condition_of r.op) r.heard

-- the number that a write gives, if it is of a kind
abbrev pub key_of_kind : Option Lost → Option ℕ → Option ℕ
key_of_kind None value = None
key_of_kind (Some kind) value = value

abbrev pub key_given : Rec → Option ℕ
key_given r = key_of_kind (kind_of r) (value_of r.op)

-- the key of a call
abbrev pub key_by : List Rec → By → Rec → Option ℕ
key_by records by.Shown r = key_shown records r
key_by records by.Asked r = key_asked records r
key_by records by.Given r = key_given r

-- ---- entries

-- the entry of a key, if there is one
abbrev pub entries_of : Option ℕ → ℕ → List Entry
entries_of None n = []
entries_of (Some key) n = record { key = key; number = n } ∷ []

-- each of the records with a key is among the groups, under its key
abbrev pub AreKeyed : (Rec → Option ℕ) → List Rec → Groups → Type 0
AreKeyed key_of records groups = (list : List Entry) × AreGroupsOf list groups
    × ((i : ℕ) (r : Rec) (key : ℕ) → slice_get records i ≡ Some r → key_of r ≡ Some key → Has list (record { key = key; number = i }))

-- the writes among the records
pub record AreWritesOf (records : List Rec) (writes : Writes) : Type 0 where
  pub shown : AreKeyed (key_by records by.Shown) records writes.shown
  pub asked : AreKeyed (key_by records by.Asked) records writes.asked
  pub given : AreKeyed (key_by records by.Given) records writes.given
  pub first_delete : IsFirst records lost.Delete writes.first_delete
  pub first_index : IsFirst records lost.Index writes.first_index
  pub first_create : IsFirst records lost.Create writes.first_create
