-- Steps of a branch: a write is performed.
use Rattle.std.specs.Prelude.{◌≡◌, ◌≢◌, ◌<◌, ◌≤◌, ◌==◌, ◌&&◌, ◌⊎◌, ⊤, ℕ, suc, nat_lt, Bool, true, false, not, cond, List, [], ◌∷◌, Option, None, Some, IsSome, is_some, slice_get}
use Rattle.version_pair.specs.declared.pair.Pair.{Pair}
use Rattle.version_pair.specs.PairOrder.{IsBelow}
use Rattle.doc_register.specs.declared.op.Op.{Op}
use Rattle.doc_register.specs.declared.op.Op.TheVariants.{Get, Index, Delete, Create}
use Rattle.doc_register.specs.declared.reply.Reply.{Reply}
use Rattle.doc_register.specs.declared.reply.Reply.TheVariants.{Indexed, Deleted, Found, Missing, Conflict}
use Rattle.doc_register.specs.declared.state.Conflicts.{Conflicts}
use Rattle.doc_register.specs.declared.state.Conflicts.TheVariants.{Plain, Maybe}
use Rattle.doc_register.specs.Register.{condition_of, value_of}
use Rattle.deciding.specs.Facts.{Facts}
use Rattle.events.specs.declared.record.Rec.{Rec}
use Rattle.events.specs.Heard.{pair_of}
use Rattle.deciding.specs.Reported.{IsFoundWith, IsKnown, IsReportedOf}
use Rattle.deciding.specs.Positions.{taking_position, version_of}
use Rattle.deciding.specs.Branches.{Branch, IsAbove, IsAtMost, is_in, position}

-- ---- calls whose replies show no pair

-- the reply is a conflict
abbrev pub is_conflict : Option (ℕ × Reply) → Bool
is_conflict None = false
is_conflict (Some (at, Indexed q created)) = false
is_conflict (Some (at, Deleted q found)) = false
is_conflict (Some (at, Found p k)) = false
is_conflict (Some (at, Missing)) = false
is_conflict (Some (at, Conflict)) = true

-- a conflict may hide that the write was performed
abbrev pub may_hide : Conflicts → Bool
may_hide Plain = false
may_hide Maybe = true

-- the reply is a conflict that may hide that the write was performed
abbrev pub is_hidden : Conflicts → Option (ℕ × Reply) → Bool
is_hidden conflicts heard = may_hide conflicts && is_conflict heard

-- the call has no reply, or one that may hide that it was performed
abbrev pub IsSilent : Conflicts → Option (ℕ × Reply) → Type 0
IsSilent conflicts heard = (heard ≡ None) ⊎ (is_hidden conflicts heard ≡ true)

-- an index or a delete without a condition, which is always performed
abbrev pub is_unconditional : Op → Bool
is_unconditional Get = false
is_unconditional (Index k None) = true
is_unconditional (Index k (Some c)) = false
is_unconditional (Delete None) = true
is_unconditional (Delete (Some c)) = false
is_unconditional (Create k) = false

-- ---- writes without a reply and without a condition

-- the call has no reply
abbrev pub is_unanswered : Option (ℕ × Reply) → Bool
is_unanswered None = true
is_unanswered (Some heard) = false

-- a delete without a condition
abbrev pub is_plain_delete : Op → Bool
is_plain_delete Get = false
is_plain_delete (Index k c) = false
is_plain_delete (Delete None) = true
is_plain_delete (Delete (Some c)) = false
is_plain_delete (Create k) = false

-- an index without a condition, or a create
abbrev pub is_plain_make : Op → Bool
is_plain_make Get = false
is_plain_make (Index k None) = true
is_plain_make (Index k (Some c)) = false
is_plain_make (Delete c) = false
is_plain_make (Create k) = true

-- a delete without a reply and without a condition
abbrev pub is_lost_delete : Rec → Bool
is_lost_delete r = is_unanswered r.heard && is_plain_delete r.op

-- an index or a create without a reply and without a condition
abbrev pub is_lost_make : Rec → Bool
is_lost_make r = is_unanswered r.heard && is_plain_make r.op

-- it is one of these, and was made before the event
abbrev pub is_made_before : (Rec → Bool) → ℕ → Rec → Bool
is_made_before is event r = is r && nat_lt r.call_at event

-- how many of the records are of the kind
abbrev pub count_of : (Rec → Bool) → List Rec → ℕ
count_of is [] = 0
count_of is (r ∷ rs) = cond (is r) (suc (count_of is rs)) (count_of is rs)

-- ---- what is performed

-- The call r, whose reply shows no pair, may have taken this one: if the pair is known, no reply says which call took
-- it, and the call is an index or a create.
-- Source: profile.
pub record MayHaveTaken (conflicts : Conflicts) (records : List Rec) (r : Rec) (q : Pair) : Type 0 where
  -- its reply shows no pair
  pub silent : IsSilent conflicts r.heard
  -- no reply says which call took the pair
  pub unreported : ¬ IsReportedOf records q
  -- a known pair is that of an index or a create
  pub gives : IsKnown records q → IsSome (value_of r.op)

-- the state that the reply of a performed write shows is the branch's: it was created if the document was missing
abbrev pub AgreesWith : Bool → Option (ℕ × Reply) → Type 0
AgreesWith exists None = ⊤
AgreesWith exists (Some (at, Indexed q created)) = created ≡ not exists
AgreesWith exists (Some (at, Deleted q found)) = found ≡ exists
AgreesWith exists (Some (at, Found p k)) = ⊤
AgreesWith exists (Some (at, Missing)) = ⊤
AgreesWith exists (Some (at, Conflict)) = ⊤

-- The i-th call, r, may be performed on the branch before the event, with the pair q.
-- Source: profile.
pub record MayPerform (facts : Facts) (records : List Rec) (event : ℕ) (b : Branch) (i : ℕ) (r : Rec) (q : Pair) : Type 0 where
  -- r is the i-th call
  pub at : slice_get records i ≡ Some r
  -- it is a write
  pub write : r.op ≢ Get
  -- it was made before the event
  pub called : r.call_at < event
  -- it was not answered before the event
  pub pending : (at : ℕ) (reply : Reply) → r.heard ≡ Some (at, reply) → event ≤ at
  -- its reply shows the pair, or shows none
  pub takes : (pair_of r.heard ≡ Some q) ⊎ MayHaveTaken facts.conflicts records r q
  -- it gives each number that was found with the pair
  pub found : (k : ℕ) → IsFoundWith records q k → value_of r.op ≡ Some k
  -- no other document of the shard is known to have the pair
  pub own : facts.elsewhere q ≡ false
  -- the pair is above that of the document's last change
  pub rises : IsAbove b.least q
  -- the document is at a position before the pair
  pub before : position records b.least ≤ taking_position records q
  -- no known pair is left out
  pub passed : (v : Pair) → IsKnown records v → IsBelow v q → version_of records v ≤ position records b.least
  -- its condition, if it has one, is met
  pub condition : (c : Pair) → condition_of r.op ≡ Some c
      → (b.exists ≡ true) × (position records b.least ≡ position records (Some c)) × IsAtMost b.least (Some c)
  -- a create finds no document
  pub missing : (k : ℕ) → r.op ≡ Create k → b.exists ≡ false
  -- its reply shows what the document was
  pub agrees : AgreesWith b.exists r.heard
  -- a conflict was not performed before
  pub unspent : is_conflict r.heard ≡ true → is_in i b.spent ≡ false
  -- of the deletes without a reply and without a condition fewer were performed than made
  pub deletes : is_lost_delete r ≡ true → b.deletes < count_of (is_made_before is_lost_delete event) records
  -- and of such indexes and creates
  pub makes : is_lost_make r ≡ true → b.makes < count_of (is_made_before is_lost_make event) records

-- the list without the number
abbrev pub without : ℕ → List ℕ → List ℕ
without i [] = []
without i (j ∷ js) = cond (j == i) (without i js) (j ∷ without i js)

-- the event, if the two differ; otherwise the earlier one
abbrev pub moved_at : Bool → ℕ → ℕ → ℕ
moved_at is_same earlier event = cond is_same earlier event

-- the two are the same
abbrev pub is_same_bool : Bool → Bool → Bool
is_same_bool true b = b
is_same_bool false b = not b

-- a conflict of an index or a delete without a condition, which has to be performed if it can be at all
abbrev pub is_owed : Rec → Bool
is_owed r = is_conflict r.heard && is_unconditional r.op

-- The branch after the i-th call, r, was performed with the pair q before the event.
-- Source: profile.
abbrev pub performed : List Rec → ℕ → Branch → ℕ → Rec → Pair → Branch
performed records event b i r q = record {
  least = Some q;
  exists = is_some (value_of r.op);
  flipped_at = moved_at (is_same_bool b.exists (is_some (value_of r.op))) b.flipped_at event;
  arrived_at = moved_at (position records b.least == position records (Some q)) b.arrived_at event;
  owed = cond (is_conflict r.heard) (without i b.owed) b.owed;
  spent = cond (is_owed r) (i ∷ b.spent) b.spent;
  deletes = cond (is_lost_delete r) (suc b.deletes) b.deletes;
  makes = cond (is_lost_make r) (suc b.makes) b.makes;
}
