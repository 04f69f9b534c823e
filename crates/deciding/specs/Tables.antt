-- Tables of branches along the events of a document, and documents that are ruled out: at some reply no branch is left.
use Rattle.std.specs.Prelude.{◌≡◌, ◌≢◌, ◌==◌, ◌&&◌, ◌||◌, ℕ, zero, suc, Bool, true, false, not, cond, List, [], ◌∷◌, Option, None, Some, nat_lt, nat_le, slice_get}
use Rattle.version_pair.specs.declared.pair.Pair.{Pair}
use Rattle.doc_register.specs.declared.op.Op.{Op}
use Rattle.doc_register.specs.declared.op.Op.TheVariants.{Get, Index, Delete, Create}
use Rattle.doc_register.specs.declared.reply.Reply.{Reply}
use Rattle.doc_register.specs.declared.reply.Reply.TheVariants.{Indexed, Deleted, Found, Missing, Conflict}
use Rattle.doc_register.specs.declared.state.Conflicts.{Conflicts}
use Rattle.doc_register.specs.Register.{condition_of}
use Rattle.deciding.specs.Facts.{Facts}
use Rattle.events.specs.declared.record.Rec.{Rec}
use Rattle.deciding.specs.Reported.{known_pairs}
use Rattle.deciding.specs.Positions.{version_of}
use Rattle.deciding.specs.Branches.{Branch, Covers, IsBranchOf, IsCovered, is_among, is_in, never_changed, position}
use Rattle.deciding.specs.Steps.{MayPerform, is_hidden, is_owed, performed, without}

-- ---- a call is made

-- a get will find a pair that the document at the position is past
abbrev pub is_past : List Rec → ℕ → Option (ℕ × Reply) → Bool
is_past records n None = false
is_past records n (Some (at, Indexed q created)) = false
is_past records n (Some (at, Deleted q found)) = false
is_past records n (Some (at, Found p k)) = nat_lt (version_of records p) n
is_past records n (Some (at, Missing)) = false
is_past records n (Some (at, Conflict)) = false

-- the branch after the i-th call, r, was made: if it will be answered with a conflict that has no condition, it has to be
-- performed before that
abbrev pub owing : ℕ → Rec → Branch → Branch
owing i r b = record {
  least = b.least;
  exists = b.exists;
  flipped_at = b.flipped_at;
  arrived_at = b.arrived_at;
  owed = cond (is_owed r) (i ∷ b.owed) b.owed;
  spent = b.spent;
  deletes = b.deletes;
  makes = b.makes;
}

-- the i-th call, r, is made: each branch that is not past what it will find is in the next table
abbrev pub AreLeftAtCall : List Rec → ℕ → Rec → List Branch → List Branch → Type 0
AreLeftAtCall records i r table next = (b : Branch) → IsBranchOf table b
    → is_past records (position records b.least) r.heard ≡ false → IsCovered records next (owing i r b)

-- ---- a call is answered

-- the document has the pair of the condition
abbrev pub has_pair : List Rec → Pair → Branch → Bool
has_pair records c b = is_among (known_pairs records) c && b.exists && position records b.least == version_of records c

-- a write under this condition, made at the event, may have been refused by now: the document has not the pair, or it
-- may have had another one at that time
abbrev pub is_refused_under : List Rec → Pair → ℕ → Branch → Bool
is_refused_under records c called b = not (has_pair records c b) || nat_lt called b.arrived_at

-- the i-th call, with this operation and made at the event, may have been answered with a conflict by now
abbrev pub is_refused : List Rec → ℕ → ℕ → Op → Branch → Bool
is_refused records i called Get b = true
is_refused records i called (Index k None) b = not (is_in i b.owed)
is_refused records i called (Index k (Some c)) b = is_refused_under records c called b
is_refused records i called (Delete None) b = not (is_in i b.owed)
is_refused records i called (Delete (Some c)) b = is_refused_under records c called b
is_refused records i called (Create k) b = b.exists || nat_lt called b.flipped_at

-- the i-th call, r, may have had this reply by now
-- Source: profile.
abbrev pub is_served_with : List Rec → ℕ → Rec → Branch → Option (ℕ × Reply) → Bool
is_served_with records i r b None = true
is_served_with records i r b (Some (at, Indexed q created)) = nat_le (version_of records q) (position records b.least)
is_served_with records i r b (Some (at, Deleted q found)) = nat_le (version_of records q) (position records b.least)
is_served_with records i r b (Some (at, Found p k)) = nat_le (version_of records p) (position records b.least)
is_served_with records i r b (Some (at, Missing)) = not b.exists || nat_lt r.call_at b.flipped_at
is_served_with records i r b (Some (at, Conflict)) = is_refused records i r.call_at r.op b

-- the i-th call, r, may have had its reply by now
abbrev pub is_served : List Rec → ℕ → Rec → Branch → Bool
is_served records i r b = is_served_with records i r b r.heard

-- the document is not past the pair of the condition, if there is one
abbrev pub is_reachable : List Rec → Option Pair → Branch → Bool
is_reachable records None b = true
is_reachable records (Some c) b = nat_le (position records b.least) (position records (Some c))

-- the i-th call, r, may be performed later than the branch
abbrev pub may_come_later : Conflicts → List Rec → ℕ → Rec → Branch → Bool
may_come_later conflicts records i r b =
    is_hidden conflicts r.heard && (not (is_in i b.spent) && is_reachable records (condition_of r.op) b)

-- A branch is in the tables at the reply to the i-th call, r: among those that served it if it may have been answered,
-- and among those that wait unless that is all it may do.
pub record IsPlaced (conflicts : Conflicts) (records : List Rec) (i : ℕ) (r : Rec) (served waiting : List Branch) (b : Branch) : Type 0 where
  -- it served the call
  pub serves : is_served records i r b ≡ true → IsCovered records served b
  -- it waits
  pub waits : (is_served records i r b && not (may_come_later conflicts records i r b)) ≡ false → IsCovered records waiting b

-- a branch that covers it is in the tables
abbrev pub IsMet : Conflicts → List Rec → ℕ → Rec → List Branch → List Branch → Branch → Type 0
IsMet conflicts records i r served waiting b = (a : Branch) × Covers records a b × IsPlaced conflicts records i r served waiting a

-- the branch after the reply to the i-th call
abbrev pub settled : ℕ → Branch → Branch
settled i b = record {
  least = b.least;
  exists = b.exists;
  flipped_at = b.flipped_at;
  arrived_at = b.arrived_at;
  owed = without i b.owed;
  spent = without i b.spent;
  deletes = b.deletes;
  makes = b.makes;
}

-- The i-th call, r, is answered at the event: each branch makes steps until it served the call, and those that did are
-- in the next table.
-- Source: profile.
pub record AreLeftAtReply (facts : Facts) (records : List Rec) (event i : ℕ) (r : Rec) (table next : List Branch) : Type 0 where
  pub served : List Branch
  pub waiting : List Branch
  -- what may be before the reply
  pub first : (b : Branch) → IsBranchOf table b → IsMet facts.conflicts records i r served waiting b
  -- each step of each branch that waits
  pub steps : (b : Branch) → IsBranchOf waiting b → (j : ℕ) (s : Rec) (q : Pair) → MayPerform facts records event b j s q
      → IsMet facts.conflicts records i r served waiting (performed records event b j s q)
  -- what served the call is left
  pub left : (b : Branch) → IsBranchOf served b → IsCovered records next (settled i b)

-- ---- events

-- From the table before the event to the one after it.
-- Source: profile.
pub record IsNextTable (facts : Facts) (records : List Rec) (event : ℕ) (table next : List Branch) : Type 0 where
  -- a call of the document is made
  pub called : (i : ℕ) (r : Rec) → slice_get records i ≡ Some r → r.call_at ≡ event → AreLeftAtCall records i r table next
  -- one is answered
  pub answered : (i : ℕ) (r : Rec) (reply : Reply) → slice_get records i ≡ Some r → r.heard ≡ Some (event, reply)
      → AreLeftAtReply facts records event i r table next
  -- neither
  pub other : ((i : ℕ) (r : Rec) → slice_get records i ≡ Some r → r.call_at ≢ event)
      → ((i : ℕ) (r : Rec) (reply : Reply) → slice_get records i ≡ Some r → r.heard ≢ Some (event, reply))
      → (b : Branch) → IsBranchOf table b → IsCovered records next b

-- the table has what the document may be before the event
-- Source: profile.
abbrev pub IsTableAt : Facts → List Rec → ℕ → List Branch → Type 0
IsTableAt facts records zero table = IsCovered records table never_changed
IsTableAt facts records (suc event) table = (before : List Branch) × IsTableAt facts records event before
    × IsNextTable facts records event before table

-- The document is ruled out at the call with the number no: there are tables along its events up to the reply to that
-- call, and the one after that reply is empty.
-- Source: profile.
pub record IsRuledOut (facts : Facts) (records : List Rec) (no : ℕ) : Type 0 where
  pub number : ℕ
  pub call : Rec
  -- the call is one of the records
  pub at : slice_get records number ≡ Some call
  -- it has the number
  pub named : call.no ≡ no
  pub replied : ℕ
  pub reply : Reply
  -- it was answered
  pub heard : call.heard ≡ Some (replied, reply)
  -- no branch is left after its reply
  pub none : IsTableAt facts records (suc replied) []
