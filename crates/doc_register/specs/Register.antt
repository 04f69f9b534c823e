-- One document as a register of versions: what it shows, when a write is performed, and its step. The
-- operations and replies are those of OpenSearch: get, index, delete, and index with `op_type=create`. That a
-- document is one number is this project's profile, and so are its states.
use Rattle.std.specs.Prelude.{◌≡◌, ℕ, Bool, true, false, not, Option, Some, None}
use Rattle.version_pair.specs.declared.pair.Pair.{Pair}
use Rattle.version_pair.specs.PairOrder.{IsBelow}
use Rattle.doc_register.specs.declared.op.Op.{Op}
use Rattle.doc_register.specs.declared.op.Op.TheVariants.{Get, Index, Delete, Create}
use Rattle.doc_register.specs.declared.reply.Reply.{Reply}
use Rattle.doc_register.specs.declared.reply.Reply.TheVariants.{Indexed, Deleted, Found, Missing, Conflict}
use Rattle.doc_register.specs.declared.state.DocState.{DocState}
use Rattle.doc_register.specs.declared.state.DocState.TheVariants.{Never, Gone, Here}

-- whether the operation can have a reply of this kind: a get Found or Missing, an index Indexed or Conflict,
-- a delete Deleted or Conflict, a create Conflict or an Indexed that says created
-- Source: OpenSearch.
abbrev pub fits : Op → Reply → Bool
fits Get (Indexed q created) = false
fits Get (Deleted q found) = false
fits Get (Found p k) = true
fits Get Missing = true
fits Get Conflict = false
fits (Index k c) (Indexed q created) = true
fits (Index k c) (Deleted q found) = false
fits (Index k c) (Found p j) = false
fits (Index k c) Missing = false
fits (Index k c) Conflict = true
fits (Delete c) (Indexed q created) = false
fits (Delete c) (Deleted q found) = true
fits (Delete c) (Found p j) = false
fits (Delete c) Missing = false
fits (Delete c) Conflict = true
fits (Create k) (Indexed q created) = created
fits (Create k) (Deleted q found) = false
fits (Create k) (Found p j) = false
fits (Create k) Missing = false
fits (Create k) Conflict = true

-- the condition of an index or a delete, if it has one: the pair that its document must have
abbrev pub condition_of : Op → Option Pair
condition_of Get = None
condition_of (Index k c) = c
condition_of (Delete c) = c
condition_of (Create k) = None

-- the number that an index or a create gives its document
abbrev pub value_of : Op → Option ℕ
value_of Get = None
value_of (Index k c) = Some k
value_of (Delete c) = None
value_of (Create k) = Some k

-- the pair in a reply: that of a change, or of the document that was found
abbrev pub pair_of_reply : Reply → Option Pair
pair_of_reply (Indexed q created) = Some q
pair_of_reply (Deleted q found) = Some q
pair_of_reply (Found p k) = Some p
pair_of_reply Missing = None
pair_of_reply Conflict = None

-- the reply of a get: Found with the pair and the number if the document exists, otherwise Missing
-- Source: OpenSearch, get document.
abbrev pub shown : DocState → Reply
shown Never = Missing
shown (Gone p) = Missing
shown (Here p k) = Found p k

-- the document exists
abbrev pub is_here : DocState → Bool
is_here Never = false
is_here (Gone p) = false
is_here (Here p k) = true

-- The document exists, and its last change has this pair. A deleted document has no pair in this sense.
-- Source: OpenSearch, `if_seq_no` and `if_primary_term`; profile: missing and deleted documents.
abbrev pub HasPair : DocState → Pair → Type 0
HasPair Never c = ⊥
HasPair (Gone p) c = ⊥
HasPair (Here p k) c = p ≡ c

-- the pair of the document's last change, a delete included, if it has one
abbrev pub last_pair : DocState → Option Pair
last_pair Never = None
last_pair (Gone p) = Some p
last_pair (Here p k) = Some p

-- The pair is greater than the pair of the document's last change, a delete included. Each pair exceeds a
-- document that was never written.
-- Source: profile.
abbrev pub Exceeds : Pair → DocState → Type 0
Exceeds q Never = Unit {0}
Exceeds q (Gone p) = IsBelow p q
Exceeds q (Here p k) = IsBelow p q

-- there is no condition, or the document has its pair
-- Source: OpenSearch, optimistic concurrency control.
abbrev pub IsMet : DocState → Option Pair → Type 0
IsMet s None = Unit {0}
IsMet s (Some c) = HasPair s c

-- The operation is a write, and in this state it is performed: an index or a delete if its condition is met,
-- a create if the document does not exist. A get never is.
-- Source: OpenSearch; profile: that a delete of a missing document is performed, as a change of its own.
abbrev pub IsPerformed : DocState → Op → Type 0
IsPerformed s Get = ⊥
IsPerformed s (Index k c) = IsMet s c
IsPerformed s (Delete c) = IsMet s c
IsPerformed s (Create k) = is_here s ≡ false

-- The reply to a performed write that takes the pair q: Indexed, with `created` if and only if the document
-- did not exist, or Deleted, with `found` if and only if it did.
-- Source: OpenSearch, `result`.
abbrev pub performed_reply : DocState → Op → Pair → Reply
performed_reply s Get q = Missing
performed_reply s (Index k c) q = Indexed q (not (is_here s))
performed_reply s (Delete c) q = Deleted q (is_here s)
performed_reply s (Create k) q = Indexed q (not (is_here s))

-- The document after a performed write that takes the pair q: it exists with q and the write's number, or it
-- was deleted with q.
-- Source: OpenSearch.
abbrev pub performed_state : DocState → Op → Pair → DocState
performed_state s Get q = s
performed_state s (Index k c) q = Here q k
performed_state s (Delete c) q = Gone q
performed_state s (Create k) q = Here q k

-- the write is performed with the pair q and leaves the document as t
pub record Performs (s : DocState) (op : Op) (q : Pair) (t : DocState) : Type 0 where
  -- in the state s the write is performed
  pub allowed : IsPerformed s op
  -- q exceeds the pair of the document's last change
  pub rises : Exceeds q s
  -- t is what a performed write leaves
  pub leaves : t ≡ performed_state s op q

-- A write's step, by its reply: the rows of the table below that are not of a get. A conflict with a hidden
-- pair is a performed write whose reply does not show it.
-- Source: OpenSearch; profile.
abbrev pub WriteStep : DocState → Op → Reply → Option Pair → DocState → Type 0
WriteStep s op (Indexed q created) None t = Performs s op q t × (Indexed q created ≡ performed_reply s op q)
WriteStep s op (Indexed q created) (Some h) t = ⊥
WriteStep s op (Deleted q found) None t = Performs s op q t × (Deleted q found ≡ performed_reply s op q)
WriteStep s op (Deleted q found) (Some h) t = ⊥
WriteStep s op (Found p k) h t = ⊥
WriteStep s op Missing h t = ⊥
WriteStep s op Conflict None t = (¬ IsPerformed s op) × (t ≡ s)
WriteStep s op Conflict (Some q) t = Performs s op q t

-- A step of one document: the state before it, the operation, its reply, the pair that the reply hides, the
-- state after it.
--
-- As a table, in which q is always greater than the pair of the state before, if that has one:
--
-- | operation | state before | reply | hidden | state after |
-- |---|---|---|---|---|
-- | get | Never or Gone(p) | Missing | none | the same |
-- | get | Here(p, k) | Found(p, k) | none | the same |
-- | index k, no condition | Never or Gone(p) | Indexed(q), created | none | Here(q, k) |
-- | index k, no condition | Here(p, j) | Indexed(q), not created | none | Here(q, k) |
-- | index k with the condition c | Here(c, j) | Indexed(q), not created | none | Here(q, k) |
-- | index k with the condition c | any other | Conflict | none | the same |
-- | delete, no condition | Never or Gone(p) | Deleted(q), not found | none | Gone(q) |
-- | delete, no condition | Here(p, j) | Deleted(q), found | none | Gone(q) |
-- | delete with the condition c | Here(c, j) | Deleted(q), found | none | Gone(q) |
-- | delete with the condition c | any other | Conflict | none | the same |
-- | create k | Never or Gone(p) | Indexed(q), created | none | Here(q, k) |
-- | create k | Here(p, j) | Conflict | none | the same |
-- | any write that a row above performs with q | as in that row | Conflict | q | as in that row |
--
-- What is in no row is no step: a Conflict on an index or a delete without a condition is none, unless it
-- hides a pair, and no other reply hides one.
--
-- Both readings of a conflict are steps. If nothing is hidden, the write was not performed, and this is a
-- step only if the write is not performed in that state. If the pair q is hidden, it is the step of the same
-- write, performed with q; only the reply says Conflict, and the pair counts as used like any other. Which of
-- the two may occur is said in one place, the field `plain` of `IsOrder`: under Plain no entry of an order
-- hides a pair, and under Maybe any conflict of a write may hide one. So what is linearizable under Plain is
-- linearizable under Maybe.
-- Source: Herlihy and Wing, section 2, the sequential specification of an object; OpenSearch and profile (its
-- rows).
abbrev pub DocStep : DocState → Op → Reply → Option Pair → DocState → Type 0
DocStep s Get r h t = (r ≡ shown s) × (h ≡ None) × (t ≡ s)
DocStep s (Index k c) r h t = WriteStep s (Index k c) r h t
DocStep s (Delete c) r h t = WriteStep s (Delete c) r h t
DocStep s (Create k) r h t = WriteStep s (Create k) r h t
