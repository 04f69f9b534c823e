-- All documents: their state with the pairs used so far, its step, and legal runs. In Herlihy and Wing a
-- sequential history is legal if each object's part of it is. Here the documents of a shard are joined by one
-- thing: the pairs that they used. So the parts of all documents are a legal run only together with distinct
-- pairs.
use Rattle.std.specs.Prelude.{◌≡◌, ◌≢◌, ◌==◌, ℕ, List, [], ◌∷◌, ◌++◌, Option, Some, None, IfSome, option_map, option_and_then, slice_get, filter, Contains}
use Rattle.std.specs.Cmp.Lexicographic.{pointwise}
use Rattle.std.specs.Option.{option_to_list}
use Rattle.version_pair.specs.declared.pair.Pair.{Pair}
use Rattle.doc_register.specs.Register.{DocStep}
use Rattle.doc_register.specs.declared.op.Op.{Op}
use Rattle.doc_register.specs.declared.reply.Reply.{Reply}
use Rattle.doc_register.specs.declared.reply.Reply.TheVariants.{Indexed, Deleted, Found, Missing, Conflict}
use Rattle.doc_register.specs.declared.state.DocState.{DocState}
use Rattle.doc_register.specs.declared.state.DocState.TheVariants.{Never}

-- One entry of a run: an operation on a document of a shard, its reply, and the pair that the reply hides.
pub record Entry : Type 0 where
  pub shard : ℕ
  pub doc : List ℕ
  pub op : Op
  pub reply : Reply
  pub hidden : Option Pair

-- the pair that an entry takes: that of Indexed or Deleted, the hidden one of a Conflict, none of Found and
-- Missing
abbrev pub pair_taken : Reply → Option Pair → Option Pair
pair_taken (Indexed q created) h = Some q
pair_taken (Deleted q found) h = Some q
pair_taken (Found p k) h = None
pair_taken Missing h = None
pair_taken Conflict h = h

-- the pair that the entry takes, with its shard
abbrev pub taken : Entry → Option (ℕ × Pair)
taken e = option_map (λ q. (e.shard, q)) (pair_taken e.reply e.hidden)

-- The state of each document, and the pairs used so far, each with its shard.
-- Source: profile.
pub record State : Type 0 where
  -- what each document is
  pub document : List ℕ → DocState
  -- the pairs used so far, each with its shard
  pub used : List (ℕ × Pair)

-- no document was ever written, and no pair is used: the index is empty
-- Source: profile.
abbrev pub start : State
start = record { document = λ d. Never; used = [] }

-- One step: its document takes a step of its own, the others stay as they were, and a pair that it takes was
-- unused before and is used now.
-- Source: OpenSearch (`own`); profile: that no pair comes twice in a shard.
pub record Step (s : State) (e : Entry) (t : State) : Type 0 where
  -- the entry's document takes a step of its own
  pub own : DocStep (s.document e.doc) e.op e.reply e.hidden (t.document e.doc)
  -- the other documents stay as they were
  pub others : (d : List ℕ) → d ≢ e.doc → t.document d ≡ s.document d
  -- a pair that the entry takes was not used in its shard
  pub unused : IfSome (taken e) (λ q. ¬ Contains s.used q)
  -- a pair that the entry takes is used from then on
  pub used : t.used ≡ option_to_list (taken e) ++ s.used

-- the entries are steps one after another, from s to t
-- Source: Herlihy and Wing, section 2, sequential history.
abbrev pub IsRun : State → List Entry → State → Type 0
IsRun s [] t = t ≡ s
IsRun s (e ∷ es) t = (m : State) × Step s e m × IsRun m es t

-- the entries are steps one after another, from the start
-- Source: Herlihy and Wing, section 2, legal sequential history.
abbrev pub IsLegalRun : List Entry → Type 0
IsLegalRun es = (t : State) × IsRun start es t

-- ---- one document of a run

-- the entries of the document, in their order
-- Source: Herlihy and Wing, section 2, the subhistory of an object.
abbrev pub part_of : List ℕ → List Entry → List Entry
part_of d es = filter (λ e. pointwise ◌==◌ e.doc d) es

-- The entries are steps of one document, one after another, from s to t. Their ids and shards don't matter,
-- nor do the pairs used elsewhere.
-- Source: Herlihy and Wing, section 2, the sequential specification of an object.
abbrev pub IsDocRun : DocState → List Entry → DocState → Type 0
IsDocRun s [] t = t ≡ s
IsDocRun s (e ∷ es) t = (m : DocState) × DocStep s e.op e.reply e.hidden m × IsDocRun m es t

-- the pair that the entry at index i takes, with its shard
abbrev pub taken_at : List Entry → ℕ → Option (ℕ × Pair)
taken_at es i = option_and_then taken (slice_get es i)

-- no pair of a shard is taken by two entries
-- Source: profile.
abbrev pub PairsDistinct : List Entry → Type 0
PairsDistinct es = (i j : ℕ) (q : ℕ × Pair) → taken_at es i ≡ Some q → taken_at es j ≡ Some q → i ≡ j
