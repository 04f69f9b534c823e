-- Histories: which lists of events are histories, and what they say of calls and documents. Calls and replies
-- are the invocations and responses of Herlihy and Wing, section 2. That an outcome is lost is this project's
-- profile: it says that no reply will come, and nothing else.
use Rattle.std.specs.Prelude.{◌≡◌, ℕ, suc, ◌<◌, ◌==◌, Bool, true, false, List, [], ◌∷◌, Option, Some, None, option_map, option_and_then, if◌then◌else◌, fold, take, filter_map, slice_get}
use Rattle.std.specs.Cmp.Lexicographic.{pointwise}
use Rattle.doc_register.specs.declared.op.Op.{Op}
use Rattle.doc_register.specs.declared.reply.Reply.{Reply as Answer}
use Rattle.doc_register.specs.Register.{fits}
use Rattle.version_pair.specs.Shards.{most_shards}
use Rattle.events.specs.declared.event.Event.{Event}
use Rattle.events.specs.declared.event.Event.TheVariants.{Call, Reply, Lost}
use Rattle.events.specs.declared.record.Rec.{Rec}

-- the two ids are the same bytes
abbrev pub is_same : List ℕ → List ℕ → Bool
is_same d e = pointwise ◌==◌ d e

-- ---- the event at a position; positions are counted from 0

-- the event is the call numbered n, on the document d of the shard h
abbrev pub IsCallAt : List Event → ℕ → ℕ → ℕ → List ℕ → Op → Type 0
IsCallAt events i n h d op = slice_get events i ≡ Some (Call h n d op)

-- the event is the reply r to the call numbered n
abbrev pub IsReplyAt : List Event → ℕ → ℕ → Answer → Type 0
IsReplyAt events i n r = slice_get events i ≡ Some (Reply n r)

-- the event passes the test
abbrev pub PassesAt : (Event → Bool) → List Event → ℕ → Type 0
PassesAt test events i = option_map test (slice_get events i) ≡ Some true

-- the event is the call numbered n
abbrev pub is_call : ℕ → Event → Bool
is_call n (Call h m d op) = m == n
is_call n (Reply m r) = false
is_call n (Lost m) = false

-- the event is the ending of the call numbered n: its reply, or that its outcome is lost (indeterminate)
abbrev pub is_ending : ℕ → Event → Bool
is_ending n (Call h m d op) = false
is_ending n (Reply m r) = m == n
is_ending n (Lost m) = m == n

-- the event is a call on the document d
abbrev pub is_call_of : List ℕ → Event → Bool
is_call_of d (Call h m e op) = is_same e d
is_call_of d (Reply m r) = false
is_call_of d (Lost m) = false

-- the event is a call
abbrev pub is_any_call : Event → Bool
is_any_call (Call h m d op) = true
is_any_call (Reply m r) = false
is_any_call (Lost m) = false

-- A call's shard is one of the 1,024 that there can be, 0 to 1,023. Of a reply or a loss this says nothing.
-- Source: profile.
abbrev pub HasShard : Event → Type 0
HasShard (Call h n d op) = h < most_shards
HasShard (Reply n r) = Unit {0}
HasShard (Lost n) = Unit {0}

-- ---- histories

-- The events are a history: call numbers are distinct; an ending comes after the call of its number, and a
-- call has at most one ending; a reply fits its operation; all calls of a document name one shard, 0 to
-- 1,023.
-- Source: Herlihy and Wing, section 2, well-formed history; profile (`replies_fit`, `one_shard`, `shards`).
pub record IsHistory (events : List Event) : Type 0 where
  -- no two calls have one number
  pub called_once : (n i j : ℕ) → PassesAt (is_call n) events i → PassesAt (is_call n) events j → i ≡ j
  -- a call has at most one ending, a reply or a loss
  pub ended_once : (n i j : ℕ) → PassesAt (is_ending n) events i → PassesAt (is_ending n) events j → i ≡ j
  -- an ending comes after the call of its number
  pub ended_after_call : (n i : ℕ) → PassesAt (is_ending n) events i → (j : ℕ) × (j < i)
      × PassesAt (is_call n) events j
  -- a reply fits the operation of its call
  pub replies_fit : (n i j h : ℕ) (d : List ℕ) (op : Op) (r : Answer) → IsReplyAt events i n r
      → IsCallAt events j n h d op → fits op r ≡ true
  -- all calls of a document name one shard
  pub one_shard : (i j n m h g : ℕ) (d : List ℕ) (op o : Op) → IsCallAt events i n h d op → IsCallAt events j m g d o
      → h ≡ g
  -- each call's shard is 0 to 1,023
  pub shards : (i n h : ℕ) (d : List ℕ) (op : Op) → IsCallAt events i n h d op → h < most_shards

-- The call numbered a precedes the call numbered b: a's reply comes before b's call. A lost outcome makes no
-- call precede another.
-- Source: Herlihy and Wing, section 2, the order of operations.
pub record Precedes (events : List Event) (a b : ℕ) : Type 0 where
  -- the position of a's reply
  pub answered : ℕ
  -- the position of b's call
  pub called : ℕ
  pub before : answered < called
  pub reply : (r : Answer) × IsReplyAt events answered a r
  pub call : PassesAt (is_call b) events called

-- The call numbered n is pending: it is there, and has no reply. A lost call is pending for ever.
-- Source: Herlihy and Wing, section 2, pending invocation.
pub record IsPending (events : List Event) (n : ℕ) : Type 0 where
  -- the call is there
  pub called : (i : ℕ) × PassesAt (is_call n) events i
  -- it has no reply
  pub unanswered : (i : ℕ) (r : Answer) → ¬ IsReplyAt events i n r

-- the first n events: a prefix of the history. A `Front` is such a list, seen in its history without a copy.
abbrev pub prefix : List Event → ℕ → List Event
prefix events n = take n events

-- ---- documents

-- the documents, with d of the shard h at the end unless it is there
abbrev pub with_document : List (List ℕ × ℕ) → List ℕ → ℕ → List (List ℕ × ℕ)
with_document [] d h = (d, h) ∷ []
with_document (e ∷ es) d h = if is_same d e.0 then e ∷ es else e ∷ with_document es d h

-- the documents after one more event: a call's document goes to the end unless it is there
abbrev pub with_event : List (List ℕ × ℕ) → Event → List (List ℕ × ℕ)
with_event ds (Call h n d op) = with_document ds d h
with_event ds (Reply n r) = ds
with_event ds (Lost n) = ds

-- the documents of a history, each with its shard, in the order of their first calls
abbrev pub documents_of : List Event → List (List ℕ × ℕ)
documents_of events = fold with_event [] events

-- ---- records

-- the position of the first event that passes the test, if one does
abbrev pub place_of : (Event → Bool) → List Event → Option ℕ
place_of test [] = None
place_of test (e ∷ es) = if test e then Some 0 else option_map suc (place_of test es)

-- the positions of the events that pass the test, if the first event has the position i
abbrev pub places_from : ℕ → (Event → Bool) → List Event → List ℕ
places_from i test [] = []
places_from i test (e ∷ es) = if test e then i ∷ places_from (suc i) test es else places_from (suc i) test es

-- the reply at a position, with the position
abbrev pub heard_at : ℕ → Event → Option (ℕ × Answer)
heard_at i (Call h n d op) = None
heard_at i (Reply n r) = Some (i, r)
heard_at i (Lost n) = None

-- what was heard of the call numbered n: the position of its reply, and the reply; nothing if it has none
abbrev pub heard_of : List Event → ℕ → Option (ℕ × Answer)
heard_of events n =
    option_and_then (λ i. option_and_then (heard_at i) (slice_get events i)) (place_of (is_ending n) events)

-- the call at a position as a record
abbrev pub record_from : List Event → ℕ → Event → Option Rec
record_from events i (Call h n d op) = Some (record { no = n; op = op; call_at = i; heard = heard_of events n })
record_from events i (Reply n r) = None
record_from events i (Lost n) = None

-- the call at a position as a record; nothing if another event is there
abbrev pub record_at : List Event → ℕ → Option Rec
record_at events i = option_and_then (record_from events i) (slice_get events i)

-- the history restricted to the document d: its calls in order, each with what was heard of it
-- Source: Herlihy and Wing, section 2, the subhistory of an object.
abbrev pub records_of : List Event → List ℕ → List Rec
records_of events d = filter_map (record_at events) (places_from 0 (is_call_of d) events)
