-- Linearizable histories: orders of a history, which of them respect it, and response order.
use Rattle.std.specs.Prelude.{◌≡◌, ℕ, ◌<◌, List, Option, Some, None, option_and_then, map, filter_map, slice_get}
use Rattle.doc_register.specs.declared.reply.Reply.{Reply as Answer}
use Rattle.doc_register.specs.declared.state.Conflicts.{Conflicts}
use Rattle.doc_register.specs.declared.state.Conflicts.TheVariants.{Plain}
use Rattle.doc_register.specs.Run.{Entry, IsLegalRun}
use Rattle.events.specs.declared.event.Event.{Event}
use Rattle.events.specs.declared.event.Event.TheVariants.{Call, Reply, Lost}
use Rattle.events.specs.Events.{IsCallAt, IsReplyAt, Precedes, is_call, place_of}

-- One call in an order: its number, and its entry in the run.
pub record Placed : Type 0 where
  pub no : ℕ
  pub entry : Entry

-- the entries of an order alone: a run
abbrev pub run_of : List Placed → List Entry
run_of order = map (λ p. p.entry) order

-- the entry has the shard, the document and the operation of the call with that number; its reply is left
-- open
abbrev pub IsOfCall : List Event → Placed → Type 0
IsOfCall events p = (i : ℕ) × IsCallAt events i p.no p.entry.shard p.entry.doc p.entry.op

-- An order of a history. A call is in it at most once, an answered call exactly once and with its reply, a
-- pending call with any reply or not at all. Under plain conflicts no reply hides a pair.
-- Source: Herlihy and Wing, section 2: a history is extended by responses and then completed.
pub record IsOrder (conflicts : Conflicts) (events : List Event) (order : List Placed) : Type 0 where
  -- each entry is of a call of the history
  pub calls : (i : ℕ) (p : Placed) → slice_get order i ≡ Some p → IsOfCall events p
  -- no call is in the order twice
  pub once : (i j : ℕ) (p q : Placed) → slice_get order i ≡ Some p → slice_get order j ≡ Some q → p.no ≡ q.no → i ≡ j
  -- an answered call is in it, with its reply
  pub answered : (k n : ℕ) (r : Answer) → IsReplyAt events k n r → (i : ℕ) × (p : Placed)
      × (slice_get order i ≡ Some p) × (p.no ≡ n) × (p.entry.reply ≡ r)
  -- under plain conflicts no entry hides a pair
  pub plain : conflicts ≡ Plain → (i : ℕ) (p : Placed) → slice_get order i ≡ Some p → p.entry.hidden ≡ None

-- of any two calls in the order, however far apart, if one precedes the other, it comes first
-- Source: Herlihy and Wing, section 2, the second condition of linearizability.
abbrev pub Respects : List Event → List Placed → Type 0
Respects events order = (i j : ℕ) (p q : Placed) → slice_get order i ≡ Some p → slice_get order j ≡ Some q
    → Precedes events p.no q.no → i < j

-- the order explains the history: it is an order of the history, respects it, and is a legal run
-- Source: Herlihy and Wing, section 2.
pub record Explains (conflicts : Conflicts) (events : List Event) (order : List Placed) : Type 0 where
  -- it is an order of the history
  pub is_order : IsOrder conflicts events order
  -- it respects the history
  pub respects : Respects events order
  -- it is a legal run
  pub legal : IsLegalRun (run_of order)

-- some order explains the history: one order of all its calls, over all documents
-- Source: Herlihy and Wing, section 2, linearizability.
abbrev pub IsLinearizable : Conflicts → List Event → Type 0
IsLinearizable conflicts events = (order : List Placed) × Explains conflicts events order

-- ---- response order

-- the call event as an entry with the reply r, which hides no pair, so that a conflict is a refusal; none of
-- another event
abbrev pub placed_with : Answer → Event → Option Placed
placed_with r (Call h n d op) = Some (record { no = n; entry = record { shard = h; doc = d; op = op; reply = r; hidden = None } })
placed_with r (Reply n s) = None
placed_with r (Lost n) = None

-- the call numbered n, with the reply r to it
abbrev pub call_with : List Event → ℕ → Answer → Option Placed
call_with events n r =
    option_and_then (λ i. option_and_then (placed_with r) (slice_get events i)) (place_of (is_call n) events)

-- the call that a reply answers
abbrev pub answered_by : List Event → Event → Option Placed
answered_by events (Call h n d op) = None
answered_by events (Reply n r) = call_with events n r
answered_by events (Lost n) = None

-- The answered calls in response order: by the positions of their replies. Pending calls are left out, and a
-- conflict is read as not performed. This order respects every history: if a's reply comes before b's call,
-- it comes before b's reply.
-- Source: profile.
abbrev pub reply_order : List Event → List Placed
reply_order events = filter_map (answered_by events) events

-- the history is legal in response order: the answered calls, by the positions of their replies, are a legal
-- run
-- Source: profile.
abbrev pub IsLegalInResponseOrder : List Event → Type 0
IsLegalInResponseOrder events = IsLegalRun (run_of (reply_order events))
