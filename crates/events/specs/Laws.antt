-- Laws of histories: precedence, linearizable histories, the records of documents.
use Rattle.std.specs.Prelude.{◌≡◌, ◌↔◌, ◌<◌, ◌++◌, ℕ, List, ◌∷◌, Some, slice_get}
use Rattle.doc_register.specs.declared.op.Op.{Op}
use Rattle.doc_register.specs.declared.reply.Reply.{Reply as Answer}
use Rattle.doc_register.specs.declared.state.Conflicts.{Conflicts}
use Rattle.doc_register.specs.Laws.{ChangesNothing}
use Rattle.events.specs.declared.event.Event.{Event}
use Rattle.events.specs.declared.record.Rec.{Rec}
use Rattle.events.specs.Events.{IsCallAt, IsHistory, IsPending, IsReplyAt, Precedes, prefix, records_of}
use Rattle.events.specs.Order.{Explains, IsLinearizable, IsLegalInResponseOrder, Placed}

-- ---- precedence

-- the order of operations is strict
-- Source: Herlihy and Wing, section 2: the order of operations is an irreflexive partial order.
pub record PrecedenceIsStrict : Type 0 where
  -- no call of a history precedes itself
  pub never_itself : (events : List Event) (a : ℕ) → IsHistory events → ¬ Precedes events a a
  -- precedence is transitive
  pub passes_on : (events : List Event) (a b c : ℕ) → IsHistory events → Precedes events a b → Precedes events b c
      → Precedes events a c
  -- a pending call precedes none
  pub pending_before_none : (events : List Event) (a b : ℕ) → IsHistory events → IsPending events a
      → ¬ Precedes events a b

-- ---- linearizable histories

-- a history that is legal in response order is linearizable, whatever conflicts may mean
-- Source: profile.
abbrev pub LegalInResponseOrderIsLinearizable : Type 0
LegalInResponseOrderIsLinearizable = (conflicts : Conflicts) (events : List Event) → IsHistory events → IsLegalInResponseOrder events
    → IsLinearizable conflicts events

-- an order that explains a history still explains it, in the same reading of conflicts, without a pending
-- call that changes nothing (`ChangesNothing`)
-- Source: profile.
abbrev pub UnansweredLeftOut : Type 0
UnansweredLeftOut = (conflicts : Conflicts) (events : List Event) (front back : List Placed) (p : Placed)
    → IsPending events p.no → ChangesNothing p.entry → Explains conflicts events (front ++ p ∷ back)
    → Explains conflicts events (front ++ back)

-- A prefix of a history is a history, and linearizable if the whole history is, in the same reading of
-- conflicts: calls whose replies are cut off are pending.
-- Source: profile.
pub record PrefixesStay : Type 0 where
  -- a prefix of a history is a history
  pub history : (events : List Event) (n : ℕ) → IsHistory events → IsHistory (prefix events n)
  -- a prefix of linearizable events is linearizable
  pub linearizable : (conflicts : Conflicts) (events : List Event) (n : ℕ) → IsLinearizable conflicts events
      → IsLinearizable conflicts (prefix events n)

-- if no reply is at the position n or later, a history is legal in response order if its first n events are
-- Source: profile.
abbrev pub LateCallsChangeNothing : Type 0
LateCallsChangeNothing = (events : List Event) (n : ℕ) → IsHistory events → ((k m : ℕ) (r : Answer) → IsReplyAt events k m r → k < n)
    → IsLegalInResponseOrder (prefix events n) → IsLegalInResponseOrder events

-- ---- the records of documents

-- the record has the index j among those of the document d
abbrev pub IsRecordAt : List Event → List ℕ → ℕ → Rec → Type 0
IsRecordAt events d j r = slice_get (records_of events d) j ≡ Some r

-- Each call has its record among those of its document, and nowhere else. A record says what was heard of its
-- call. Whether one call of a document precedes another shows in their records.
-- Source: Herlihy and Wing, section 2, the subhistories of a history.
pub record IsSplitByDocument (events : List Event) : Type 0 where
  -- each call has a record among those of its document, with its position
  pub recorded : (i n h : ℕ) (d : List ℕ) (op : Op) → IsCallAt events i n h d op → (j : ℕ) × (r : Rec)
      × IsRecordAt events d j r × (r.call_at ≡ i)
  -- each record is of a call of its document, with its number and its operation
  pub of_call : (d : List ℕ) (j : ℕ) (r : Rec) → IsRecordAt events d j r → (h : ℕ)
      × IsCallAt events r.call_at r.no h d r.op
  -- no call has two records, of one document or of two
  pub once : (d e : List ℕ) (j k : ℕ) (r s : Rec) → IsRecordAt events d j r → IsRecordAt events e k s
      → r.call_at ≡ s.call_at → (d ≡ e) × (j ≡ k)
  -- records are in the order of their calls
  pub in_order : (d : List ℕ) (j k : ℕ) (r s : Rec) → IsRecordAt events d j r → IsRecordAt events d k s → j < k
      → r.call_at < s.call_at
  -- a record has a reply and its position if and only if that reply is at that position
  pub heard : (d : List ℕ) (j : ℕ) (r : Rec) → IsRecordAt events d j r → (p : ℕ) (a : Answer)
      → (r.heard ≡ Some (p, a)) ↔ IsReplyAt events p r.no a
  -- one call of a document precedes another if and only if its record has a reply that comes before the
  -- other's call
  pub precedes : (d : List ℕ) (j k : ℕ) (r s : Rec) → IsRecordAt events d j r → IsRecordAt events d k s
      → Precedes events r.no s.no ↔ ((p : ℕ) × (a : Answer) × (r.heard ≡ Some (p, a)) × (p < s.call_at))

-- a history is split into the records of its documents
-- Source: Herlihy and Wing, section 2, the subhistories of a history.
abbrev pub SplitByDocument : Type 0
SplitByDocument = (events : List Event) → IsHistory events → IsSplitByDocument events
