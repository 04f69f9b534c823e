-- How much an answer says of a history for which no order was found.
use Rattle.std.specs.Prelude.{◌≡◌, ℕ, List, Option, Some, None, slice_get}
use Rattle.doc_register.specs.declared.op.Op.{Op}
use Rattle.doc_register.specs.declared.state.Conflicts.{Conflicts}
use Rattle.events.specs.declared.event.Event.{Event}
use Rattle.events.specs.Events.{IsCallAt, documents_of, records_of}
use Rattle.doc_check.specs.NoOrders.{AreAllComplete, HasNoOrder}
use Rattle.evidence.specs.Evidence.{IsDocumentRuledOut}
use Rattle.evidence.specs.declared.certainty.Certainty.{Certainty}
use Rattle.evidence.specs.declared.certainty.Certainty.TheVariants as certainty
use Rattle.evidence.specs.declared.refuted.Refuted.{Refuted}
use Rattle.evidence.specs.declared.refuted.Refuted.TheVariants as evidence
use Rattle.compose.specs.Laws.{IsComplete}

-- The document of the call numbered n has this number.
pub record IsDocumentOf (events : List Event) (n doc : ℕ) : Type 0 where
  pub called : ℕ
  pub shard : ℕ
  pub op : Op
  pub document : List ℕ × ℕ
  -- the call numbered n is of the document
  pub call : IsCallAt events called n shard document.0 op
  -- the document has this number in the history
  pub listed : slice_get (documents_of events) doc ≡ Some document

-- the records of the document of this number are complete, and no order of its answered calls
-- explains their replies
abbrev pub IsWithoutOrder : Conflicts → List Event → ℕ → Type 0
IsWithoutOrder conflicts events doc = (document : List ℕ × ℕ) × (slice_get (documents_of events) doc ≡ Some document)
    × AreAllComplete conflicts (records_of events document.0) × HasNoOrder conflicts (records_of events document.0)

-- the document of the call numbered n is ruled out
abbrev pub IsCallRuledOut : Conflicts → List Event → ℕ → Type 0
IsCallRuledOut conflicts events n = (doc : ℕ) × IsDocumentOf events n doc × IsDocumentRuledOut conflicts events doc

-- the records of the document of the call numbered n are complete, and the document has no order
abbrev pub IsCallWithoutOrder : Conflicts → List Event → ℕ → Type 0
IsCallWithoutOrder conflicts events n = (doc : ℕ) × IsDocumentOf events n doc × IsWithoutOrder conflicts events doc

-- What is said without evidence, if n is the number of the call at which the search first fails. RuledOut: the
-- call's document is ruled out. Answered: the history is complete. DocumentAnswered: it isn't, but the document's
-- records are, and it has no order. Undecided: neither holds.
-- Source: profile.
abbrev pub SaysOfCall : Conflicts → List Event → ℕ → Certainty → Type 0
SaysOfCall conflicts events n certainty.Evident = ⊥
SaysOfCall conflicts events n certainty.ReportedRuledOut = ⊥
SaysOfCall conflicts events n certainty.RuledOut = IsCallRuledOut conflicts events n
SaysOfCall conflicts events n certainty.Answered = IsComplete conflicts events
SaysOfCall conflicts events n certainty.DocumentAnswered = (¬ IsComplete conflicts events) × IsCallWithoutOrder conflicts events n
SaysOfCall conflicts events n certainty.Undecided = (¬ IsComplete conflicts events) × (¬ IsCallWithoutOrder conflicts events n)

-- what is said: ReportedRuledOut with the evidence that a document is ruled out, Evident with any other, and
-- without evidence `SaysOfCall`
-- Source: profile.
abbrev pub Says : Conflicts → List Event → Option Refuted → ℕ → Certainty → Type 0
Says conflicts events (Some (evidence.PairTwice a b)) n said = said ≡ certainty.Evident
Says conflicts events (Some (evidence.NoWriter g)) n said = said ≡ certainty.Evident
Says conflicts events (Some (evidence.StaleGet g w)) n said = said ≡ certainty.Evident
Says conflicts events (Some (evidence.MissedWrite g w)) n said = said ≡ certainty.Evident
Says conflicts events (Some (evidence.StaleSwap a b)) n said = said ≡ certainty.Evident
Says conflicts events (Some (evidence.RuledOut m)) n said = said ≡ certainty.ReportedRuledOut
Says conflicts events None n said = SaysOfCall conflicts events n said
