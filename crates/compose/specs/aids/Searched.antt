-- What the search has found of the documents of a history, and what that says of the history.
use Rattle.std.specs.Prelude.{◌≡◌, ℕ, ◌<◌, List, Some, slice_get}
use Rattle.doc_register.specs.declared.state.Conflicts.{Conflicts}
use Rattle.events.specs.declared.event.Event.{Event}
use Rattle.events.specs.Events.{documents_of, records_of}
use Rattle.events.specs.Order.{IsLinearizable}
use Rattle.doc_check.specs.NoOrders.{Unordered}
use Rattle.doc_check.specs.Search.{FindsUnpaired, IsAbout}
use Rattle.doc_check.specs.declared.search.DocAnswer.{DocAnswer}
use Rattle.doc_check.specs.declared.search.DocAnswer.TheVariants.{NotFound}
use Rattle.compose.specs.Verdicts.{HasNoOrderFound}
use Rattle.compose.specs.declared.checking.SearchOutcome.{SearchOutcome}
use Rattle.compose.specs.declared.checking.SearchOutcome.TheVariants.{Found as Explained, NotFound as Unexplained}

-- the answer is about the document at this index
abbrev pub AnswersDocument : Conflicts → List Event → ℕ → DocAnswer → Type 0
AnswersDocument conflicts events k answer = (d : List ℕ × ℕ) → slice_get (documents_of events) k ≡ Some d
    → IsAbout d.0 (records_of events d.0) conflicts answer × FindsUnpaired conflicts (records_of events d.0) answer

-- these are indices of the first answers, that many, and no other of these answers has no order
pub record AreUnordered (answers : List DocAnswer) (count : ℕ) (docs : List ℕ) : Type 0 where
  pub within : (i doc : ℕ) → slice_get docs i ≡ Some doc → doc < count
  pub listed : (doc : ℕ) (n : Unordered) → doc < count → slice_get answers doc ≡ Some (NotFound n) → (i : ℕ) × (slice_get docs i ≡ Some doc)

-- What a search says of a history: one order of all calls explains it; or no order was found.
abbrev pub IsSearchOutcome : Conflicts → List Event → SearchOutcome → Type 0
IsSearchOutcome conflicts events Explained = IsLinearizable conflicts events
IsSearchOutcome conflicts events (Unexplained place) = HasNoOrderFound conflicts events
