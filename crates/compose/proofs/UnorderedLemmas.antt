-- The documents for which no order was found are documents of the history.
use Rattle.std.proofs.Common.{ℕ, suc, true, ◌≡◌, ◌<◌, List, [], ◌∷◌, Bool, arith, ap, refl, length}
use Rattle.doc_register.specs.declared.state.Conflicts.{Conflicts}
use Rattle.events.specs.declared.event.Event.{Event}
use Rattle.events.specs.Events.{documents_of}
use Rattle.evidence.specs.Evidence.{AreDocuments}
use Rattle.doc_check.specs.declared.search.DocAnswer.{DocAnswer}
use Rattle.covers.specs.Answered.{AreAnswersFor}
use Rattle.compose.specs.aids.Searched.{AreUnordered}

-- there are as many answers as documents
answers_length : (conflicts : Conflicts) (events : List Event) (first : Bool) (ds : List (List ℕ × ℕ)) (xs : List DocAnswer) → AreAnswersFor conflicts events first ds xs → length xs ≡ length ds
answers_length conflicts events first [] [] all = refl
answers_length conflicts events first [] (x ∷ xs) all = absurd all
answers_length conflicts events first (d ∷ ds) [] all = absurd all
answers_length conflicts events first (d ∷ ds) (x ∷ xs) all = ap (λ n. suc n) (answers_length conflicts events first ds xs all.1)

-- the documents without an order are documents of the history
pub are_documents : (conflicts : Conflicts) (events : List Event) (xs : List DocAnswer) (docs : List ℕ) → AreAnswersFor conflicts events true (documents_of events) xs → AreUnordered xs (length xs) docs
    → AreDocuments events docs
are_documents conflicts events xs docs all unordered i doc at =
    let below : doc < length xs = unordered.within i doc at in
    let same : length xs ≡ length (documents_of events) = answers_length conflicts events true (documents_of events) xs all in
    omega arith
