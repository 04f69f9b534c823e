-- What the answers of the searches say of the documents of a history, and what is found by them together.
use Rattle.std.specs.Prelude.{◌≡◌, ℕ, Bool, true, List, [], ◌∷◌}
use Rattle.doc_register.specs.declared.state.Conflicts.{Conflicts}
use Rattle.events.specs.declared.event.Event.{Event}
use Rattle.events.specs.Events.{records_of}
use Rattle.doc_check.specs.Search.{FindsUnpaired, IsAbout}
use Rattle.doc_check.specs.declared.search.DocAnswer.{DocAnswer}
use Rattle.covers.specs.Covers.{AreWitnesses, HasNoUnpairedCover}
use Rattle.covers.specs.declared.covering.Covering.{Covering}
use Rattle.covers.specs.declared.covering.Covering.TheVariants.{Found, NotFound}

-- What an answer says of a document: it is about the document and its records. If it is the first that the
-- search gave, places without a given pair are found if any such places are valid.
abbrev pub IsAnswerFor : Conflicts → List Event → Bool → List ℕ → DocAnswer → Type 0
IsAnswerFor conflicts events first d answer =
    IsAbout d (records_of events d) conflicts answer × (first ≡ true → FindsUnpaired conflicts (records_of events d) answer)

-- the answers are for these documents, one by one
abbrev pub AreAnswersFor : Conflicts → List Event → Bool → List (List ℕ × ℕ) → List DocAnswer → Type 0
AreAnswersFor conflicts events first [] [] = Unit {0}
AreAnswersFor conflicts events first [] (x ∷ xs) = ⊥
AreAnswersFor conflicts events first (d ∷ ds) [] = ⊥
AreAnswersFor conflicts events first (d ∷ ds) (x ∷ xs) = IsAnswerFor conflicts events first d.0 x × AreAnswersFor conflicts events first ds xs

-- What is found: witnesses that cover the history. If there are none, and the answers were the first that the
-- search gave, no entries without a given pair cover it.
abbrev pub IsCovered : Conflicts → List Event → Bool → Covering → Type 0
IsCovered conflicts events first (Found ws) = AreWitnesses conflicts events ws.items
IsCovered conflicts events first (NotFound why) = first ≡ true → HasNoUnpairedCover conflicts events
