-- What the search of one document after another finds; and the places of witnesses, counted.
use Rattle.std.proofs.Common.{ℕ, zero, suc, Bool, true, ◌≡◌, ◌+◌, ◌<◌, ◌≤◌, ◌++◌, List, [], ◌∷◌, sym, ap, subst, ◌∙◌, arith, Some, slice_get, map, length, take, Ok, Err, Result}
use Rattle.std.specs.Prelude.{IfOk, option_map}
use Rattle.std.specs.declared.alloc.AllocError.{AllocError}
use Rattle.std.proofs.Math.Numerals.{add-one}
use Rattle.doc_register.specs.declared.state.Conflicts.{Conflicts}
use Rattle.events.specs.declared.event.Event.{Event}
use Rattle.events.specs.declared.record.Rec.{Rec}
use Rattle.events.specs.Events.{documents_of, records_of}
use Rattle.version_pair.proofs.ListLemmas.{get_within, same_some, take_one_more}
use Rattle.places.specs.Documents.{witness_places}
use Rattle.places.specs.Witness.{Witness}
use Rattle.doc_check.specs.Search.{FindsUnpaired, IsAbout}
use Rattle.doc_check.specs.declared.search.DocAnswer.{DocAnswer}
use Rattle.compose.specs.Laws.{places_in}
use Rattle.compose.specs.aids.Searched.{AnswersDocument}
use Rattle.covers.specs.Answered.{AreAnswersFor, IsAnswerFor}

-- an answer about the records and the id of a document is about it
pub answers_document : (conflicts : Conflicts) (events : List Event) (k : ℕ) (id : List ℕ) (records : List Rec) (result : Result DocAnswer AllocError)
    → option_map (λ d. records_of events d.0) (slice_get (documents_of events) k) ≡ Some records
    → option_map (λ d. d.0) (slice_get (documents_of events) k) ≡ Some id → IfOk result (IsAbout id records conflicts) → IfOk result (FindsUnpaired conflicts records)
    → IfOk result (AnswersDocument conflicts events k)
answers_document conflicts events k id records (Err e) own named about complete = tt
answers_document conflicts events k id records (Ok answer) own named about complete = λ d at.
    let same : id ≡ d.0 = same_some id d.0 (sym named ∙ ap (option_map (λ e. e.0)) at) in
    let recorded : records ≡ records_of events d.0 = same_some records (records_of events d.0) (sym own ∙ ap (option_map (λ e. records_of events e.0)) at) in (
      subst (λ i. IsAbout i (records_of events d.0) conflicts answer) same (subst (λ rs. IsAbout id rs conflicts answer) recorded about),
      subst (λ rs. FindsUnpaired conflicts rs answer) recorded complete,
    )

-- ---- the answers for all documents

answered_snoc : (conflicts : Conflicts) (events : List Event) (first : Bool) (ds : List (List ℕ × ℕ)) (xs : List DocAnswer) (d : List ℕ × ℕ) (x : DocAnswer) → AreAnswersFor conflicts events first ds xs
    → IsAnswerFor conflicts events first d.0 x → AreAnswersFor conflicts events first (ds ++ d ∷ []) (xs ++ x ∷ [])
answered_snoc conflicts events first [] [] d x are is = (is, tt)
answered_snoc conflicts events first [] (y ∷ ys) d x are is = absurd are
answered_snoc conflicts events first (c ∷ cs) [] d x are is = absurd are
answered_snoc conflicts events first (c ∷ cs) (y ∷ ys) d x are is = (are.0, answered_snoc conflicts events first cs ys d x are.1 is)

-- one more document
pub answered_one_more : (conflicts : Conflicts) (events : List Event) (xs : List DocAnswer) (k : ℕ) (x : DocAnswer) → k < length (documents_of events)
    → AreAnswersFor conflicts events true (take k (documents_of events)) xs → AnswersDocument conflicts events k x
    → AreAnswersFor conflicts events true (take (k + 1) (documents_of events)) (xs ++ x ∷ [])
answered_one_more conflicts events xs k x within are answers =
    let d = get_within (documents_of events) k within in
    let is = answers d.0 d.1 in
    subst (λ ds. AreAnswersFor conflicts events true ds (xs ++ x ∷ [])) (sym (ap (λ n. take n (documents_of events)) (add-one k) ∙ take_one_more (documents_of events) k d.0 d.1))
    (answered_snoc conflicts events true (take k (documents_of events)) xs d.0 x are (is.0, λ yes. is.1))

-- ---- counting places

-- one more witness
pub places_one_more : (ws : List Witness) (i : ℕ) (w : Witness) → slice_get ws i ≡ Some w
    → places_in (map witness_places (take (i + 1) ws)) ≡ places_in (map witness_places (take i ws)) + length w.places
places_one_more ws i w at =
    ap (λ n. places_in (map witness_places (take n ws))) (add-one i) ∙ (ap (λ vs. places_in (map witness_places vs)) (take_one_more ws i w at) ∙ placed_snoc (take i ws) w) where
      placed_snoc : (vs : List Witness) (w : Witness) → places_in (map witness_places (vs ++ w ∷ [])) ≡ places_in (map witness_places vs) + length w.places
      placed_snoc [] w = omega arith
      placed_snoc (v ∷ vs) w = let rest = placed_snoc vs w in omega arith

-- the first witnesses have no more places than all
pub places_of_front : (ws : List Witness) (i : ℕ) → places_in (map witness_places (take i ws)) ≤ places_in (map witness_places ws)
places_of_front [] zero = omega arith
places_of_front [] (suc i) = omega arith
places_of_front (w ∷ ws) zero = omega arith
places_of_front (w ∷ ws) (suc i) = let rest = places_of_front ws i in omega arith
