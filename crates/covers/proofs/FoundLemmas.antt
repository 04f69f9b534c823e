-- What the search of one document after another finds.
use Rattle.std.proofs.Common.{ℕ, zero, suc, Bool, false, refl, ◌≡◌, ◌++◌, List, [], ◌∷◌, subst, ◌∙◌, Option, Some, None, slice_get, map}
use Rattle.std.specs.Prelude.{IfSome, MatchOption, Vec}
use Rattle.std.specs.declared.alloc.Global.{Global}
use Rattle.std.proofs.lemmas.Bool.{false≢true}
use Rattle.version_pair.specs.declared.pair.Pair.{Pair}
use Rattle.doc_register.specs.declared.state.Conflicts.{Conflicts}
use Rattle.events.specs.declared.event.Event.{Event}
use Rattle.events.specs.Events.{documents_of, records_of}
use Rattle.version_pair.proofs.ListLemmas.{none_is_not_some, same_some}
use Rattle.places.specs.Places.{AreValid}
use Rattle.places.specs.Witness.{Witness}
use Rattle.doc_check.specs.declared.search.DocAnswer.{DocAnswer}
use Rattle.doc_check.specs.declared.search.DocAnswer.TheVariants.{Found, NotFound}
use Rattle.covers.specs.Covers.{AreWitnesses, HasNoUnpairedCover}
use Rattle.covers.specs.aids.Searched.{AreAlike, AreKept, AreSearched, HasLost, IsAlike, Keeps}
use Rattle.covers.specs.Answered.{AreAnswersFor, IsAnswerFor}
use Rattle.shard_numbers.specs.Taken.{IsTwice, pairs_taken}
use Rattle.covers.proofs.SearchedLemmas.{searched_cover, unordered_uncovered}

-- ---- the answers for all documents

-- a document has its answer
answer_at : (conflicts : Conflicts) (events : List Event) (first : Bool) (ds : List (List ℕ × ℕ)) (xs : List DocAnswer) (k : ℕ) (x : DocAnswer) → AreAnswersFor conflicts events first ds xs
    → slice_get xs k ≡ Some x → (d : List ℕ × ℕ) × (slice_get ds k ≡ Some d) × IsAnswerFor conflicts events first d.0 x
answer_at conflicts events first ds [] k x are at = absurd (none_is_not_some x at)
answer_at conflicts events first [] (y ∷ ys) k x are at = absurd are
answer_at conflicts events first (d ∷ ds) (y ∷ ys) zero x are at = (d, refl, subst (IsAnswerFor conflicts events first d.0) (same_some y x at) are.0)
answer_at conflicts events first (d ∷ ds) (y ∷ ys) (suc k) x are at = answer_at conflicts events first ds ys k x are.1 at

-- a document without an order leaves the history without a cover
pub lost_uncovered : (conflicts : Conflicts) (events : List Event) (first : Bool) (xs : List DocAnswer) → AreAnswersFor conflicts events first (documents_of events) xs → HasLost xs → HasNoUnpairedCover conflicts events
lost_uncovered conflicts events first xs are (k, n, at) =
    let a = answer_at conflicts events first (documents_of events) xs k (NotFound n) are at in
    unordered_uncovered conflicts events k a.0 a.1 a.2.0.3

-- the answers are about the documents, whether they are the first or not
pub answered_anyway : (conflicts : Conflicts) (events : List Event) (first : Bool) (ds : List (List ℕ × ℕ)) (xs : List DocAnswer) → AreAnswersFor conflicts events first ds xs
    → AreAnswersFor conflicts events false ds xs
answered_anyway conflicts events first [] [] are = tt
answered_anyway conflicts events first [] (x ∷ xs) are = absurd are
answered_anyway conflicts events first (d ∷ ds) [] are = absurd are
answered_anyway conflicts events first (d ∷ ds) (x ∷ xs) are = ((are.0.0, λ is. absurd (false≢true is)), answered_anyway conflicts events first ds xs are.1)

-- witnesses that are the answers are of the documents
pub found_searched : (conflicts : Conflicts) (events : List Event) (first : Bool) (ds : List (List ℕ × ℕ)) (ws : List Witness) → AreAnswersFor conflicts events first ds (map Found ws)
    → AreSearched conflicts events first ds ws
found_searched conflicts events first [] [] are = tt
found_searched conflicts events first [] (w ∷ ws) are = absurd are
found_searched conflicts events first (d ∷ ds) [] are = absurd are
found_searched conflicts events first (d ∷ ds) (w ∷ ws) are = (
  record { doc = are.0.0.0; own = are.0.0.1; read = are.0.0.2; valid = are.0.0.3; unpaired = are.0.1 },
  found_searched conflicts events first ds ws are.1,
)

-- the witnesses are of the documents, whether they are the first or not
pub searched_anyway : (conflicts : Conflicts) (events : List Event) (first : Bool) (ds : List (List ℕ × ℕ)) (ws : List Witness) → AreSearched conflicts events first ds ws
    → AreSearched conflicts events false ds ws
searched_anyway conflicts events first [] [] are = tt
searched_anyway conflicts events first [] (w ∷ ws) are = absurd are
searched_anyway conflicts events first (d ∷ ds) [] are = absurd are
searched_anyway conflicts events first (d ∷ ds) (w ∷ ws) are = (
  record { doc = are.0.doc; own = are.0.own; read = are.0.read; valid = are.0.valid; unpaired = λ is. absurd (false≢true is) },
  searched_anyway conflicts events first ds ws are.1,
)

-- ---- other answers about the same

pub kept_snoc : (olds news : List DocAnswer) (y x : DocAnswer) → AreKept olds news → Keeps y x → AreKept (olds ++ y ∷ []) (news ++ x ∷ [])
kept_snoc [] [] y x are is = (is, tt)
kept_snoc [] (v ∷ vs) y x are is = absurd are
kept_snoc (u ∷ us) [] y x are is = absurd are
kept_snoc (u ∷ us) (v ∷ vs) y x are is = (are.0, kept_snoc us vs y x are.1 is)

pub kept_answers : (conflicts : Conflicts) (events : List Event) (ds : List (List ℕ × ℕ)) (olds news : List DocAnswer) → AreAnswersFor conflicts events false ds olds → AreKept olds news
    → AreAnswersFor conflicts events false ds news
kept_answers conflicts events [] [] [] are kept = tt
kept_answers conflicts events [] [] (x ∷ xs) are kept = absurd kept
kept_answers conflicts events [] (y ∷ ys) news are kept = absurd are
kept_answers conflicts events (d ∷ ds) [] news are kept = absurd are
kept_answers conflicts events (d ∷ ds) (y ∷ ys) [] are kept = absurd kept
kept_answers conflicts events (d ∷ ds) (y ∷ ys) (x ∷ xs) are kept =
    ((kept.0 d.0 (records_of events d.0) conflicts are.0.0, λ is. absurd (false≢true is)), kept_answers conflicts events ds ys xs are.1 kept.1)

-- orders of all documents, if those that were searched again have some
pub orders_searched : (events : List Event) (olds news : List DocAnswer) (found : Option (Vec Witness Global)) → AreKept olds news
    → MatchOption found (HasLost news) (λ ws. news ≡ map Found ws.items)
    → IfSome found (λ ws. (conflicts : Conflicts) → AreAnswersFor conflicts events false (documents_of events) olds → AreSearched conflicts events false (documents_of events) ws.items)
orders_searched events olds news None kept is = tt
orders_searched events olds news (Some ws) kept is = λ conflicts are.
    let docs = documents_of events in
    found_searched conflicts events false docs ws.items (subst (AreAnswersFor conflicts events false docs) is (kept_answers conflicts events docs olds news are kept))

-- ---- other places for the same records

-- a witness that is alike is of the same document
pub alike_searched : (conflicts : Conflicts) (events : List Event) (first : Bool) (ds : List (List ℕ × ℕ)) (olds news : List Witness) → AreSearched conflicts events first ds olds → AreAlike olds news
    → AreSearched conflicts events false ds news
alike_searched conflicts events first [] [] [] are alike = tt
alike_searched conflicts events first [] [] (w ∷ ws) are alike = absurd alike
alike_searched conflicts events first [] (v ∷ vs) news are alike = absurd are
alike_searched conflicts events first (d ∷ ds) [] news are alike = absurd are
alike_searched conflicts events first (d ∷ ds) (v ∷ vs) [] are alike = absurd alike
alike_searched conflicts events first (d ∷ ds) (v ∷ vs) (w ∷ ws) are alike = (
  record {
    doc = alike.0.doc ∙ are.0.doc;
    own = alike.0.own ∙ are.0.own;
    read = alike.0.read ∙ are.0.read;
    valid = subst (λ rs. AreValid conflicts rs w.places) are.0.own (subst (λ m. AreValid m v.records w.places) are.0.read alike.0.valid);
    unpaired = λ is. absurd (false≢true is);
  },
  alike_searched conflicts events first ds vs ws are.1 alike.1,
)

-- witnesses that are alike cover the history where they take no pair twice
pub alike_cover : (conflicts : Conflicts) (events : List Event) (first : Bool) (olds news : List Witness) → AreSearched conflicts events first (documents_of events) olds → AreAlike olds news
    → ((x : ℕ × Pair) → IsTwice (pairs_taken events news) x → ⊥) → AreWitnesses conflicts events news
alike_cover conflicts events first olds news are alike distinct =
    searched_cover conflicts events false news (alike_searched conflicts events first (documents_of events) olds news are alike) distinct

-- one more witness that is alike
pub alike_snoc : (olds news : List Witness) (v w : Witness) → AreAlike olds news → IsAlike v w → AreAlike (olds ++ v ∷ []) (news ++ w ∷ [])
alike_snoc [] [] v w are is = (is, tt)
alike_snoc [] (x ∷ xs) v w are is = absurd are
alike_snoc (y ∷ ys) [] v w are is = absurd are
alike_snoc (y ∷ ys) (x ∷ xs) v w are is = (are.0, alike_snoc ys xs v w are.1 is)
