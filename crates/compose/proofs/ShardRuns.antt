-- Runs by shards: where each document is of one shard, a run is legal exactly where each shard's part is.
use Rattle.std.proofs.Common.{ℕ, suc, ◌≡◌, ◌<◌, List, [], ◌∷◌, refl, sym, ap, subst, ◌∙◌, arith, Bool, true, false, cond, Option, Some, None, slice_get, true≢false}
use Rattle.std.specs.Prelude.{◌==◌, filter, option_map, option_and_then}
use Rattle.std.specs.Cmp.Lexicographic.{bytes_decides}
use Rattle.std.proofs.lemmas.Bool.{eq-eqb, eqb-true}
use Rattle.version_pair.specs.declared.pair.Pair.{Pair}
use Rattle.doc_register.specs.declared.state.DocState.{DocState}
use Rattle.doc_register.specs.declared.state.DocState.TheVariants.{Never}
use Rattle.doc_register.specs.Run.{Entry, IsDocRun, IsLegalRun, PairsDistinct, pair_taken, part_of, taken, taken_at}
use Rattle.doc_register.proofs.RunLaws.{locality}
use Rattle.events.specs.Events.{is_same}
use Rattle.version_pair.proofs.ListLemmas.{compare, none_is_not_some, same_some}
use Rattle.evidence.proofs.FilterLemmas.{kept_order}
use Rattle.compose.proofs.Filtering.{filter_none, part_from, rank, rank_at, rank_once}

-- the entry is of the shard
abbrev pub is_in : ℕ → Entry → Bool
is_in h e = e.shard == h

-- the entries of the shard
abbrev pub run_in : ℕ → List Entry → List Entry
run_in h es = filter (is_in h) es

-- entries of one document are of one shard
abbrev pub HaveOneShard : List Entry → Type 0
HaveOneShard es = (i j : ℕ) (e f : Entry) → slice_get es i ≡ Some e → slice_get es j ≡ Some f → e.doc ≡ f.doc → e.shard ≡ f.shard

-- ---- the parts of documents

-- the entries of a document that is of the shard are those of it on the shard
part_kept : (d : List ℕ) (h : ℕ) (es : List Entry) → ((i : ℕ) (e : Entry) → slice_get es i ≡ Some e → e.doc ≡ d → e.shard ≡ h) → part_of d (run_in h es) ≡ part_of d es
part_kept d h [] own = refl
part_kept d h (e ∷ es) own = by_test (is_in h e) refl (is_same e.doc d) refl (part_kept d h es (λ i f at. own (suc i) f at)) where
  by_test : (b : Bool) → is_in h e ≡ b → (c : Bool) → is_same e.doc d ≡ c → part_of d (run_in h es) ≡ part_of d es
      → part_of d (cond b (e ∷ run_in h es) (run_in h es)) ≡ cond c (e ∷ part_of d es) (part_of d es)
  by_test true own_shard c is later = ap (λ x. cond x (e ∷ part_of d (run_in h es)) (part_of d (run_in h es))) is ∙ ap (λ xs. cond c (e ∷ xs) xs) later
  by_test false out false is later = later
  by_test false out true is later = absurd (true≢false (sym (eq-eqb e.shard h (own 0 e refl ((bytes_decides e.doc d).0 is))) ∙ out))

-- a document that is of another shard has none on the shard
part_left : (d : List ℕ) (h : ℕ) (es : List Entry) → ((i : ℕ) (e : Entry) → slice_get es i ≡ Some e → e.doc ≡ d → e.shard ≡ h → ⊥) → part_of d (run_in h es) ≡ []
part_left d h es other = filter_none (λ e. is_same e.doc d) (run_in h es) (λ i e at. by_test e (part_from (is_in h) es i e at) (is_same e.doc d) refl) where
  by_test : (e : Entry) → (k : ℕ) × (slice_get es k ≡ Some e) × (is_in h e ≡ true) → (b : Bool) → is_same e.doc d ≡ b → is_same e.doc d ≡ false
  by_test e from true is = absurd (other from.0 e from.1 ((bytes_decides e.doc d).0 is) (eqb-true e.shard h from.2))
  by_test e from false is = is

-- the first entry of a document, where it has one
first_of_part : (d : List ℕ) (es : List Entry) (e : Entry) (rest : List Entry) → part_of d es ≡ e ∷ rest → (k : ℕ) × (slice_get es k ≡ Some e) × (e.doc ≡ d)
first_of_part d es e rest is =
    let from = part_from (λ x. is_same x.doc d) es 0 e (ap (λ xs. slice_get xs 0) is) in
    (from.0, from.1, (bytes_decides e.doc d).0 from.2)

-- ---- pairs

-- the entry that takes a pair
taken_entry : (es : List Entry) (i : ℕ) (q : ℕ × Pair) → taken_at es i ≡ Some q → (e : Entry) × (slice_get es i ≡ Some e) × (taken e ≡ Some q)
taken_entry es i q takes = by_option (slice_get es i) refl takes where
  by_option : (o : Option Entry) → slice_get es i ≡ o → option_and_then taken o ≡ Some q → (e : Entry) × (slice_get es i ≡ Some e) × (taken e ≡ Some q)
  by_option None is takes = absurd (none_is_not_some q takes)
  by_option (Some e) is takes = (e, is, takes)

-- it takes one of its own shard
taken_shard : (shard : ℕ) (o : Option Pair) (q : ℕ × Pair) → option_map (λ p. (shard, p)) o ≡ Some q → shard ≡ q.0
taken_shard shard None q takes = absurd (none_is_not_some q takes)
taken_shard shard (Some p) q takes = ap (λ (x : ℕ × Pair). x.0) (same_some (shard, p) q takes)

-- pairs that are distinct are so on each shard
distinct_in : (h : ℕ) (es : List Entry) → PairsDistinct es → PairsDistinct (run_in h es)
distinct_in h es distinct i j q one two = compare i j (apart i j one two) (apart j i two one) where
  apart : (i j : ℕ) → taken_at (run_in h es) i ≡ Some q → taken_at (run_in h es) j ≡ Some q → i < j → ⊥
  apart i j one two less =
      let x = taken_entry (run_in h es) i q one in
      let y = taken_entry (run_in h es) j q two in
      let m = kept_order (is_in h) es i j x.0 y.0 less x.1 y.1 in
      let below : m.0 < m.1 = m.2 in
      let same : m.0 ≡ m.1 = distinct m.0 m.1 q (ap (option_and_then taken) m.3.at ∙ x.2) (ap (option_and_then taken) m.4.at ∙ y.2) in
      omega arith

-- and pairs that are so on each shard are distinct
distinct_all : (es : List Entry) → ((i : ℕ) (e : Entry) → slice_get es i ≡ Some e → PairsDistinct (run_in e.shard es)) → PairsDistinct es
distinct_all es distinct i j q one two =
    let x = taken_entry es i q one in
    let y = taken_entry es j q two in
    let h : ℕ = x.0.shard in
    let own : h ≡ q.0 = taken_shard h (pair_taken x.0.reply x.0.hidden) q x.2 in
    let other : y.0.shard ≡ q.0 = taken_shard y.0.shard (pair_taken y.0.reply y.0.hidden) q y.2 in
    let here : is_in h x.0 ≡ true = eq-eqb h h refl in
    let there : is_in h y.0 ≡ true = eq-eqb y.0.shard h (other ∙ sym own) in
    rank_once (is_in h) es i j x.0 y.0 x.1 y.1 here there
    (distinct i x.0 x.1 (rank (is_in h) es i) (rank (is_in h) es j) q
    (ap (option_and_then taken) (rank_at (is_in h) es i x.0 x.1 here) ∙ x.2) (ap (option_and_then taken) (rank_at (is_in h) es j y.0 y.1 there) ∙ y.2))

-- ---- runs

-- the document is a run of it alone
abbrev HasDocRun : List Entry → Type 0
HasDocRun es = (t : DocState) × IsDocRun Never es t

-- no entry is a run
no_run : (es : List Entry) → es ≡ [] → HasDocRun es
no_run es none = (Never, subst (λ xs. IsDocRun Never xs Never) (sym none) refl)

-- of a legal run each shard's part is one
pub legal_in : (h : ℕ) (es : List Entry) → HaveOneShard es → IsLegalRun es → IsLegalRun (run_in h es)
legal_in h es one legal = (locality (run_in h es)).1 (λ d. by_part d (part_of d es) refl, distinct_in h es ((locality es).0 legal).1) where
  by_shard : (d : List ℕ) (k : ℕ) (e : Entry) → slice_get es k ≡ Some e → e.doc ≡ d → (b : Bool) → is_in h e ≡ b → HasDocRun (part_of d (run_in h es))
  by_shard d k e at own true is =
      subst HasDocRun (sym (part_kept d h es (λ i f bt same. one i k f e bt at (same ∙ sym own) ∙ eqb-true e.shard h is))) (((locality es).0 legal).0 d)
  by_shard d k e at own false is =
      no_run (part_of d (run_in h es)) (part_left d h es (λ i f bt same shard.
      true≢false (sym (eq-eqb e.shard h (one k i e f at bt (own ∙ sym same) ∙ shard)) ∙ is)))

  by_part : (d : List ℕ) (xs : List Entry) → part_of d es ≡ xs → HasDocRun (part_of d (run_in h es))
  by_part d [] is =
      no_run (part_of d (run_in h es)) (part_left d h es (λ i e at own shard.
      none_is_not_some e (ap (λ xs. slice_get xs (rank (λ (x : Entry). is_same x.doc d) es i)) (sym is) ∙ rank_at (λ (x : Entry). is_same x.doc d) es i e at ((bytes_decides e.doc d).1 own))))
  by_part d (e ∷ rest) is =
      let first = first_of_part d es e rest is in
      by_shard d first.0 e first.1 first.2 (is_in h e) refl

-- and where each shard's part is one the run is legal
pub legal_all : (es : List Entry) → HaveOneShard es → ((i : ℕ) (e : Entry) → slice_get es i ≡ Some e → IsLegalRun (run_in e.shard es)) → IsLegalRun es
legal_all es one legal = (locality es).1 (λ d. by_part d (part_of d es) refl, distinct_all es (λ i e at. ((locality (run_in e.shard es)).0 (legal i e at)).1)) where
  by_part : (d : List ℕ) (xs : List Entry) → part_of d es ≡ xs → HasDocRun (part_of d es)
  by_part d [] is = no_run (part_of d es) is
  by_part d (e ∷ rest) is =
      let first = first_of_part d es e rest is in
      subst HasDocRun (part_kept d e.shard es (λ i f bt same. one i first.0 f e bt first.1 (same ∙ sym first.2))) (((locality (run_in e.shard es)).0 (legal first.0 e first.1)).0 d)
