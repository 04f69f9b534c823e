-- Pairs with their shards are told apart by a test of their numbers.
use Rattle.std.proofs.Common.{ℕ, suc, ◌+◌, ◌-◌, ◌≡◌, ◌<◌, ◌≤◌, inl, inr, List, sym, ap, subst, ◌∙◌, arith, Bool, true, false, Some, slice_get, nat_eq, rules}
use Rattle.std.specs.Prelude.{◌&&◌}
use Rattle.std.proofs.lemmas.Bool.{cases_lt, false≢true}
use Rattle.version_pair.specs.declared.pair.Pair.{Pair}
use Rattle.version_pair.proofs.PairLemmas.{same_by_test}
use Rattle.version_pair.proofs.ListLemmas.{same_some}
use Rattle.events.specs.TakenPairs.{AreApart}

-- two are the same where their shards and their pairs are
pub same_parts : (x y : ℕ × Pair) → x.0 ≡ y.0 → x.1 ≡ y.1 → x ≡ y
same_parts x y shard pair =
    let first : x ≡ (y.0, x.1) = ap (λ g. (g, x.1)) shard in
    first ∙ ap (λ q. (y.0, q)) pair

-- the test by which they are told apart
abbrev pub same_test : ℕ × Pair → ℕ × Pair → Bool
same_test x y = nat_eq x.0 y.0 && (nat_eq x.1.term y.1.term && nat_eq x.1.seq y.1.seq)

-- what it lets through is the same
pub same_from_test : (x y : ℕ × Pair) → same_test x y ≡ true → x ≡ y
same_from_test x y h = same_parts x y (search (rules, h)) (same_by_test x.1 y.1 (search (rules, h)))

-- an element is the same as itself
pub test_itself : (x : ℕ × Pair) → same_test x x ≡ true
test_itself x = search rules

-- what it refuses is not the same
pub other_from_test : (x y : ℕ × Pair) → same_test x y ≡ false → x ≡ y → ⊥
other_from_test x y unless same =
    false≢true (sym (subst (λ z. same_test x z ≡ false) (sym same) unless) ∙ test_itself x)

-- no entry takes the pair of the one before it, up to one entry more, which doesn't either
pub apart_more : {T : Type 0} (takes : T → ℕ × Pair) (xs : List T) (from k : ℕ) (a b : T) → 1 ≤ k → AreApart takes xs from k → slice_get xs (k - 1) ≡ Some a
    → slice_get xs k ≡ Some b → same_test (takes a) (takes b) ≡ false → AreApart takes xs from (k + 1)
apart_more {T} takes xs from k a b low apart at bt other i x y up less ct dt same = elim (cases_lt (suc i) k) as (λ _. ⊥) [
  | inl before ↦ apart i x y up before ct dt same
  | inr not ↦ last (omega (arith, less, not))
] where
  last : suc i ≡ k → ⊥
  last end =
      let place : k - 1 ≡ i = omega (arith, end) in
      let one : a ≡ x = same_some a x (sym at ∙ (ap (slice_get xs) place ∙ ct)) in
      let two : b ≡ y = same_some b y (sym bt ∙ (ap (slice_get xs) (sym end) ∙ dt)) in
      other_from_test (takes a) (takes b) other (ap takes one ∙ (same ∙ ap takes (sym two)))
