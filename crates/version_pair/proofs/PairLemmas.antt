-- Two pairs are equal where their terms and their sequence numbers are.
use Rattle.std.proofs.Common.{ℕ, ◌≡◌, ◌<◌, ◌≤◌, ◌^◌, ◌∙◌, ap, subst, rules, nat_eq, true}
use Rattle.std.specs.Prelude.{◌&&◌}
use Rattle.std.proofs.Math.Bridge.{le_prop}
use Rattle.version_pair.specs.declared.pair.Pair.{Pair}

-- the pair of two numbers in their ranges
abbrev pair_of : (t s : ℕ) → 1 ≤ t → t < 2 ^ 63 → s < 2 ^ 63 → Pair
pair_of t s a b c = record { term = t; seq = s; term_from_one = a; term_fits = b; seq_fits = c }

same_numbers : (t s : ℕ) (a a' : 1 ≤ t) (b b' : t < 2 ^ 63) (c c' : s < 2 ^ 63) → pair_of t s a b c ≡ pair_of t s a' b' c'
same_numbers t s a a' b b' c c' =
    ap (λ (x : 1 ≤ t). pair_of t s x b c) (le_prop a a')
    ∙ (ap (λ (x : t < 2 ^ 63). pair_of t s a' x c) (le_prop b b')
    ∙ ap (λ (x : s < 2 ^ 63). pair_of t s a' b' x) (le_prop c c'))

along : (t t' s s' : ℕ) → t ≡ t' → s ≡ s' → (a : 1 ≤ t) (b : t < 2 ^ 63) (c : s < 2 ^ 63) (a' : 1 ≤ t') (b' : t' < 2 ^ 63) (c' : s' < 2 ^ 63) → pair_of t s a b c ≡ pair_of t' s' a' b' c'
along t t' s s' e f a b c =
    subst (λ (u : ℕ). (a' : 1 ≤ u) (b' : u < 2 ^ 63) (c' : s' < 2 ^ 63) → pair_of t s a b c ≡ pair_of u s' a' b' c') e
    (λ a' b'. subst (λ (v : ℕ). (c' : v < 2 ^ 63) → pair_of t s a b c ≡ pair_of t v a' b' c') f
    (λ c'. same_numbers t s a a' b b' c c'))

pub same_pair : (p q : Pair) → p.term ≡ q.term → p.seq ≡ q.seq → p ≡ q
same_pair p q e f = along p.term q.term p.seq q.seq e f p.term_from_one p.term_fits p.seq_fits q.term_from_one q.term_fits q.seq_fits

-- what `==` tests, and what it means
pub same_by_test : (p q : Pair) → (nat_eq p.term q.term && nat_eq p.seq q.seq) ≡ true → p ≡ q
same_by_test p q h = same_pair p q (search (rules, h)) (search (rules, h))
