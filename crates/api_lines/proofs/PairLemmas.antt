-- The pair of two numbers in their ranges.
use Rattle.std.proofs.Common.{ℕ, ◌≡◌, ◌<◌, ◌≤◌, ◌^◌, refl, sym, ap, ◌∙◌, Bool, true, false, Option, Some, None, ◌↔◌}
use Rattle.std.specs.Prelude.{IfSome, IsSome, nat_le, nat_lt}
use Rattle.std.proofs.lemmas.Bool.{leb-true, le-leb, lt-ltb, ltb-true}
use Rattle.std.proofs.lemmas.Option.{none-some, same_Some}
use Rattle.version_pair.specs.declared.pair.Pair.{Pair}
use Rattle.version_pair.proofs.PairLemmas.{same_pair}
use Rattle.api_lines.specs.Pairs.{pair_of, tested_pair}

-- what the three tests give for the numbers of a pair
tested_is : (p : Pair) (x y z : Bool) (a : nat_le 1 p.term ≡ x) (b : nat_lt p.term (2 ^ 63) ≡ y) (c : nat_lt p.seq (2 ^ 63) ≡ z)
    → tested_pair p.term p.seq x y z a b c ≡ Some p
tested_is p true true true a b c = ap (λ (q : Pair). Some q) (same_pair _ p refl refl)
tested_is p true true false a b c = absurd (let yes : nat_lt p.seq (2 ^ 63) ≡ true = lt-ltb p.seq (2 ^ 63) p.seq_fits in cc)
tested_is p true false z a b c = absurd (let yes : nat_lt p.term (2 ^ 63) ≡ true = lt-ltb p.term (2 ^ 63) p.term_fits in cc)
tested_is p false y z a b c = absurd (let yes : nat_le 1 p.term ≡ true = le-leb 1 p.term p.term_from_one in cc)

pub pair_of-some : (p : Pair) → pair_of p.term p.seq ≡ Some p
unfolding pair_of
pair_of-some p = tested_is p (nat_le 1 p.term) (nat_lt p.term (2 ^ 63)) (nat_lt p.seq (2 ^ 63)) refl refl refl

tested_none : (term seq : ℕ) (x y z : Bool) (a : nat_le 1 term ≡ x) (b : nat_lt term (2 ^ 63) ≡ y) (c : nat_lt seq (2 ^ 63) ≡ z)
    → ((1 ≤ term) × (term < 2 ^ 63) × (seq < 2 ^ 63) → ⊥) → tested_pair term seq x y z a b c ≡ None
tested_none term seq true true true a b c out = absurd (out (leb-true 1 term a, ltb-true term (2 ^ 63) b, ltb-true seq (2 ^ 63) c))
tested_none term seq true true false a b c out = refl
tested_none term seq true false z a b c out = refl
tested_none term seq false y z a b c out = refl

pair_of-none : (term seq : ℕ) → ((1 ≤ term) × (term < 2 ^ 63) × (seq < 2 ^ 63) → ⊥) → pair_of term seq ≡ None
unfolding pair_of
pair_of-none term seq out = tested_none term seq (nat_le 1 term) (nat_lt term (2 ^ 63)) (nat_lt seq (2 ^ 63)) refl refl refl out

-- what makes a pair of two numbers where it can, and none elsewhere
pub pair_of-made : (term seq : ℕ) (o : Option Pair) → (IsSome o ↔ ((1 ≤ term) × (term < 2 ^ 63) × (seq < 2 ^ 63)))
    → IfSome o (λ p. (p.term ≡ term) × (p.seq ≡ seq)) → o ≡ pair_of term seq
pair_of-made term seq (Some p) when is = sym (ap (λ t. pair_of t seq) (sym is.0) ∙ (ap (λ s. pair_of p.term s) (sym is.1) ∙ pair_of-some p))
pair_of-made term seq None when is = sym (pair_of-none term seq (λ within. let some : false ≡ true = when.1 within in cc))

-- the numbers of the pair that was made
pub pair_of-numbers : (term seq : ℕ) (p : Pair) → pair_of term seq ≡ Some p → (p.term ≡ term) × (p.seq ≡ seq)
unfolding pair_of
pair_of-numbers term seq p made = by_tests (nat_le 1 term) (nat_lt term (2 ^ 63)) (nat_lt seq (2 ^ 63)) refl refl refl made where
  by_tests : (x y z : Bool) (a : nat_le 1 term ≡ x) (b : nat_lt term (2 ^ 63) ≡ y) (c : nat_lt seq (2 ^ 63) ≡ z)
      → tested_pair term seq x y z a b c ≡ Some p → (p.term ≡ term) × (p.seq ≡ seq)
  by_tests true true true a b c made = let is = same_Some _ p made in (sym (ap (λ (q : Pair). q.term) is), sym (ap (λ (q : Pair). q.seq) is))
  by_tests true true false a b c made = absurd (none-some p made)
  by_tests true false z a b c made = absurd (none-some p made)
  by_tests false y z a b c made = absurd (none-some p made)
