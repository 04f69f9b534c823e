-- The least pair above another one.
use Rattle.std.proofs.Common.{ℕ, ◌≡◌, ◌<◌, ◌≤◌, ◌+◌, ◌^◌, ◌⊎◌, inl, inr, sym, ◌∙◌, arith, Option, Some, None}
use Rattle.std.specs.Prelude.{◌↔◌, IsSome, IfSome}
use Rattle.std.proofs.lemmas.Bool.{cases_lt, false≢true}
use Rattle.version_pair.specs.declared.pair.Pair.{Pair}
use Rattle.version_pair.specs.PairOrder.{IsBelow}
use Rattle.version_pair.proofs.PairLemmas.{same_pair}
use Rattle.deciding.specs.Above.{IsLeastAbove}

-- what a pair that is made of two numbers is
abbrev pub IsMadeOf : ℕ → ℕ → Option Pair → Type 0
IsMadeOf t s o = (IsSome o ↔ ((1 ≤ t) × (t < 2 ^ 63) × (s < 2 ^ 63))) × IfSome o (λ p. (p.term ≡ t) × (p.seq ≡ s))

not_some : IsSome {T = Pair} None → ⊥
not_some is = false≢true is

-- no pair is below that of the least numbers
pub first_least : (o : Option Pair) → IsMadeOf 1 0 o → IsLeastAbove None o
first_least None made = absurd (not_some (made.0.1 (omega arith, omega arith, omega arith)))
first_least (Some q) made = (tt, λ r above. by_order r (cases_lt q.term r.term) (cases_lt 0 r.seq)) where
  by_order : (r : Pair) → ((q.term < r.term) ⊎ (r.term ≤ q.term)) → ((0 < r.seq) ⊎ (r.seq ≤ 0)) → (q ≡ r) ⊎ IsBelow q r
  by_order r (inl more) other = inr (inl more)
  by_order r (inr not) (inl more) =
      let one : q.term ≡ 1 = made.1.0 in let zero_seq : q.seq ≡ 0 = made.1.1 in let from : 1 ≤ r.term = r.term_from_one in
      inr (inr (omega arith, omega arith))
  by_order r (inr not) (inr nor) =
      let one : q.term ≡ 1 = made.1.0 in let zero_seq : q.seq ≡ 0 = made.1.1 in let from : 1 ≤ r.term = r.term_from_one in
      inl (same_pair q r (omega arith) (omega arith))

-- the pair with the next number
pub next_least : (p q : Pair) → IsMadeOf p.term (p.seq + 1) (Some q) → IsLeastAbove (Some p) (Some q)
next_least p q made = (inr (sym made.1.0, (let up : q.seq ≡ p.seq + 1 = made.1.1 in omega arith)), λ r above. by_order r above) where
  by_order : (r : Pair) → IsBelow p r → (q ≡ r) ⊎ IsBelow q r
  by_order r (inl more) = let same : q.term ≡ p.term = made.1.0 in inr (inl (omega arith))
  by_order r (inr (same, more)) = by_seq (cases_lt q.seq r.seq) where
    by_seq : ((q.seq < r.seq) ⊎ (r.seq ≤ q.seq)) → (q ≡ r) ⊎ IsBelow q r
    by_seq (inl less) = inr (inr (made.1.0 ∙ same, less))
    by_seq (inr not) = let up : q.seq ≡ p.seq + 1 = made.1.1 in inl (same_pair q r (made.1.0 ∙ same) (omega arith))

-- if the next number is past the range, the pair with the next term
pub over_least : (p : Pair) (o : Option Pair) → IsMadeOf p.term (p.seq + 1) None → IsMadeOf (p.term + 1) 0 o → IsLeastAbove (Some p) o
over_least p o past made = by_made o made (cases_lt (p.seq + 1) (2 ^ 63)) where
  full : ((p.seq + 1 < 2 ^ 63) ⊎ (2 ^ 63 ≤ p.seq + 1)) → 2 ^ 63 ≤ p.seq + 1
  full (inl within) = absurd (not_some (past.0.1 (p.term_from_one, p.term_fits, within)))
  full (inr over) = over

  next_term : (r : Pair) → (2 ^ 63 ≤ p.seq + 1) → IsBelow p r → p.term < r.term
  next_term r over (inl more) = more
  next_term r over (inr (same, more)) = let fits : r.seq < 2 ^ 63 = r.seq_fits in absurd (omega arith)

  by_made : (o : Option Pair) → IsMadeOf (p.term + 1) 0 o → ((p.seq + 1 < 2 ^ 63) ⊎ (2 ^ 63 ≤ p.seq + 1)) → IsLeastAbove (Some p) o
  by_made None last within = λ r above. (
      let more : p.term < r.term = next_term r (full within) above in
      let fits : r.term < 2 ^ 63 = r.term_fits in
      not_some (last.0.1 (omega arith, omega arith, omega arith))
      )
  by_made (Some q) next within = (inl (let up : q.term ≡ p.term + 1 = next.1.0 in omega arith), λ r above. by_order r (next_term r (full within) above) (cases_lt q.term r.term) (cases_lt 0 r.seq)) where
    by_order : (r : Pair) → p.term < r.term → ((q.term < r.term) ⊎ (r.term ≤ q.term)) → ((0 < r.seq) ⊎ (r.seq ≤ 0)) → (q ≡ r) ⊎ IsBelow q r
    by_order r more (inl less) other = inr (inl less)
    by_order r more (inr not) (inl some) =
        let up : q.term ≡ p.term + 1 = next.1.0 in let none : q.seq ≡ 0 = next.1.1 in inr (inr (omega arith, omega arith))
    by_order r more (inr not) (inr nor) =
        let up : q.term ≡ p.term + 1 = next.1.0 in let none : q.seq ≡ 0 = next.1.1 in inl (same_pair q r (omega arith) (omega arith))
