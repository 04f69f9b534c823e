-- That a round visits each client once.
use Rattle.std.proofs.Common.{◌≡◌, ◌∙◌, ◌≤◌, ℕ, ◌+◌, ◌<◌, List, Some, ap, arith, get_or, inl, inr, length, slice_get, subst}
use Rattle.std.proofs.Math.ListN.{set}
use Rattle.std.proofs.lemmas.List.{length-set}
use Rattle.std.proofs.lemmas.Option.{slice_get-get_or, slice_get_within}
use Rattle.workload.specs.aids.Seats.{AreVisitedOnce, IsVisitedOnce}
use Rattle.workload.specs.declared.seat.Seat.{Seat}
use Rattle.version_pair.proofs.ListLemmas.{from_set}

module _ {P : Type 0} (polls : ℕ) where
  -- The first i clients were visited once, and the others not yet.
  pub record AreVisitedSoFar (old now : List (Seat P)) (i : ℕ) : Type 0 where
    pub count : length now ≡ length old
    pub front : (k : ℕ) (before after : Seat P) → k < i → slice_get old k ≡ Some before → slice_get now k ≡ Some after → IsVisitedOnce polls before after
    pub rest : (k : ℕ) (before after : Seat P) → i ≤ k → slice_get old k ≡ Some before → slice_get now k ≡ Some after → after ≡ before

  -- the visit of the next client
  pub visited_after : (old now : List (Seat P)) (i : ℕ) (d new : Seat P) → i < length now → IsVisitedOnce polls (get_or now i d) new
      → AreVisitedSoFar old now i → AreVisitedSoFar old (set now i new) (i + 1)
  visited_after old now i d new within once so_far = record {
    count = length-set now i new ∙ so_far.count;
    front = λ k before after below at_old at_now.
        elim (from_set now i k new after at_now) [
          | inl here ↦
              let at_k : slice_get now k ≡ Some (get_or now i d) = ap (slice_get now) here.0 ∙ slice_get-get_or now i d within in
              let as_before = so_far.rest k before (get_or now i d) (omega (arith, here.0)) at_old at_k in
              rw here.1 (subst (λ seat. IsVisitedOnce polls seat new) as_before once)
          | inr there ↦ so_far.front k before after (omega (arith, there.0)) at_old there.1
        ];
    rest = λ k before after above at_old at_now.
        elim (from_set now i k new after at_now) [
          | inl here ↦ absurd (omega (arith, here.0))
          | inr there ↦ so_far.rest k before after (omega arith) at_old there.1
        ];
  }

  pub visited_at_end : (old now : List (Seat P)) (i : ℕ) → length now ≤ i → AreVisitedSoFar old now i → AreVisitedOnce polls old now
  visited_at_end old now i all so_far = record {
    count = so_far.count;
    each = λ k before after at_old at_now. so_far.front k before after (omega (arith, slice_get_within now k after at_now)) at_old at_now;
  }
