-- The copies that follow a new primary.
use Rattle.std.proofs.Common.{ℕ, zero, suc, ◌≡◌, ◌≤◌, ◌+◌, ◌-◌, ◌<◌, List, [], ◌∷◌, ◌++◌, length, take, drop, get_or, refl, sym, ap, ◌∙◌, add-one, add_comm, arith, Some, None, Bool, true, false, cond, true≢false}
use Rattle.std.specs.Prelude.{◌&&◌, count_by, if◌then◌else◌, map, not, replicate, slice_get, slice_set}
use Rattle.std.proofs.Math.Seq.{drop-cons}
use Rattle.std.proofs.lemmas.Grind.{replicate_next}
use Rattle.std.proofs.lemmas.List.{get_or-replicate, length-replicate, take-replicate}
use Rattle.std.proofs.lemmas.List.Edits.{map_over_more}
use Rattle.std.proofs.lemmas.List.Sums.{sum_by-cons}
use Rattle.repl_group.specs.declared.replica.Replica.{Replica}
use Rattle.repl_group.specs.aids.Following.{follows}
use Rattle.repl_group.specs.aids.Holding.{HeldState}
use Rattle.repl_group.specs.aids.Keeping.{taken_by}
use Rattle.version_pair.proofs.ListLemmas.{none_is_not_some, same_some}
use Rattle.repl_group.proofs.ListLemmas.{count-some}

-- ---- one copy

pub led-follower : (y : Replica) (held : HeldState) → follows y ≡ true → record y { held = held } ≡ taken_by held y
led-follower y held is = by_flags y.is_in_sync y.is_cut is where
  by_flags : (a b : Bool) → (a && not b) ≡ true → record y { held = held } ≡ (if a then (if b then record y { is_in_sync = false } else record y { held = held }) else y)
  by_flags true false is = refl
  by_flags true true is = absurd (true≢false (sym is))
  by_flags false b is = absurd (true≢false (sym is))

pub led-other : (y : Replica) (held : HeldState) → follows y ≡ false → record y { is_in_sync = false } ≡ taken_by held y
led-other y held is = by_flags y.is_in_sync y.is_cut refl is where
  by_flags : (a b : Bool) → y.is_in_sync ≡ a → (a && not b) ≡ false → record y { is_in_sync = false } ≡ (if a then (if b then record y { is_in_sync = false } else record y { held = held }) else y)
  by_flags true true sync is = refl
  by_flags true false sync is = absurd (true≢false is)
  by_flags false b sync is = ap (λ v. record y { is_in_sync = v }) (sym sync)

-- ---- a set taken from equal ones

module _ {X : Type 0} where
  pub popped : (old new : List X) (r : X) (n len : ℕ) (w : X) → old ≡ replicate (n + 1) w → len ≡ length old
      → ((d : X) → 0 < len → Some r ≡ Some (get_or old (len - 1) d)) → new ≡ take (len - 1) old → (r ≡ w) × (new ≡ replicate n w)
  popped old new r n len w equal len_is value rest =
      let whole : length old ≡ n + 1 = ap length equal ∙ length-replicate (n + 1) w in
      let less : len - 1 ≡ n = omega arith in
      let some : 0 < len = omega arith in (
        same_some _ _ (value w some) ∙ (ap (λ l. get_or l (len - 1) w) equal ∙ get_or-replicate (n + 1) (len - 1) w w (omega arith)),
        rest ∙ (ap (λ l. take (len - 1) l) equal ∙ (ap (λ k. take k (replicate (n + 1) w)) less ∙ take-replicate n (n + 1) w (omega arith))),
      )

  pub popped_some : {P : Type 0} (old : List X) (n len : ℕ) (w : X) → old ≡ replicate (n + 1) w → len ≡ length old → ((d : X) → 0 < len → None ≡ Some (get_or old (len - 1) d)) → P
  popped_some old n len w equal len_is value =
      let whole : length old ≡ n + 1 = ap length equal ∙ length-replicate (n + 1) w in
      let some : 0 < len = omega arith in
      absurd (none_is_not_some (get_or old (len - 1) w) (value w some))

-- ---- all copies

-- what is left of the sets, and what has become of the copies, one copy further
pub led_more : (old now : List Replica) (i : ℕ) (x new : Replica) (sets sets' : List HeldState) (held : HeldState)
    → i < length old → x ≡ get_or now i x
    → (now ≡ map (taken_by held) (take i old) ++ drop i old) × (sets ≡ replicate (count_by follows (drop i old)) held)
    → ((n : ℕ) → sets ≡ replicate (n + cond (follows x) 1 0) held → (new ≡ taken_by held x) × (sets' ≡ replicate n held))
    → (slice_set now i new ≡ map (taken_by held) (take (i + 1) old) ++ drop (i + 1) old) × (sets' ≡ replicate (count_by follows (drop (i + 1) old)) held)
led_more old now i x new sets sets' held within is (done, left) leads =
    let item : get_or old i x ≡ x = sym (is ∙ (ap (λ l. get_or l i x) done ∙ past old i x within)) in
    let cut : drop i old ≡ x ∷ drop (i + 1) old = drop-cons old i x within ∙ (ap (λ v. v ∷ drop (suc i) old) item ∙ ap (λ k. x ∷ drop k old) (sym (add-one i))) in
    let step = leads (count_by follows (drop (i + 1) old)) (left ∙ ap (λ k. replicate k held) (ap (count_by follows) cut ∙ (sum_by-cons (λ z. cond (follows z) 1 0) x (drop (i + 1) old) ∙ add_comm (cond (follows x) 1 0) (count_by follows (drop (i + 1) old))))) in
    (ap (slice_set now i) step.0 ∙ map_over_more (taken_by held) old now i x within done is, step.1) where
      past : (xs : List Replica) (k : ℕ) (d : Replica) → k < length xs → get_or (map (taken_by held) (take k xs) ++ drop k xs) k d ≡ get_or xs k d
      past [] k d less = absurd (omega (arith, less))
      past (z ∷ zs) zero d less = refl
      past (z ∷ zs) (suc k) d less = past zs k d (omega (arith, less))

-- the sets of the followers, of which the primary's own is the last
pub sets_are : (copies : List Replica) (p : ℕ) (y : Replica) (count others : ℕ) (sets sets' : List HeldState) (w own : HeldState)
    → slice_get copies p ≡ Some y → follows y ≡ true → count ≡ count_by follows copies → others ≡ count - 1
    → sets ≡ replicate others w → w ≡ y.held → own ≡ y.held → sets' ≡ sets ++ own ∷ []
    → sets' ≡ replicate (count_by follows copies) y.held
sets_are copies p y count others sets sets' w own at is count_is others_is sets_is w_is own_is pushed =
    let some : 1 ≤ count_by follows copies = count-some follows copies p y at is in
    let number : others + 1 ≡ count_by follows copies = omega arith in
    pushed ∙ (ap (λ l. l ++ own ∷ []) (sets_is ∙ ap (replicate others) w_is) ∙ (ap (λ v. replicate others y.held ++ v ∷ []) own_is
    ∙ (sym (replicate_next others y.held) ∙ ap (λ k. replicate k y.held) number)))
