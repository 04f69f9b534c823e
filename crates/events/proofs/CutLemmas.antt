-- Lists of which just the first items pass a test: where a search of such a list ends.
use Rattle.std.proofs.Common.{ℕ, ◌≡◌, ◌<◌, ◌≤◌, List, length, sym, ◌∙◌, arith, Bool, true, false, get_or, nat_lt}
use Rattle.std.specs.List.Sorted.{IsPartitionPoint, IsPartitionedBy}
use Rattle.std.proofs.lemmas.Bool.{both_ways, le-ltb, lt-ltb, ltb-true}
use Rattle.std.proofs.lemmas.Option.{slice_get-get_or}
use Rattle.events.specs.aids.Documents.{IsCutAt}
use Rattle.version_pair.proofs.ListLemmas.{compare, get_within}

-- the item at a place passes just where the place is before the cut
passes_at : {X : Type 0} (p : X → Bool) (xs : List X) (m : ℕ) → IsCutAt p xs m → (j : ℕ) (d : X) → j < length xs → p (get_or xs j d) ≡ nat_lt j m
passes_at p xs m cut j d below = cut.passes j (get_or xs j d) (slice_get-get_or xs j d below)

pub cut_partitioned : {X : Type 0} (p : X → Bool) (xs : List X) (m : ℕ) → IsCutAt p xs m → IsPartitionedBy p xs
cut_partitioned p xs m cut i j d order below passes =
    let before : j < m = ltb-true j m (sym (passes_at p xs m cut j d below) ∙ passes) in
    passes_at p xs m cut i d (omega arith) ∙ lt-ltb i m (omega arith)

-- the place at which the items cease to pass is the cut
pub cut_point : {X : Type 0} (p : X → Bool) (xs : List X) (m i : ℕ) → IsCutAt p xs m → i ≤ length xs → IsPartitionPoint (λ y. p y ≡ true) (λ y. p y ≡ false) xs i → i ≡ m
cut_point p xs m i cut within point = compare i m early late where
  early : i < m → ⊥
  early less =
      let most : m ≤ length xs = cut.within in
      let below : i < length xs = omega arith in
      let d = (get_within xs i below).0 in
      both_ways (p (get_or xs i d)) (point.1 i d (omega arith) below) (passes_at p xs m cut i d below ∙ lt-ltb i m less)

  late : m < i → ⊥
  late less =
      let below : m < length xs = omega arith in
      let d = (get_within xs m below).0 in
      both_ways (p (get_or xs m d)) (passes_at p xs m cut m d below ∙ le-ltb m m (omega arith)) (point.0 m d (omega arith) less)
