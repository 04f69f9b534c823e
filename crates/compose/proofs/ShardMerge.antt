-- The orders of all shards in one list: each order with its points, all of them by their points.
use Rattle.std.proofs.Common.{ℕ, zero, suc, ◌≡◌, ◌<◌, ◌≤◌, inl, inr, List, [], ◌++◌, sym, ap, subst, ◌∙◌, arith, Bool, Some, slice_get}
use Rattle.std.specs.Prelude.{filter}
use Rattle.std.proofs.lemmas.Bool.{cases_lt, eq-eqb, ne_eqb}
use Rattle.std.proofs.lemmas.List.{append-nil}
use Rattle.std.proofs.lemmas.List.Elements.{filter-append}
use Rattle.version_pair.proofs.SortedLists.{Has}
use Rattle.doc_register.specs.declared.state.Conflicts.{Conflicts}
use Rattle.events.specs.declared.event.Event.{Event}
use Rattle.events.specs.Order.{Explains, IsLinearizable}
use Rattle.version_pair.proofs.ListLemmas.{none_is_not_some}
use Rattle.compose.specs.Shards.{part_of_shard}
use Rattle.compose.proofs.Filtering.{filter_all, filter_none, in_either}
use Rattle.compose.proofs.Points.{IsReached, Pointed, call_place, place_before, placed_at, placed_of, pointed, pointed_placed, pointed_rising, reached}
use Rattle.compose.proofs.ShardParts.{part_call}
use Rattle.compose.proofs.ShardRuns.{is_in}
use Rattle.compose.proofs.Sorting.{IsRising, sort, sort_filter, sort_rising, sorted_from}

-- the call is on the shard
abbrev pub is_on : ℕ → Pointed → Bool
is_on h k = is_in h k.placed.entry

-- those on the shard
abbrev pub those_on : ℕ → List Pointed → List Pointed
those_on h ks = filter (is_on h) ks

-- ---- one shard

-- The calls are an order of the part of the shard, each with its point.
pub record IsOrderOn (conflicts : Conflicts) (events : List Event) (h : ℕ) (ks : List Pointed) : Type 0 where
  pub explains : Explains conflicts (part_of_shard h events) (placed_of ks)
  pub rising : IsRising (λ k. k.point) ks
  pub before : (i : ℕ) (k : Pointed) → slice_get ks i ≡ Some k → call_place events k.placed ≤ k.point
  pub reached : (i : ℕ) (k : Pointed) → slice_get ks i ≡ Some k → IsReached (call_place events) ks i k.point

-- where the part is linearizable there are such calls
order_made : (conflicts : Conflicts) (events : List Event) (h : ℕ) → IsLinearizable conflicts (part_of_shard h events) → (ks : List Pointed) × IsOrderOn conflicts events h ks
order_made conflicts events h (order, explains) = (
  pointed (call_place events) 0 order,
  record {
    explains = subst (Explains conflicts (part_of_shard h events)) (sym (pointed_placed (call_place events) 0 order)) explains;
    rising = pointed_rising (call_place events) 0 order;
    before = place_before (call_place events) 0 order;
    reached = reached (call_place events) order;
  },
)

-- they are on the shard
own_shard : (conflicts : Conflicts) (events : List Event) (h : ℕ) (ks : List Pointed) → IsOrderOn conflicts events h ks → (i : ℕ) (k : Pointed) → slice_get ks i ≡ Some k → k.placed.entry.shard ≡ h
own_shard conflicts events h ks is i k at =
    let of = is.explains.is_order.calls i k.placed (placed_at ks i k at) in
    (part_call events h of.0 k.placed.no k.placed.entry.shard k.placed.entry.doc k.placed.entry.op of.1).2

-- ---- the first shards

-- The calls are those of the shards below n: those on each shard are an order of its part, and there are no others.
pub record AreMerged (conflicts : Conflicts) (events : List Event) (n : ℕ) (ks : List Pointed) : Type 0 where
  pub parts : (h : ℕ) → h < n → IsOrderOn conflicts events h (those_on h ks)
  pub below : (i : ℕ) (k : Pointed) → slice_get ks i ≡ Some k → k.placed.entry.shard < n

-- the calls of one more shard
merged_more : (conflicts : Conflicts) (events : List Event) (n : ℕ) (ks own : List Pointed) → AreMerged conflicts events n ks → IsOrderOn conflicts events n own → AreMerged conflicts events (suc n) (ks ++ own)
merged_more conflicts events n ks own all is = record { parts = parts; below = below } where
  earlier : (h : ℕ) → h < n → those_on h (ks ++ own) ≡ those_on h ks
  earlier h less =
      filter-append (is_on h) ks own
      ∙ (ap (λ xs. those_on h ks ++ xs) (filter_none (is_on h) own (λ i k at.
      ne_eqb k.placed.entry.shard h (λ same. let last : k.placed.entry.shard ≡ n = own_shard conflicts events n own is i k at in omega arith)))
      ∙ append-nil (those_on h ks))

  last : those_on n (ks ++ own) ≡ own
  last =
      filter-append (is_on n) ks own
      ∙ (ap (λ xs. xs ++ those_on n own) (filter_none (is_on n) ks (λ i k at.
      ne_eqb k.placed.entry.shard n (λ same. let low : k.placed.entry.shard < n = all.below i k at in omega arith)))
      ∙ filter_all (is_on n) own (λ i k at. eq-eqb k.placed.entry.shard n (own_shard conflicts events n own is i k at)))

  parts : (h : ℕ) → h < suc n → IsOrderOn conflicts events h (those_on h (ks ++ own))
  parts h less = elim (cases_lt h n) as (λ _. IsOrderOn conflicts events h (those_on h (ks ++ own))) [
    | inl low ↦ subst (IsOrderOn conflicts events h) (sym (earlier h low)) (all.parts h low)
    | inr not ↦ (let same : n ≡ h = omega arith in
        subst (λ g. IsOrderOn conflicts events g (those_on g (ks ++ own))) same (subst (IsOrderOn conflicts events n) (sym last) is))
  ]

  below : (i : ℕ) (k : Pointed) → slice_get (ks ++ own) i ≡ Some k → k.placed.entry.shard < suc n
  below i k at = elim (in_either ks own i k at) as (λ _. k.placed.entry.shard < suc n) [
    | inl here ↦ (let low : k.placed.entry.shard < n = all.below here.0 k here.1 in omega arith)
    | inr there ↦ (let same : k.placed.entry.shard ≡ n = own_shard conflicts events n own is there.0 k there.1 in omega arith)
  ]

-- the calls of the first shards, one shard's after another's
merge : (conflicts : Conflicts) (events : List Event) → ((h : ℕ) → IsLinearizable conflicts (part_of_shard h events)) → (n : ℕ) → (ks : List Pointed) × AreMerged conflicts events n ks
merge conflicts events each zero = ([], record { parts = λ h less. absurd (omega (arith, less)); below = λ i k at. absurd (none_is_not_some k at) })
merge conflicts events each (suc n) =
    let rest = merge conflicts events each n in
    let own = order_made conflicts events n (each n) in
    (rest.0 ++ own.0, merged_more conflicts events n rest.0 own.0 rest.1 own.1)

-- and by their points
pub merged : (conflicts : Conflicts) (events : List Event) → ((h : ℕ) → IsLinearizable conflicts (part_of_shard h events)) → (n : ℕ)
    → (ks : List Pointed) × AreMerged conflicts events n ks × IsRising (λ k. k.point) ks
merged conflicts events each n =
    let all = merge conflicts events each n in (
      sort (λ k. k.point) all.0,
      record {
        parts = λ h less. subst (IsOrderOn conflicts events h) (sym (sort_filter (λ k. k.point) (is_on h) all.0 (all.1.parts h less).rising)) (all.1.parts h less);
        below = λ i k at. let from : Has all.0 k = sorted_from (λ k. k.point) all.0 i k at in all.1.below from.0 k from.1;
      },
      sort_rising (λ k. k.point) all.0,
    )
