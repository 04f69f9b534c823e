-- Entries by their keys: those with one key stand together, between two partition points.
use Rattle.std.proofs.Common.{ℕ, ◌≡◌, ◌<◌, ◌≤◌, ◌+◌, ◌-◌, inl, inr, List, length, sym, ap, subst, ◌∙◌, arith, true, false, true≢false, Some, slice_get, get_or, take, drop, eqb, ltb}
use Rattle.std.specs.Cmp.{IsTotalOrder}
use Rattle.std.specs.Ordering.{nat_cmp, is_lt}
use Rattle.std.specs.List.Sorted.{IsNonDecreasingBy, IsPartitionPoint, IsPartitionedBy}
use Rattle.std.proofs.lemmas.Bool.{cases_lt, eq-eqb, eqb-true, ltb-false, ltb-true}
use Rattle.std.proofs.lemmas.Cmp.{nat_cmp_total, on_total, then_total}
use Rattle.std.proofs.lemmas.List.{get_or-drop, length-drop}
use Rattle.std.proofs.lemmas.List.Sorted.{ranks_by, sorted_far}
use Rattle.std.proofs.lemmas.Option.{get_or_from_slice_get, slice_get-get_or, slice_get_within}
use Rattle.version_pair.proofs.ListLemmas.{get_take, take_get}
use Rattle.version_pair.proofs.SortedLists.{has_back, has_moved, not_below_then}
use Rattle.deciding.specs.declared.groups.Entry.{Entry}
use Rattle.deciding.specs.declared.groups.Groups.{Groups}
use Rattle.deciding.specs.aids.Groups.{AreGroupsOf, Has, entry_cmp}

entry_total : IsTotalOrder entry_cmp
entry_total = then_total (on_total (λ (e : Entry). e.key) nat_cmp_total) (on_total (λ (e : Entry). e.number) nat_cmp_total)

-- the keys rise
abbrev pub DoKeysRise : List Entry → Type 0
DoKeysRise entries = IsNonDecreasingBy (λ (e : Entry). e.key) entries

pub keys_rise : (list : List Entry) (groups : Groups) → AreGroupsOf list groups → DoKeysRise groups.entries.items
keys_rise list groups are i j d less within =
    let entries = groups.entries.items in
    let a = get_or entries i d in
    let b = get_or entries j d in
    let far : is_lt (entry_cmp b a) ≡ false = sorted_far (λ x y. is_lt (entry_cmp x y)) (ranks_by entry_total (λ (x : Entry). x)) entries are.in_order i j d less within in
    elim (not_below_then b.key a.key (nat_cmp b.number a.number) far) as (λ _. a.key ≤ b.key) [
      | inl low ↦ omega arith
      | inr tie ↦ (let same : a.key ≡ b.key = tie.0 in omega arith)
    ]

-- the first entry whose key is not below this one
abbrev pub IsFirst : ℕ → List Entry → ℕ → Type 0
IsFirst key entries i = IsPartitionPoint (λ (e : Entry). ltb e.key key ≡ true) (λ (e : Entry). ltb e.key key ≡ false) entries i

-- the first entry with another key
abbrev pub IsEnd : ℕ → List Entry → ℕ → Type 0
IsEnd key entries n = IsPartitionPoint (λ (e : Entry). eqb e.key key ≡ true) (λ (e : Entry). eqb e.key key ≡ false) entries n

-- from the first entry on, those with the key come before the others
pub rest_parted : (key : ℕ) (entries : List Entry) (i : ℕ) → DoKeysRise entries → IsFirst key entries i → IsPartitionedBy (λ (e : Entry). eqb e.key key) (drop i entries)
rest_parted key entries i rise first j k d less within is =
    let inside : k < length entries - i = subst (λ n. k < n) (length-drop i entries) within in
    let low : key ≤ (get_or entries (i + j) d).key = ltb-false (get_or entries (i + j) d).key key (first.1 (i + j) d (omega arith) (omega arith)) in
    let up : (get_or entries (i + j) d).key ≤ (get_or entries (i + k) d).key = rise (i + j) (i + k) d (omega arith) (omega arith) in
    let high : (get_or entries (i + k) d).key ≡ key = ap (λ (e : Entry). e.key) (sym (get_or-drop i entries k d)) ∙ eqb-true (get_or (drop i entries) k d).key key is in
    let same : (get_or entries (i + j) d).key ≡ key = omega arith in
    eq-eqb (get_or (drop i entries) j d).key key (ap (λ (e : Entry). e.key) (get_or-drop i entries j d) ∙ same)

-- each entry with the key is one of the group
pub group_has : (key : ℕ) (entries : List Entry) (i n : ℕ) (e : Entry) → IsFirst key entries i → IsEnd key (drop i entries) n → Has entries e → e.key ≡ key → Has (take n (drop i entries)) e
group_has key entries i n e first end has is =
    (j - i, take_get (drop i entries) n (j - i) e before (slice_get-get_or (drop i entries) (j - i) e inside ∙ ap (λ x. Some x) there)) where
      j : ℕ
      j = has.0

      within : j < length entries
      within = slice_get_within entries j e has.1

      from : i ≤ j
      from = elim (cases_lt j i) as (λ _. i ≤ j) [
        | inl less ↦
            let low : ltb (get_or entries j e).key key ≡ true = first.0 j e (omega arith) less in
            absurd (not_low (subst (λ (x : Entry). ltb x.key key ≡ true) (get_or_from_slice_get entries j e e has.1) low))
        | inr not ↦ not
      ] where
        not_low : ltb e.key key ≡ true → ⊥
        not_low low = let less : e.key < key = ltb-true e.key key low in omega arith

      inside : j - i < length (drop i entries)
      inside = subst (λ m. j - i < m) (sym (length-drop i entries)) (let low : i ≤ j = from in let high : j < length entries = within in omega arith)

      there : get_or (drop i entries) (j - i) e ≡ e
      there = get_or-drop i entries (j - i) e ∙ (ap (λ m. get_or entries m e) (let low : i ≤ j = from in let sum : i + (j - i) ≡ j = omega arith in sum) ∙ get_or_from_slice_get entries j e e has.1)

      before : j - i < n
      before = elim (cases_lt (j - i) n) as (λ _. j - i < n) [
        | inl less ↦ less
        | inr past ↦
            let other : eqb (get_or (drop i entries) (j - i) e).key key ≡ false = end.1 (j - i) e past inside in
            absurd (true≢false (sym (eq-eqb (get_or (drop i entries) (j - i) e).key key (ap (λ (x : Entry). x.key) there ∙ is)) ∙ other))
      ]

-- each entry of the group has the key, and is one of the entries
pub group_only : (key : ℕ) (entries : List Entry) (i n j : ℕ) (e : Entry) → IsEnd key (drop i entries) n → slice_get (take n (drop i entries)) j ≡ Some e → (e.key ≡ key) × Has entries e
group_only key entries i n j e end at = (is, (i + j, slice_get-get_or entries (i + j) e inside ∙ ap (λ x. Some x) (sym (get_or-drop i entries j e) ∙ there))) where
  rest : (slice_get (drop i entries) j ≡ Some e) × (j < n)
  rest = get_take (drop i entries) n j e at

  there : get_or (drop i entries) j e ≡ e
  there = get_or_from_slice_get (drop i entries) j e e rest.0

  within : j < length entries - i
  within = subst (λ m. j < m) (length-drop i entries) (slice_get_within (drop i entries) j e rest.0)

  inside : i + j < length entries
  inside = let less : j < length entries - i = within in omega arith

  is : e.key ≡ key
  is = ap (λ (x : Entry). x.key) (sym there) ∙ eqb-true (get_or (drop i entries) j e).key key (end.0 j e (omega arith) rest.1)

-- the entries in their order are those of the list
pub listed_in : (list : List Entry) (groups : Groups) (e : Entry) → AreGroupsOf list groups → Has list e → Has groups.entries.items e
listed_in list groups e are has = has_moved list groups.entries.items e are.all has

pub in_listed : (list : List Entry) (groups : Groups) (e : Entry) → AreGroupsOf list groups → Has groups.entries.items e → Has list e
in_listed list groups e are has = has_back list groups.entries.items e are.all has
