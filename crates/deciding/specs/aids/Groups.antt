-- Entries by their keys.
use Rattle.std.specs.Prelude.{◌≡◌, ℕ, List, Some, IsPermutation, IsSorted, slice_get}
use Rattle.std.specs.declared.cmp.Ordering.{Ordering}
use Rattle.std.specs.Ordering.{nat_cmp, ordering_then}
use Rattle.deciding.specs.declared.groups.Entry.{Entry}
use Rattle.deciding.specs.declared.groups.Groups.{Groups}

-- how two entries compare: by key, then by number
abbrev pub entry_cmp : Entry → Entry → Ordering
entry_cmp a b = ordering_then (nat_cmp a.key b.key) (nat_cmp a.number b.number)

-- the groups are those of the entries of the list
pub record AreGroupsOf (list : List Entry) (groups : Groups) : Type 0 where
  -- each of them once
  pub all : IsPermutation list groups.entries.items
  -- by key, then by number
  pub in_order : IsSorted entry_cmp groups.entries.items

-- the entry is one of the list
abbrev pub Has : List Entry → Entry → Type 0
Has list e = (i : ℕ) × (slice_get list i ≡ Some e)
