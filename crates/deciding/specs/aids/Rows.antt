-- Branches as the code keeps them.
use Rattle.std.specs.Prelude.{◌≡◌, ◌≤◌, ℕ, true, List}
use Rattle.events.specs.declared.record.Rec.{Rec}
use Rattle.deciding.specs.declared.row.Row.{Row}
use Rattle.deciding.specs.Branches.{Branch, is_in, position}

-- the branch of a row
abbrev pub branch_of : Row → Branch
branch_of row = record {
  least = row.least;
  exists = row.exists;
  flipped_at = row.flipped_at;
  arrived_at = row.arrived_at;
  owed = row.owed.items;
  spent = row.spent.items;
  deletes = row.deletes;
  makes = row.makes;
}

-- the position that the row has is that of its branch
abbrev pub IsPositioned : List Rec → Row → Type 0
IsPositioned records row = row.position ≡ position records row.least

-- what has to be performed in the first branch, or was performed, has to be or was in the second
abbrev pub IsAsFree : Branch → Branch → Type 0
IsAsFree a b = ((i : ℕ) → is_in i a.owed ≡ true → is_in i b.owed ≡ true) × ((i : ℕ) → is_in i a.spent ≡ true → is_in i b.spent ≡ true)
    × (a.deletes ≤ b.deletes) × (a.makes ≤ b.makes)
