-- Tables of rows.
use Rattle.std.proofs.Common.{ℕ, suc, ◌≡◌, ◌≢◌, ◌<◌, ◌≤◌, ◌⊎◌, ◌++◌, ◌&&◌, inl, inr, List, [], ◌∷◌, length, set, sym, ap, subst, ◌∙◌, arith, Bool, true, not, Some, slice_get}
use Rattle.std.proofs.lemmas.Bool.{cases_eq, cases_lt, not_from_false}
use Rattle.version_pair.proofs.ListLemmas.{get_front, get_last, get_snoc, get_within, mapped_from, same_some, slice_get-set_other, slice_get-set_same}
use Rattle.deciding.specs.Facts.{Facts}
use Rattle.events.specs.declared.record.Rec.{Rec}
use Rattle.deciding.specs.declared.row.Row.{Row}
use Rattle.deciding.specs.Branches.{Branch, Covers, IsBranchOf, IsCovered, position}
use Rattle.deciding.specs.aids.Rows.{IsPositioned, branch_of}
use Rattle.deciding.specs.aids.StepsOf.{ArePositioned, AreSteps, IsRowOf}
use Rattle.deciding.specs.aids.TablesOf.{AddsRow, ArePlacedIn, AreStepsMet, GrowsTable, HasPositions, IsClosed, IsPlacedIn, KeepsTable, KeepsTables, PushesRow, table_of}
use Rattle.deciding.specs.declared.tables.ReplyTables.{ReplyTables}
use Rattle.deciding.specs.Steps.{MayPerform, performed}
use Rattle.deciding.specs.Tables.{AreLeftAtCall, AreLeftAtReply, IsMet, IsPlaced, is_past, is_served, may_come_later, owing, settled}
use Rattle.deciding.specs.aids.Walks.{AreSettledIn, IsOwingIn}
use Rattle.std.proofs.lemmas.Option.{slice_get_within}
use Rattle.deciding.proofs.OrderedSteps.{mapped_at}
use Rattle.deciding.proofs.StepLemmas.{covers_itself, covers_on, none_positioned}

-- the branch of a row is in the table
pub in_table : (rows : List Row) (row : Row) → IsRowOf rows row → IsBranchOf (table_of rows) (branch_of row)
in_table rows row (i, at) = (i, mapped_at branch_of rows i row at)

-- and each branch of a table is that of a row
pub row_of_branch : (rows : List Row) (b : Branch) → IsBranchOf (table_of rows) b → (row : Row) × IsRowOf rows row × (branch_of row ≡ b)
row_of_branch rows b (i, at) = let m = mapped_from branch_of rows i b at in (m.0, (i, m.1), m.2)

table_kept_on : (records : List Rec) (a b c : List Row) → KeepsTable records a b → KeepsTable records b c → KeepsTable records a c
table_kept_on records a b c one two = record { covered = λ x is. two.covered x (one.covered x is); positioned = two.positioned }

grown_on : (records : List Rec) (a b c : List Row) → GrowsTable records a b → GrowsTable records b c → GrowsTable records a c
grown_on records a b c one two = record { rows = λ i row at. two.rows i row (one.rows i row at); positioned = two.positioned }

-- what a table covers is covered by one that has its rows
grown_covers : (records : List Rec) (old new : List Row) (b : Branch) → GrowsTable records old new → IsCovered records (table_of old) b → IsCovered records (table_of new) b
grown_covers records old new b grows (a, has, covers) =
    let row = row_of_branch old a has in
    (a, subst (IsBranchOf (table_of new)) row.2 (in_table new row.0 (row.1.0, grows.rows row.1.0 row.0 row.1.1)), covers)

-- so it is kept
pub pushed_adds : (records : List Rec) (row : Row) (old new : List Row) → PushesRow records row old new → AddsRow records row old new
pushed_adds records row old new pushes = record {
  keeps = record { covered = λ b is. grown_covers records old new b pushes.grows is; positioned = pushes.grows.positioned };
  covers = pushes.covers;
}

-- with one more row it has its rows
pub pushed_row : (records : List Rec) (old new : List Row) (row : Row) → new ≡ old ++ row ∷ [] → ArePositioned records old → IsPositioned records row → PushesRow records row old new
pushed_row records old new row is all placed = record {
  grows = record {
    rows = λ i r at. ap (λ xs. slice_get xs i) is ∙ get_front old (row ∷ []) i r at;
    positioned = λ r has. by_place r (get_snoc old row r has.0 (sym (ap (λ xs. slice_get xs has.0) is) ∙ has.1));
  };
  covers = (branch_of row, in_table new row (length old, ap (λ xs. slice_get xs (length old)) is ∙ get_last old row), covers_itself records (branch_of row));
} where
  by_place : (r : Row) → {i : ℕ} → (slice_get old i ≡ Some r) ⊎ ((i ≡ length old) × (row ≡ r)) → IsPositioned records r
  by_place r {i} (inl at) = all r (i, at)
  by_place r (inr (here, same)) = subst (IsPositioned records) same placed

-- in place of one that it covers
pub replaced_row : (records : List Rec) (rows : List Row) (at : ℕ) (old row : Row) → slice_get rows at ≡ Some old → ArePositioned records rows → IsPositioned records row
    → Covers records (branch_of row) (branch_of old) → AddsRow records row rows (set rows at row)
replaced_row records rows at old row here all placed better = record {
  keeps = record { covered = λ b is. kept b is; positioned = λ r has. by_place r has.0 has.1 (cases_eq has.0 at) };
  covers = new_covers (branch_of row) (covers_itself records (branch_of row));
} where
  inside : at < length rows
  inside = slice_get_within rows at old here

  new_covers : (b : Branch) → Covers records (branch_of row) b → IsCovered records (table_of (set rows at row)) b
  new_covers b covers = (branch_of row, in_table (set rows at row) row (at, slice_get-set_same rows at row inside), covers)

  kept : (b : Branch) → IsCovered records (table_of rows) b → IsCovered records (table_of (set rows at row)) b
  kept b (a, has, covers) = by_row (row_of_branch rows a has) where
    by_row : (r : Row) × IsRowOf rows r × (branch_of r ≡ a) → IsCovered records (table_of (set rows at row)) b
    by_row (r, (i, is), same) = by_index (cases_eq i at) where
      by_index : (i ≡ at) ⊎ (i ≢ at) → IsCovered records (table_of (set rows at row)) b
      by_index (inl one) =
          let r_old : r ≡ old = same_some r old (sym is ∙ (ap (slice_get rows) one ∙ here)) in
          let is_a : branch_of old ≡ a = ap branch_of (sym r_old) ∙ same in
          new_covers b (covers_on records (branch_of row) (branch_of old) b better (subst (λ x. Covers records x b) (sym is_a) covers))
      by_index (inr other) = (a, subst (IsBranchOf (table_of (set rows at row))) same (in_table (set rows at row) r (i, slice_get-set_other rows at i row other ∙ is)), covers)

  by_place : (r : Row) (i : ℕ) → slice_get (set rows at row) i ≡ Some r → (i ≡ at) ⊎ (i ≢ at) → IsPositioned records r
  by_place r i is (inl one) = subst (IsPositioned records) (same_some row r (sym (slice_get-set_same rows at row inside) ∙ (ap (slice_get (set rows at row)) (sym one) ∙ is))) placed
  by_place r i is (inr other) = all r (i, sym (slice_get-set_other rows at i row other) ∙ is)

-- what a table covers is covered by one that keeps it
pub covered_kept : (records : List Rec) (old new : List Row) (b : Branch) → KeepsTable records old new → IsCovered records (table_of old) b → IsCovered records (table_of new) b
covered_kept records old new b keeps is = keeps.covered b is

-- ---- the tables at a reply

pub tables_kept_on : (records : List Rec) (a b c : ReplyTables) → KeepsTables records a b → KeepsTables records b c → KeepsTables records a c
tables_kept_on records a b c one two = record {
  served = table_kept_on records a.served.items b.served.items c.served.items one.served two.served;
  waiting = grown_on records a.waiting.items b.waiting.items c.waiting.items one.waiting two.waiting;
}

pub positions_kept : (records : List Rec) (old new : ReplyTables) → KeepsTables records old new → HasPositions records new
positions_kept records old new keeps = record { served = keeps.served.positioned; waiting = keeps.waiting.positioned }

-- a row is placed with those that served, if it did, and with those that wait, if it does
pub row_placed : (facts : Facts) (records : List Rec) (i : ℕ) (r : Rec) (row : Row) (middle new : ReplyTables) (served may : Bool)
    → served ≡ is_served records i r (branch_of row) → may ≡ may_come_later facts.conflicts records i r (branch_of row)
    → (served ≡ true → IsCovered records (table_of middle.served.items) (branch_of row)) → KeepsTables records middle new
    → (not (served && not may) ≡ true → IsCovered records (table_of new.waiting.items) (branch_of row)) → IsPlacedIn facts.conflicts records i r new row
row_placed facts records i r row middle new served may is later serves keeps waits = record {
  serves = λ yes. covered_kept records middle.served.items new.served.items (branch_of row) keeps.served (serves (is ∙ yes));
  waits = λ no. waits (not_from_false (served && not may) (ap (λ b. b && not may) is ∙ (ap (λ b. is_served records i r (branch_of row) && not b) later ∙ no)));
}

-- and stays placed in tables that kept theirs
pub placed_kept : (facts : Facts) (records : List Rec) (i : ℕ) (r : Rec) (row : Row) (old new : ReplyTables) → KeepsTables records old new
    → IsPlacedIn facts.conflicts records i r old row → IsPlacedIn facts.conflicts records i r new row
placed_kept facts records i r row old new keeps placed = record {
  serves = λ yes. covered_kept records old.served.items new.served.items (branch_of row) keeps.served (placed.serves yes);
  waits = λ no. grown_covers records old.waiting.items new.waiting.items (branch_of row) keeps.waiting (placed.waits no);
}

-- ---- all rows of a list

-- one more row of the list is placed
pub placed_more : (facts : Facts) (records : List Rec) (i : ℕ) (r : Rec) (rows : List Row) (n : ℕ) (row copy : Row) (old new : ReplyTables) → slice_get rows n ≡ Some row → branch_of copy ≡ branch_of row
    → ((k : ℕ) (one : Row) → k < n → slice_get rows k ≡ Some one → IsPlacedIn facts.conflicts records i r old one) → KeepsTables records old new → IsPlacedIn facts.conflicts records i r new copy
    → (k : ℕ) (one : Row) → k < suc n → slice_get rows k ≡ Some one → IsPlacedIn facts.conflicts records i r new one
placed_more facts records i r rows n row copy old new at same before keeps placed k one within is = by_order (cases_lt k n) where
  by_order : ((k < n) ⊎ (n ≤ k)) → IsPlacedIn facts.conflicts records i r new one
  by_order (inl first) = placed_kept facts records i r one old new keeps (before k one first is)
  by_order (inr not) =
      let here : n ≡ k = omega (arith, within, not) in
      let whole : row ≡ one = same_some row one (sym at ∙ (ap (slice_get rows) here ∙ is)) in
      subst (IsPlaced facts.conflicts records i r (table_of new.served.items) (table_of new.waiting.items)) (same ∙ ap branch_of whole) placed

-- ---- steps of rows that wait

-- what is met stays met
met_kept : (facts : Facts) (records : List Rec) (i : ℕ) (r : Rec) (b : Branch) (old new : ReplyTables) → KeepsTables records old new
    → IsMet facts.conflicts records i r (table_of old.served.items) (table_of old.waiting.items) b → IsMet facts.conflicts records i r (table_of new.served.items) (table_of new.waiting.items) b
met_kept facts records i r b old new keeps (a, covers, placed) = (
  a,
  covers,
  record {
    serves = λ yes. covered_kept records old.served.items new.served.items a keeps.served (placed.serves yes);
    waits = λ no. grown_covers records old.waiting.items new.waiting.items a keeps.waiting (placed.waits no);
  },
)

pub steps_kept : (facts : Facts) (records : List Rec) (event i : ℕ) (r : Rec) (row : Row) (old new : ReplyTables) → KeepsTables records old new
    → AreStepsMet facts records event i r old row → AreStepsMet facts records event i r new row
steps_kept facts records event i r row old new keeps met j s q may = met_kept facts records i r (performed records event (branch_of row) j s q) old new keeps (met j s q may)

-- if the rows behind the steps of a row are placed, its steps are met
pub steps_met : (facts : Facts) (records : List Rec) (event i : ℕ) (r : Rec) (row : Row) (rows : List Row) (tables : ReplyTables) → AreSteps facts records event (branch_of row) rows
    → ArePlacedIn facts.conflicts records i r tables rows → AreStepsMet facts records event i r tables row
steps_met facts records event i r row rows tables steps placed j s q may =
    let step = steps j s q may in
    (branch_of step.0, step.2, placed step.1.0 step.0 step.1.1)

-- the steps of one more row that waits are met
pub closed_more : (facts : Facts) (records : List Rec) (event i : ℕ) (r : Rec) (n : ℕ) (row : Row) (old new : ReplyTables) → slice_get old.waiting.items n ≡ Some row
    → ((k : ℕ) (one : Row) → k < n → slice_get old.waiting.items k ≡ Some one → AreStepsMet facts records event i r old one) → KeepsTables records old new
    → AreStepsMet facts records event i r new row → (k : ℕ) (one : Row) → k < suc n → slice_get new.waiting.items k ≡ Some one → AreStepsMet facts records event i r new one
closed_more facts records event i r n row old new at before keeps met k one within is = by_order (cases_lt k n) where
  inside : n < length old.waiting.items
  inside = slice_get_within old.waiting.items n row at

  by_order : ((k < n) ⊎ (n ≤ k)) → AreStepsMet facts records event i r new one
  by_order (inr not) =
      let here : n ≡ k = omega (arith, within, not) in
      let whole : row ≡ one = same_some row one (sym (keeps.waiting.rows n row at) ∙ (ap (slice_get new.waiting.items) here ∙ is)) in
      subst (AreStepsMet facts records event i r new) whole met
  by_order (inl first) =
      let was = get_within old.waiting.items k (omega (arith, inside, first)) in
      let whole : was.0 ≡ one = same_some was.0 one (sym (keeps.waiting.rows k was.0 was.1) ∙ is) in
      subst (AreStepsMet facts records event i r new) whole (steps_kept facts records event i r was.0 old new keeps (before k was.0 first was.1))

-- ---- tables made of others

-- what is made of one more row of a list is covered
pub covered_more : (records : List Rec) (f : Branch → Branch) (rows : List Row) (n : ℕ) (row made : Row) (old new : List Row) → slice_get rows n ≡ Some row → branch_of made ≡ f (branch_of row)
    → ((k : ℕ) (one : Row) → k < n → slice_get rows k ≡ Some one → IsCovered records (table_of old) (f (branch_of one))) → AddsRow records made old new
    → (k : ℕ) (one : Row) → k < suc n → slice_get rows k ≡ Some one → IsCovered records (table_of new) (f (branch_of one))
covered_more records f rows n row made old new at is before adds k one within there = by_order (cases_lt k n) where
  by_order : ((k < n) ⊎ (n ≤ k)) → IsCovered records (table_of new) (f (branch_of one))
  by_order (inl first) = covered_kept records old new (f (branch_of one)) adds.keeps (before k one first there)
  by_order (inr not) =
      let here : n ≡ k = omega (arith, within, not) in
      let whole : row ≡ one = same_some row one (sym at ∙ (ap (slice_get rows) here ∙ there)) in
      subst (IsCovered records (table_of new)) (is ∙ ap (λ (r : Row). f (branch_of r)) whole) adds.covers

-- what the rows of a list are owing is in a table that kept its rows
pub owing_kept : (records : List Rec) (number : ℕ) (call : Rec) (row : Row) (old new : List Row) → KeepsTable records old new → IsOwingIn records number call old row → IsOwingIn records number call new row
owing_kept records number call row old new keeps owes past = covered_kept records old new (owing number call (branch_of row)) keeps (owes past)

pub owing_more : (records : List Rec) (number : ℕ) (call : Rec) (rows : List Row) (n : ℕ) (row : Row) (old new : List Row) → slice_get rows n ≡ Some row
    → ((k : ℕ) (one : Row) → k < n → slice_get rows k ≡ Some one → IsOwingIn records number call old one) → KeepsTable records old new → IsOwingIn records number call new row
    → (k : ℕ) (one : Row) → k < suc n → slice_get rows k ≡ Some one → IsOwingIn records number call new one
owing_more records number call rows n row old new at before keeps owes k one within there = by_order (cases_lt k n) where
  by_order : ((k < n) ⊎ (n ≤ k)) → IsOwingIn records number call new one
  by_order (inl first) = owing_kept records number call one old new keeps (before k one first there)
  by_order (inr not) =
      let here : n ≡ k = omega (arith, within, not) in
      let whole : row ≡ one = same_some row one (sym at ∙ (ap (slice_get rows) here ∙ there)) in
      subst (IsOwingIn records number call new) whole owes

-- if each row of a table is owing in the next one, all that are left are
pub left_at_call : (records : List Rec) (number : ℕ) (call : Rec) (rows next : List Row) → ((k : ℕ) (one : Row) → slice_get rows k ≡ Some one → IsOwingIn records number call next one)
    → AreLeftAtCall records number call (table_of rows) (table_of next)
left_at_call records number call rows next all b has past =
    let row = row_of_branch rows b has in
    subst (λ a. IsCovered records (table_of next) (owing number call a)) row.2
    (all row.1.0 row.0 row.1.1 (ap (λ (a : Branch). is_past records (position records a.least) call.heard) row.2 ∙ past))

-- what is left behind a reply, from the tables at it
pub left_at_reply : (facts : Facts) (records : List Rec) (event number : ℕ) (call : Rec) (front next : List Row) (tables : ReplyTables) → ArePlacedIn facts.conflicts records number call tables front
    → IsClosed facts records event number call tables → AreSettledIn records number tables.served.items next
    → AreLeftAtReply facts records event number call (table_of front) (table_of next)
left_at_reply facts records event number call front next tables placed closed settles = record {
  served = table_of tables.served.items;
  waiting = table_of tables.waiting.items;
  first = λ b has. (
      let row = row_of_branch front b has in
      subst (IsMet facts.conflicts records number call (table_of tables.served.items) (table_of tables.waiting.items)) row.2
      (branch_of row.0, covers_itself records (branch_of row.0), placed row.1.0 row.0 row.1.1)
      );
  steps = λ b has j s q may. (
      let row = row_of_branch tables.waiting.items b has in
      subst (λ a. IsMet facts.conflicts records number call (table_of tables.served.items) (table_of tables.waiting.items) (performed records event a j s q)) row.2
      (closed row.1.0 row.0 row.1.1 j s q (subst (λ a. MayPerform facts records event a j s q) (sym row.2) may))
      );
  left = λ b has. (
      let row = row_of_branch tables.served.items b has in
      subst (λ a. IsCovered records (table_of next) (settled number a)) row.2 (settles row.1.0 row.0 row.1.1)
      );
}

-- tables without rows are positioned
pub no_rows : (records : List Rec) (tables : ReplyTables) → tables.served.items ≡ [] → tables.waiting.items ≡ [] → HasPositions records tables
no_rows records tables one two = record { served = none_positioned records tables.served.items one; waiting = none_positioned records tables.waiting.items two }

-- rows that are placed stay placed
pub all_placed_kept : (facts : Facts) (records : List Rec) (i : ℕ) (r : Rec) (rows : List Row) (old new : ReplyTables) → KeepsTables records old new
    → ArePlacedIn facts.conflicts records i r old rows → ArePlacedIn facts.conflicts records i r new rows
all_placed_kept facts records i r rows old new keeps placed k row at = placed_kept facts records i r row old new keeps (placed k row at)
