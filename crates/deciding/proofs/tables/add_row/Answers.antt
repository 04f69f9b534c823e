use Rattle.std.proofs.Common.{List, slice_get, ap, subst, sym, ◌∙◌}
use Rattle.deciding.specs.declared.row.Row.{Row}
use Rattle.deciding.specs.aids.StepsOf.{ArePositioned}
use Rattle.deciding.proofs.TableLemmas.{pushed_adds, replaced_row}
use Rattle.deciding.proofs.tables.add_row.Goals as goal

pub returns-in-Some : goal.returns-in-Some
returns-in-Some c = record {
  ok = λ records all placed. (
      let found = c.in-Some.ensures in
      replaced_row records c.args.table.now.items c.in-Some.at found.0 c.args.row (sym (ap (λ (rows : List Row). slice_get rows c.in-Some.at) c.deref.ensures.value) ∙ found.1) all placed
      (found.2 records (subst (ArePositioned records) (sym c.deref.ensures.value) all) placed)
      );
}

pub returns-in_ok-push_row-in-None : goal.returns-in_ok-push_row-in-None
returns-in_ok-push_row-in-None c = record {
  ok = λ records all placed. pushed_adds records c.args.row c.args.table.now.items c.push_row.new.table.items (c.in_ok-push_row-in-None.ensures.ok records all placed);
}
