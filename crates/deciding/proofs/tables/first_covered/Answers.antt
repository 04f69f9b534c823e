use Rattle.std.proofs.Common.{◌≡◌, Some, slice_get, refl}
use Rattle.std.proofs.lemmas.Option.{slice_get_read}
use Rattle.deciding.proofs.tables.first_covered.Goals as goal

pub returns-then-covers : goal.returns-then-covers
returns-then-covers c = (
  c.index-table-i.result,
  here,
  λ records all placed. c.covers.ensures records placed (all c.index-table-i.result (c.loop-i.i, here)) c.if-covers.true,
) where
  here : slice_get c.args.table.now c.loop-i.i ≡ Some c.index-table-i.result
  here = slice_get_read c.args.table.now _ c.loop-i.i c.index-table-i.result refl c.loop-i-test.true c.index-table-i.is
