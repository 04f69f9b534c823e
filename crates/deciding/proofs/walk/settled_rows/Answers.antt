use Rattle.std.proofs.Common.{◌≡◌, ◌<◌, ◌≤◌, length, Some, slice_get, refl, arith}
use Rattle.std.proofs.lemmas.Option.{slice_get_read, slice_get_within}
use Rattle.deciding.specs.Tables.{settled}
use Rattle.deciding.proofs.TableLemmas.{covered_more}
use Rattle.deciding.proofs.walk.settled_rows.Goals as goal

pub loop-i-preserved : goal.loop-i-preserved
loop-i-preserved c records all =
    let before = c.loop-i.invariant records all in
    let made = c.in_ok-settled.ensures in
    let adds = c.in_ok-add_row.ensures.ok records before.0 (made.1 records (all c.index-served-i.result (c.loop-i.i, here))) in (
      adds.keeps.positioned,
      λ k row within at. covered_more records (settled c.args.number) c.args.served.now c.loop-i.i c.index-served-i.result c.in_ok-settled.field-0 c.loop-i.rows.items c.add_row.new.table.items
          here made.0 before.1 adds k row (omega (arith, within)) at,
    ) where
      here : slice_get c.args.served.now c.loop-i.i ≡ Some c.index-served-i.result
      here = slice_get_read c.args.served.now _ c.loop-i.i c.index-served-i.result refl c.loop-i-test.true c.index-served-i.is

pub returns : goal.returns
returns c records all =
    let done = c.loop-i.invariant records all in (
      done.0,
      λ k row at. done.1 k row (let inside : k < length c.args.served.now = slice_get_within c.args.served.now k row at in let past : length c.args.served.now ≤ c.loop-i.i = c.loop-i-test.false in omega (arith, inside, past)) at,
    )
