use Rattle.std.proofs.Common.{◌≡◌, ◌<◌, ◌≤◌, List, length, Some, slice_get, refl, arith}
use Rattle.std.proofs.lemmas.Option.{slice_get_within, slice_get_read}
use Rattle.events.specs.declared.record.Rec.{Rec}
use Rattle.deciding.specs.aids.Candidates.{facts_of}
use Rattle.deciding.proofs.TableLemmas.{placed_more, positions_kept, tables_kept_on}
use Rattle.deciding.proofs.tables.ReplyTables.place_all.Goals as goal

pub loop-i-preserved : goal.loop-i-preserved
loop-i-preserved c d has all =
    let before = c.loop-i.invariant d has all in
    let copy = c.in_ok-row.ensures in
    let step = c.in_ok-place.ensures.ok d (positions_kept records c.args.self.now c.loop-i.self before.0) (copy.1 records (all c.index-rows-i.result (c.loop-i.i, here))) in (
      tables_kept_on records c.args.self.now c.loop-i.self c.place.new.self before.0 step.0,
      λ k row within at. placed_more (facts_of c.args.document.now) records c.args.number c.args.call c.args.rows.now c.loop-i.i c.index-rows-i.result c.in_ok-row.row
          c.loop-i.self c.place.new.self here copy.0 before.1 step.0 step.1 k row (omega (arith, within)) at,
    ) where
      records : List Rec
      records = c.args.document.now.records.now

      here : slice_get c.args.rows.now c.loop-i.i ≡ Some c.index-rows-i.result
      here = slice_get_read c.args.rows.now _ c.loop-i.i c.index-rows-i.result refl c.loop-i-test.true c.index-rows-i.is

pub returns : goal.returns
returns c = record {
  ok = λ d has all. (
      let done = c.loop-i.invariant d has all in (
        done.0,
        λ k row at. done.1 k row (let inside : k < length c.args.rows.now = slice_get_within c.args.rows.now k row at in let past : length c.args.rows.now ≤ c.loop-i.i = c.loop-i-test.false in omega (arith, inside, past)) at,
      )
      );
}
