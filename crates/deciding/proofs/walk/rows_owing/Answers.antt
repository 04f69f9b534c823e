use Rattle.std.proofs.Common.{◌≡◌, ◌<◌, ◌≤◌, length, Some, slice_get, refl, arith}
use Rattle.std.proofs.lemmas.Option.{slice_get_read, slice_get_within}
use Rattle.deciding.proofs.TableLemmas.{left_at_call, owing_more}
use Rattle.deciding.proofs.walk.rows_owing.Goals as goal

pub loop-i-preserved : goal.loop-i-preserved
loop-i-preserved c records known all =
    let before = c.loop-i.invariant records known all in
    let step = c.in_ok-push_owing.ensures.ok records known before.0 (all c.index-front-i.result (c.loop-i.i, here)) in (
      step.0.positioned,
      λ k row within at. owing_more records c.args.number c.args.call c.args.front.now c.loop-i.i c.index-front-i.result c.loop-i.rows.items c.push_owing.new.rows.items here before.1 step.0 step.1
          k row (omega (arith, within)) at,
    ) where
      here : slice_get c.args.front.now c.loop-i.i ≡ Some c.index-front-i.result
      here = slice_get_read c.args.front.now _ c.loop-i.i c.index-front-i.result refl c.loop-i-test.true c.index-front-i.is

pub returns : goal.returns
returns c records known all =
    let done = c.loop-i.invariant records known all in (
      done.0,
      left_at_call records c.args.number c.args.call c.args.front.now c.loop-i.rows.items
          (λ k row at. done.1 k row (let inside : k < length c.args.front.now = slice_get_within c.args.front.now k row at in let past : length c.args.front.now ≤ c.loop-i.i = c.loop-i-test.false in omega (arith, inside, past)) at),
    )
