use Rattle.std.proofs.Common.{◌≡◌, cond, Some}
use Rattle.doc_check.specs.aids.Stretches.{is_so}
use Rattle.doc_check.proofs.StretchLemmas.{latest_kept, latest_new, table_more}
use Rattle.doc_check.proofs.latest.latest_stretches.Goals as goal
use Rattle.doc_check.proofs.latest.latest_stretches.Goals.{then-is_so, else-is_so}

pub loop-stretch-preserved : goal.loop-stretch-preserved
loop-stretch-preserved c =
    let latest_is : c.if-is_so.latest ≡ cond (is_so c.args.states.now c.args.live c.loop-stretch.stretch) (Some c.loop-stretch.stretch) c.loop-stretch.latest =
    elim c.if-is_so.branch [
      | then-is_so w ↦ latest_new c.args.states.now c.args.live c.loop-stretch.stretch c.index-states-stretch.result c.is_so.result c.loop-stretch.latest c.if-is_so.latest
          c.loop-stretch-test.true c.index-states-stretch.is c.is_so.ensures w.if-is_so.true w.latest-is
      | else-is_so w ↦ latest_kept c.args.states.now c.args.live c.loop-stretch.stretch c.index-states-stretch.result c.is_so.result c.loop-stretch.latest c.if-is_so.latest
          c.loop-stretch-test.true c.index-states-stretch.is c.is_so.ensures w.if-is_so.false w.latest-is
    ] in
    table_more c.args.states.now c.args.live c.loop-stretch.stretch c.loop-stretch.table.items c.push.new.self.items c.loop-stretch.latest c.if-is_so.latest
    c.loop-stretch.invariant.0 c.loop-stretch.invariant.1 latest_is c.in_ok-push.ensures.items
