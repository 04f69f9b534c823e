use Rattle.std.proofs.Common.{◌<◌, arith, subst, sym}
use Rattle.repl_group.specs.aids.Sound.{IsSoundUnlessFaulty}
use Rattle.repl_group.proofs.RunLemmas.{sound_start}
use Rattle.repl_group.proofs.group_core.Core.new.Goals as goal

pub invariant_of-result : goal.invariant_of-result
invariant_of-result c =
    let some : 0 < c.args.copies = omega (arith, c.if-copies-eq0.false) in
    subst IsSoundUnlessFaulty (sym c.in-Ok.ensures) (sound_start c.args.fault c.args.copies some)
