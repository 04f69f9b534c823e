use Rattle.std.proofs.Common.{◌<◌, ◌+◌, ◌∙◌, ap, arith, cond, length, sym}
use Rattle.std.specs.Prelude.{replicate}
use Rattle.repl_group.specs.aids.Keeping.{taken_by}
use Rattle.repl_group.specs.aids.Following.{follows}
use Rattle.repl_group.proofs.FollowLemmas.{led_more}
use Rattle.repl_group.proofs.replicas.hand_over.Goals as goal

pub loop-replica-preserved : goal.loop-replica-preserved
loop-replica-preserved c held equal =
    let within : c.loop-replica.replica-index < length c.deref_mut-replica-items.result.now = omega (arith, c.loop-replica-test.true, c.loop-replica.auto.replica-items) in
    led_more c.deref_mut-replica-items.result.now c.loop-replica.replica-items c.loop-replica.replica-index c.replica-item.result _ c.loop-replica.sets.items _ held within c.replica-item.is
    (c.loop-replica.invariant held equal) (λ n same.
    let led = c.lead.ensures held n (same ∙ ap (λ z. replicate (n + cond (follows z) 1 0) held) c.replica-item.is) in
    (led.0 ∙ ap (taken_by held) (sym c.replica-item.is), led.1))
