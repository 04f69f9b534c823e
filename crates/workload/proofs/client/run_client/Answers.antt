use Rattle.std.proofs.Common.{arith, subst, sym}
use Rattle.std.proofs.lemmas.List.{drop_all, drop_more}
use Rattle.workload.specs.aids.Clients.{IsLongerByFront}
use Rattle.workload.proofs.ClientLemmas.{longer_after, longer_at_start, run_at_end}
use Rattle.workload.proofs.client.run_client.Goals as goal

pub loop-turn-init : goal.loop-turn-init
loop-turn-init g c =
    let list = (g.X.Recording.pen_state c.args.pen).list in
    record {
      front =
          subst (λ known. IsLongerByFront g.T.Target.issued g.T.Target.gave c.args.polls c.args.first c.args.turns.now 0 known list list) (sym c.in_ok-known.ensures)
          (longer_at_start g.T.Target.issued g.T.Target.gave c.args.polls c.args.first c.args.turns.now list);
      number = omega arith;
      pen = c.requires.pen;
    }

pub loop-turn-preserved : goal.loop-turn-preserved
loop-turn-preserved g c = record {
  front = longer_after g.T.Target.issued g.T.Target.gave c.args.polls c.args.first c.args.turns.now c.loop-turn.turn-index c.loop-turn.k _ _ _ _ _ _ (drop_more c.args.turns.now c.loop-turn.turn-index _ c.loop-turn-test.true) c.loop-turn.invariant.number c.loop-turn.invariant.front c.in_ok-take_turn.ensures.takes;
  number = omega arith;
  pen = c.in_ok-take_turn.ensures.keeps;
}

pub returns-clause-run : goal.returns-clause-run
returns-clause-run g c = run_at_end g.T.Target.issued g.T.Target.gave c.args.polls c.args.first c.args.turns.now c.loop-turn.turn-index _ _ _ (drop_all c.loop-turn.turn-index c.args.turns.now c.loop-turn-test.false) c.loop-turn.invariant.front
