use Rattle.std.proofs.lemmas.Result.{IfErr-weaker, IfOk-weaker}
use Rattle.workload.proofs.CauseLemmas.{caused_still, misheard_misfits}
use Rattle.workload.proofs.ClientLemmas.{turn_taken}
use Rattle.workload.specs.ClientRuns.{pair_in}
use Rattle.workload.proofs.client.take_turn.Goals as goal

pub returns-clause-takes : goal.returns-clause-takes
returns-clause-takes g c =
    IfOk-weaker c.end_turn.result _ _ (λ _ ends. turn_taken g.T.Target.issued g.T.Target.gave c.args.polls (pair_in c.args.known.now) _ c.args.k c.args.turn _ _ _ _ _
    c.in_ok-call.ensures.begins c.in_ok-heard.ensures.heard ends) c.end_turn.ensures.ends

pub returns-clause-cause : goal.returns-clause-cause
returns-clause-cause g c =
    IfErr-weaker c.end_turn.result _ _ (λ fault. caused_still _ _ _ _ _ _ _ fault
    (misheard_misfits g.T.Target.issued g.T.Target.gave c.args.polls _ c.in_ok-call.call c.in_ok-heard.heard c.in_ok-call.ensures.opens c.in_ok-heard.ensures.heard)
    (λ none. absurd none)) c.end_turn.ensures.cause
