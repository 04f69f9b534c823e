use Rattle.std.proofs.Common.{◌≡◌, ◌∙◌, ◌++◌, ◌∷◌, [], ap, refl, subst, sym}
use Rattle.doc_register.specs.declared.op.Op.{Op}
use Rattle.events.specs.declared.event.Event.TheVariants.{Call}
use Rattle.workload.specs.ClientRuns.{doc_name, op_of, pair_in}
use Rattle.workload.proofs.PlayerLemmas.{begun_advances, begun_visits}
use Rattle.workload.proofs.visiting.begin_next.Goals as goal

pub returns-clause-visits : goal.returns-clause-visits
returns-clause-visits g c =
    let turn = c.in-Some.turn in
    let asked : Op = op_of turn.kind (pair_in c.args.player.now.known turn.doc) c.in-Some.k in
    let op_is : c.operation-op.result ≡ asked = c.operation-op.ensures ∙ ap (λ seen. op_of turn.kind seen c.in-Some.k) c.pair.ensures in
    let recorded : c.push.new.self ≡ c.args.history.now ++ Call 0 c.len-no.result (doc_name turn.doc) asked ∷ [] =
    cc (c.in_ok-push.ensures.ok, c.in_ok-copy.ensures, c.in_ok-id.ensures, op_is) in
    begun_visits g.T.OwnedTarget.takes g.T.OwnedTarget.reports c.args.polls c.args.plan.now c.args.target.now c.submit.new.self c.args.player.now
    c.args.history.now c.push.new.self turn c.in-Some.k _ c.requires.idle (sym c.in-Some.ensures.turn) c.in-Some.ensures.number c.len-no.ensures.count refl
    (subst (λ d. g.T.OwnedTarget.takes c.args.target.now d asked c.in_ok-ticket.ticket c.submit.new.self) c.in_ok-id.ensures
    (subst (λ op. g.T.OwnedTarget.takes c.args.target.now c.in_ok-id.id op c.in_ok-ticket.ticket c.submit.new.self) op_is c.in_ok-ticket.ensures.takes))
    recorded

pub returns-clause-advances : goal.returns-clause-advances
returns-clause-advances g c =
    begun_advances c.args.polls c.args.plan.now c.args.player.now c.in-Some.turn _ c.requires.idle (sym c.in-Some.ensures.turn)
