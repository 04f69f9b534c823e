use Rattle.std.proofs.Common.{List, subst}
use Rattle.std.specs.Prelude.{IfSome}
use Rattle.doc_register.specs.declared.state.Conflicts.{Conflicts}
use Rattle.events.specs.declared.event.Event.{Event}
use Rattle.evidence.specs.Evidence.{IsDocumentRuledOut}
use Rattle.evidence.proofs.RuledOutLemmas.{made_if_found}
use Rattle.story_reasons.proofs.reason.reason_of.Goals as goal

pub returns-in-Some : goal.returns-in-Some
returns-in-Some c =
    let rulings = c.in_ok-rulings.rulings in
    let ruled = subst (λ found. IfSome found (λ _. IsDocumentRuledOut rulings.conflicts rulings.history.now c.args.doc)) c.in-Some.is c.in_ok-contradiction.ensures in
    let same = c.in_ok-rulings.ensures in
    made_if_found c.found_reason.result
    (subst (λ (conflicts : Conflicts). IsDocumentRuledOut conflicts c.args.unexplained.now.history.now c.args.doc) same.1
    (subst (λ (events : List Event). IsDocumentRuledOut rulings.conflicts events c.args.doc) same.0 ruled))
