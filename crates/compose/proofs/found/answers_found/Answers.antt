use Rattle.std.proofs.Common.{arith, true, ◌<◌, length, subst, sym, take, ◌≤◌}
use Rattle.std.proofs.lemmas.List.{take_all}
use Rattle.events.specs.Events.{documents_of}
use Rattle.covers.specs.Answered.{AreAnswersFor}
use Rattle.compose.proofs.FoundLemmas.{answered_one_more}
use Rattle.compose.proofs.found.answers_found.Goals as goal

pub loop-doc-preserved : goal.loop-doc-preserved
loop-doc-preserved c =
    let within : c.loop-doc.doc < length (documents_of c.args.history.now) = omega (arith, c.loop-doc-test.true, c.docs-doc-end.ensures) in
    subst (AreAnswersFor c.args.conflicts c.args.history.now true (take _ (documents_of c.args.history.now))) (sym c.in_ok-push.ensures.items)
    (answered_one_more c.args.conflicts c.args.history.now c.loop-doc.answers.items c.loop-doc.doc c.in_ok-document_answer.field-0 within c.loop-doc.invariant c.in_ok-document_answer.ensures)

pub returns : goal.returns
returns c =
    let docs = documents_of c.args.history.now in
    let past : length docs ≤ c.loop-doc.doc = omega (arith, c.loop-doc-test.false, c.docs-doc-end.ensures) in
    subst (λ ds. AreAnswersFor c.args.conflicts c.args.history.now true ds c.loop-doc.answers.items) (take_all c.loop-doc.doc docs past) c.loop-doc.invariant
