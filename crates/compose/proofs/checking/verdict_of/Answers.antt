use Rattle.std.proofs.Common.{ap, length, refl, subst, sym, true}
use Rattle.events.specs.Events.{documents_of}
use Rattle.covers.specs.Covers.{AreWitnesses, HasNoUnpairedCover}
use Rattle.compose.specs.Verdicts.{Proven}
use Rattle.covers.specs.Answered.{AreAnswersFor, IsCovered}
use Rattle.compose.specs.aids.Searched.{AreUnordered}
use Rattle.compose.proofs.UnorderedLemmas.{are_documents}
use Rattle.compose.proofs.VerdictLemmas.{uncovered_has_none, witnesses_explain}
use Rattle.compose.proofs.checking.verdict_of.Goals as goal

pub returns-in-Ok-Found-clause-verdict : goal.returns-in-Ok-Found-clause-verdict
returns-in-Ok-Found-clause-verdict c =
    let are = subst (λ events. AreAnswersFor c.args.conflicts events true (documents_of events) c.args.answers.items) (sym c.whole.ensures) c.requires in
    let covers = subst (λ events. AreWitnesses c.args.conflicts events c.in-Ok-Found.witnesses.items) c.whole.ensures
    (subst (IsCovered c.args.conflicts c.whole.result true) c.in-Ok-Found.field-0-is (c.in-Ok-Found.ensures c.args.conflicts are)) in (
      ap (λ (p : Proven). p.events) c.of.ensures,
      ap (λ (p : Proven). p.conflicts) c.of.ensures,
      subst (λ (p : Proven). AreWitnesses c.args.conflicts c.args.history p.witnesses) (sym c.of.ensures) covers,
      witnesses_explain c.args.conflicts c.args.history c.in-Ok-Found.witnesses.items c.len.ensures.history covers,
    )

pub returns-in-Ok-NotFound-clause-verdict : goal.returns-in-Ok-NotFound-clause-verdict
returns-in-Ok-NotFound-clause-verdict c =
    let are = subst (λ events. AreAnswersFor c.args.conflicts events true (documents_of events) c.args.answers.items) (sym c.whole.ensures) c.requires in (
      ap (λ u. u.events) c.of-in-Ok-NotFound.ensures,
      ap (λ u. u.conflicts) c.of-in-Ok-NotFound.ensures,
      uncovered_has_none c.args.conflicts c.args.history c.len.ensures.history
          (subst (HasNoUnpairedCover c.args.conflicts) c.whole.ensures
          (subst (IsCovered c.args.conflicts c.whole.result true) c.in-Ok-NotFound.field-0-is (c.in-Ok-NotFound.ensures c.args.conflicts are) refl)),
    )

pub returns-in-Ok-NotFound-clause-accepts : goal.returns-in-Ok-NotFound-clause-accepts
returns-in-Ok-NotFound-clause-accepts c =
    let are = subst (λ events. AreAnswersFor c.args.conflicts events true (documents_of events) c.args.answers.items) (sym c.whole.ensures) c.requires in
    (uncovered_has_none c.args.conflicts c.args.history c.len.ensures.history
    (subst (HasNoUnpairedCover c.args.conflicts) c.whole.ensures
    (subst (IsCovered c.args.conflicts c.whole.result true) c.in-Ok-NotFound.field-0-is (c.in-Ok-NotFound.ensures c.args.conflicts are) refl))).not_right

pub of-requires-in-Ok-NotFound-clause-uncovered : goal.of-requires-in-Ok-NotFound-clause-uncovered
of-requires-in-Ok-NotFound-clause-uncovered c =
    let are = subst (λ events. AreAnswersFor c.args.conflicts events true (documents_of events) c.args.answers.items) (sym c.whole.ensures) c.requires in
    subst (HasNoUnpairedCover c.args.conflicts) c.whole.ensures
    (subst (IsCovered c.args.conflicts c.whole.result true) c.in-Ok-NotFound.field-0-is (c.in-Ok-NotFound.ensures c.args.conflicts are) refl)

pub of-requires-in-Ok-NotFound-clause-within : goal.of-requires-in-Ok-NotFound-clause-within
of-requires-in-Ok-NotFound-clause-within c =
    are_documents c.args.conflicts c.args.history c.args.answers.items c.in-Ok.unordered.items c.requires
    (subst (λ xs. AreUnordered xs (length xs) c.in-Ok.unordered.items) c.deref.ensures.value c.in-Ok.ensures)
