use Rattle.std.proofs.Common.{refl, subst, true}
use Rattle.covers.specs.Answered.{IsCovered}
use Rattle.compose.proofs.VerdictLemmas.{uncovered_has_none, witnesses_explain}
use Rattle.compose.proofs.checking.search_outcome.Goals as goal

pub returns-in-Ok-Found : goal.returns-in-Ok-Found
returns-in-Ok-Found c =
    witnesses_explain c.args.conflicts c.args.history.now _ c.len.ensures.history
    (subst (IsCovered c.args.conflicts c.args.history.now true) c.in-Ok-Found.field-0-is (c.in-Ok-Found.ensures c.args.conflicts c.in_ok-answers.ensures))

pub returns-in-Ok-NotFound : goal.returns-in-Ok-NotFound
returns-in-Ok-NotFound c =
    uncovered_has_none c.args.conflicts c.args.history.now c.len.ensures.history
    (subst (IsCovered c.args.conflicts c.args.history.now true) c.in-Ok-NotFound.field-0-is (c.in-Ok-NotFound.ensures c.args.conflicts c.in_ok-answers.ensures) refl)
