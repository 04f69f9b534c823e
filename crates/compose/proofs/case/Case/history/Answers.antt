use Rattle.std.proofs.Common.{subst}
use Rattle.compose.specs.Verdicts.{HasNoOrderFound}
use Rattle.compose.proofs.VerdictLemmas.{uncovered_has_none}
use Rattle.compose.proofs.case.Case.history.Goals as goal

pub returns-clause-none : goal.returns-clause-none
returns-clause-none c =
    subst (λ u. HasNoOrderFound u.conflicts u.events) c.self.view_is
    (uncovered_has_none c.self.inside.conflicts c.self.inside.history c.self.invariant.0 c.self.invariant.1)
