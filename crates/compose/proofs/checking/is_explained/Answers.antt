use Rattle.std.proofs.Common.{subst}
use Rattle.compose.specs.aids.Searched.{IsSearchOutcome}
use Rattle.compose.proofs.checking.is_explained.Goals as goal

pub returns-in-Found-clause-found : goal.returns-in-Found-clause-found
returns-in-Found-clause-found c = λ is. subst (IsSearchOutcome c.args.conflicts c.args.history.now) c.in-Found.is c.in_ok-search_outcome.ensures

pub returns-in-NotFound-clause-none : goal.returns-in-NotFound-clause-none
returns-in-NotFound-clause-none c = λ is. subst (IsSearchOutcome c.args.conflicts c.args.history.now) c.in-NotFound.is c.in_ok-search_outcome.ensures
