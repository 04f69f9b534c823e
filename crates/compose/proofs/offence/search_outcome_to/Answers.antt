use Rattle.std.proofs.Common.{subst}
use Rattle.std.proofs.lemmas.Result.{IfOk-weaker}
use Rattle.compose.specs.aids.Searched.{IsSearchOutcome}
use Rattle.compose.proofs.OffenceLemmas.{outcome_wrong}
use Rattle.compose.proofs.offence.search_outcome_to.Goals as goal

pub returns : goal.returns
returns c =
    IfOk-weaker c.search_outcome.result _ _
    (λ found is. outcome_wrong c.args.conflicts c.args.history.now c.args.place found (subst (λ events. IsSearchOutcome c.args.conflicts events found) c.front.ensures is)) c.search_outcome.ensures
