use Rattle.std.proofs.Common.{◌≡◌, ◌<◌, false}
use Rattle.disturbances.specs.contracts.disturbed_group.DisturbedGroupTarget.TheImpl as group
use Rattle.recorded_runs.specs.Runs.{is_refused}
use Rattle.seed_search.specs.Found.{AreCleared}
use Rattle.seed_search.proofs.search.first_found.Given as goal

abbrev pub invariant-loop-seed : goal.invariant-loop-seed
invariant-loop-seed g l = record {
  cleared : AreCleared (group.issued-value).it (group.gave-value).it l.disturbance l.setting l.first l.seed;
  taken : l.first < l.seed → is_refused l.setting ≡ false;
}
