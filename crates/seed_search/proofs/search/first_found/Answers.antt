use Rattle.std.proofs.Common.{◌≡◌, ◌+◌, ◌≤◌, ℕ, arith, false, subst}
use Rattle.std.proofs.lemmas.Bool.{false_from_ne_true}
use Rattle.std.specs.Prelude.{IfNone}
use Rattle.disturbances.specs.contracts.disturbed_group.DisturbedGroupTarget.TheImpl as group
use Rattle.recorded_runs.specs.Runs.{is_refused}
use Rattle.seed_search.specs.Found.{AreCleared, IsCleared, with_seed}
use Rattle.seed_search.proofs.ClearedLemmas.{cleared_fewer, cleared_more}
use Rattle.seed_search.proofs.search.first_found.Goals as goal
use Rattle.seed_search.proofs.search.first_found.Goals.{else-loop-seed-test, then-loop-seed-test+in_ok-run+in-None+else-seed-seed-end}

pub loop-seed-preserved : goal.loop-seed-preserved
loop-seed-preserved g c =
    let own : IsCleared (group.issued-value).it (group.gave-value).it c.args.disturbance (with_seed c.args.setting.now c.loop-seed.seed) =
    subst (λ found. IfNone found (IsCleared (group.issued-value).it (group.gave-value).it c.args.disturbance (with_seed c.args.setting.now c.loop-seed.seed))) c.in-None.is c.in_ok-run.ensures.none in
    record {
      cleared = cleared_more (group.issued-value).it (group.gave-value).it c.args.disturbance c.args.setting.now c.first-first.result c.loop-seed.seed c.loop-seed.invariant.cleared own;
      taken = λ _. false_from_ne_true (is_refused c.args.setting.now) (λ refused. let reported = c.in_ok-run.ensures.setting.1 refused in cc);
    }

pub returns-clause-none : goal.returns-clause-none
returns-clause-none g c =
    subst (λ (first : ℕ). AreCleared (group.issued-value).it (group.gave-value).it c.args.disturbance c.args.setting.now first (c.args.seeds.last + 1)) c.first-first.ensures
    (elim c.loop-seed-test.branch as (λ _. AreCleared (group.issued-value).it (group.gave-value).it c.args.disturbance c.args.setting.now c.first-first.result (c.args.seeds.last + 1)) [
      | else-loop-seed-test w ↦ cleared_fewer (group.issued-value).it (group.gave-value).it c.args.disturbance c.args.setting.now c.first-first.result c.loop-seed.seed (c.args.seeds.last + 1) (omega arith)
          c.loop-seed.invariant.cleared
      | then-loop-seed-test+in_ok-run+in-None+else-seed-seed-end w ↦
          (let own : IsCleared (group.issued-value).it (group.gave-value).it c.args.disturbance (with_seed c.args.setting.now c.loop-seed.seed) =
          subst (λ found. IfNone found (IsCleared (group.issued-value).it (group.gave-value).it c.args.disturbance (with_seed c.args.setting.now c.loop-seed.seed))) w.in-None.is w.in_ok-run.ensures.none in
          cleared_fewer (group.issued-value).it (group.gave-value).it c.args.disturbance c.args.setting.now c.first-first.result (c.loop-seed.seed + 1) (c.args.seeds.last + 1) (omega arith)
          (cleared_more (group.issued-value).it (group.gave-value).it c.args.disturbance c.args.setting.now c.first-first.result c.loop-seed.seed c.loop-seed.invariant.cleared own))
    ])
