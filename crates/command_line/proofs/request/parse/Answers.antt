use Rattle.std.proofs.Common.{◌≡◌, ◌∙◌, ap, map, refl, subst, true}
use Rattle.std.proofs.lemmas.Result.{IfOk-weaker}
use Rattle.clap.proofs.OnLiterals.{clap_on_literals}
use Rattle.clap.specs.Words.{App, FailsBy, fault_of, is_simple, is_simple_and_free, subcommand_of}
use Rattle.command_line.specs.Asked.{asked_of, asked_on, command_line, faults_on}
use Rattle.command_line.proofs.request.parse.Goals as goal

is_exact : is_simple command_line ≡ true
unfolding clap_on_literals
is_exact = refl

is_free : is_simple_and_free command_line ≡ true
unfolding clap_on_literals
is_free = refl

pub returns-clause-asked : goal.returns-clause-asked
unfolding asked_on
returns-clause-asked g c =
    let line = c.in_ok-program.ensures in
    let request = map g.S.AsStr.text c.args.process_arguments.now in
    IfOk-weaker c.try_get_matches_from.result _ _ (λ m h. ap asked_of (h (ap is_simple line ∙ is_exact)).1
    ∙ ap (λ (a : App). asked_of (subcommand_of a request)) line) c.try_get_matches_from.ensures.matches

pub returns-clause-faults : goal.returns-clause-faults
unfolding faults_on
returns-clause-faults g c =
    let line = c.in_ok-program.ensures in
    let request = map g.S.AsStr.text c.args.process_arguments.now in
    subst (λ (a : App). FailsBy (fault_of a request) c.try_get_matches_from.result) line
    (c.try_get_matches_from.ensures.kinds (ap is_simple_and_free line ∙ is_free))
