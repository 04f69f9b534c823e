use Rattle.std.proofs.Common.{◌≡◌, ◌∙◌, List, Option, Some, None, ap, ap₂, sym, option_map}
use Rattle.std.proofs.lemmas.Result.{IfOk-weaker}
use Rattle.std.specs.Box.{box_value}
use Rattle.clap.specs.Words.{Row, Text, found_of, rows_of, subcommand_rows_of}
use Rattle.clap.specs.declared.parser.matches.ArgMatches.TheViews.{out-ArgMatches, out-SubCommand}
use Rattle.command_line.specs.Asked.{asked_of}
use Rattle.command_line.proofs.request.asked_for.Goals as goal

-- a name and rows that are known apart are known together
both_known : {X : Type 0} (name : X → Text) (rows : X → List Row) (found : Option X) (n : Text) (rs : List Row) → Some n ≡ option_map name found
    → Some rs ≡ option_map (λ (p : Text × List Row). p.1) (option_map {U = Text × List Row} (λ x. (name x, rows x)) found) → option_map {U = Text × List Row} (λ x. (name x, rows x)) found ≡ Some (n, rs)
both_known name rows None n rs named listed = absurd (cc)
both_known name rows (Some x) n rs named listed =
    let one : name x ≡ n = cc in
    let two : rows x ≡ rs = cc in
    let pair : Text → List Row → Option (Text × List Row) = λ u v. Some (u, v) in
    ap₂ pair one two

pub returns-in-Some : goal.returns-in-Some
returns-in-Some c =
    let given : subcommand_rows_of c.args.matches.now ≡ Some (c.in-Some.name.now, rows_of (found_of c.in-Some.given.now)) =
    both_known (λ b. (out-SubCommand (box_value b)).name.now) (λ b. rows_of (found_of (out-SubCommand (box_value b)).matches)) (out-ArgMatches c.args.matches.now).subcommand
    c.in-Some.name.now (rows_of (found_of c.in-Some.given.now)) c.in-Some.ensures.name c.in-Some.ensures.rows in
    IfOk-weaker c.request_of_command.result _ _ (λ asked is. is ∙ sym (ap asked_of given)) c.request_of_command.ensures
