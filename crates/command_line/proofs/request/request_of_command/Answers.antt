use Rattle.std.proofs.Common.{◌∙◌, List, ap, sym}
use Rattle.clap.specs.Words.{Text, found_of, rows_of}
use Rattle.command_line.specs.Asked.{checked_of, request_of_command}
use Rattle.command_line.proofs.request.request_of_command.Goals as goal

pub returns-in_ok-files-in-check : goal.returns-in_ok-files-in-check
returns-in_ok-files-in-check c =
    let rows = rows_of (found_of c.args.given.now) in
    c.check_request.ensures ∙ ap (λ (files : List Text). checked_of files rows) c.in_ok-files-in-check.ensures ∙ sym (ap (λ (name : Text). request_of_command name rows) c.in-check.is)
