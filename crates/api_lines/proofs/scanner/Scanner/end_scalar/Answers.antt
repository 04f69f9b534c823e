use Rattle.std.proofs.Common.{◌≡◌, ◌∙◌, ap, arith, sym, true}
use Rattle.json.specs.Lex.{after_value, begins_colon, punctuate}
use Rattle.api_lines.specs.aids.PlainTexts.{is_ended}
use Rattle.api_lines.proofs.ScanLemmas.{no_colon_next}
use Rattle.api_lines.proofs.scanner.Scanner.end_scalar.Goals as goal

pub returns-clause-ended : goal.returns-clause-ended
returns-clause-ended c =
    let rest = c.after_spaces-next.ensures in
    let ended : is_ended c.after_spaces-next.result.now ≡ true = grind arith in
    record { word = rest.word ended; no_colon = sym (ap begins_colon rest.same) ∙ no_colon_next c.after_spaces-next.result.now ended }

pub returns-clause-left : goal.returns-clause-left
returns-clause-left c = c.pass_comma.ensures ∙ ap (punctuate after_value) c.after_spaces-next.ensures.same
