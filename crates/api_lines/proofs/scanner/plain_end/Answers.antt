use Rattle.std.proofs.Common.{◌≡◌, ◌<◌, get_or, length, take, true, rules}
use Rattle.std.specs.List.{list_all}
use Rattle.std.proofs.lemmas.List.Folds.{list_all_more}
use Rattle.api_lines.proofs.ScanLemmas.{is_plain}
use Rattle.api_lines.proofs.scanner.plain_end.Goals as goal

pub loop-at-preserved : goal.loop-at-preserved
loop-at-preserved c =
    let within : c.loop-at.at < length c.args.bytes.now = search rules in
    let here : is_plain (get_or c.args.bytes.now c.loop-at.at 0) ≡ true = search rules in
    let before : list_all is_plain (take c.loop-at.at c.args.bytes.now) ≡ true = c.loop-at.invariant in
    rw (list_all_more is_plain c.args.bytes.now c.loop-at.at 0 within, before) here
