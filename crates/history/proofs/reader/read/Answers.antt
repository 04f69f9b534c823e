use Rattle.std.proofs.Common.{◌≡◌, rules, Ok}
use Rattle.history.specs.Reading.{history_text}
use Rattle.history.proofs.TextLaws.{read_is_text}
use Rattle.history.proofs.reader.read.Goals as goal

pub returns-clause-text : goal.returns-clause-text
returns-clause-text c =
    let read : history_text c.args.text.now ≡ Ok c.finish.result = search rules in
    read_is_text c.args.text.now c.finish.result read
