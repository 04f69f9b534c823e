use Rattle.std.proofs.Common.{◌≡◌, ◌+◌, subst, Ok, Err}
use Rattle.api_lines.specs.Faults.{IfTextReported, text_fault}
use Rattle.api_lines.specs.Texts.{next_line, so_far}
use Rattle.api_lines.proofs.LineByLine.{next_refused, next_taken}
use Rattle.history.specs.ByRules.{takes_value_by}
use Rattle.history.proofs.text_reader.TextReader.line.Goals as goal

pub returns-in-Ok-clause-ok : goal.returns-in-Ok-clause-ok
returns-in-Ok-clause-ok c =
    subst (λ r. next_line takes_value_by r c.args.line.now ≡ Ok (so_far c.take_line.new.read (c.self.inside.lines + 1))) c.self.view_is
    (next_taken takes_value_by (so_far c.self.inside.read c.self.inside.lines) c.args.line.now c.take_line.new.read c.in-Ok.ensures.ok)

pub returns-in-Err-clause-fault : goal.returns-in-Err-clause-fault
returns-in-Err-clause-fault c =
    rw c.at.ensures (subst (λ r. IfTextReported (text_fault (c.self.inside.lines + 1) c.in-Err.fault) (λ reported. next_line takes_value_by r c.args.line.now ≡ Err reported)) c.self.view_is
    (next_refused takes_value_by (so_far c.self.inside.read c.self.inside.lines) c.args.line.now c.in-Err.fault c.in-Err.ensures.err))
