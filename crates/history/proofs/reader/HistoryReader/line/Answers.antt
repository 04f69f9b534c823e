use Rattle.std.proofs.Common.{◌≡◌, Err, Ok, subst}
use Rattle.std.specs.Prelude.{IfErr, OnOk}
use Rattle.api_lines.specs.Faults.{IfTextReported}
use Rattle.api_lines.specs.Texts.{next_line}
use Rattle.history.specs.Reading.{takes_value}
use Rattle.history.proofs.StrictTexts.{events_so_far, strict_after, strict_fault, strict_ok}
use Rattle.history.proofs.reader.HistoryReader.line.Goals as goal

pub invariant_of-self : goal.invariant_of-self
invariant_of-self c =
    strict_after c.self.inside.reader c.line.new.self c.args.line.now c.line.result c.self.invariant c.line.ensures.ok c.line.ensures.unchanged

pub returns-clause-ok : goal.returns-clause-ok
returns-clause-ok c =
    subst (λ r. OnOk c.line.result (next_line takes_value r c.args.line.now ≡ Ok (events_so_far c.line.new.self))) c.self.view_is
    (strict_ok c.self.inside.reader c.line.new.self c.args.line.now c.line.result c.self.invariant c.line.ensures.ok)

pub returns-clause-fault : goal.returns-clause-fault
returns-clause-fault c =
    subst (λ r. IfErr c.line.result (λ fault. IfTextReported fault (λ reported. next_line takes_value r c.args.line.now ≡ Err reported))) c.self.view_is
    (strict_fault c.self.inside.reader c.args.line.now c.line.result c.self.invariant c.line.ensures.fault)
