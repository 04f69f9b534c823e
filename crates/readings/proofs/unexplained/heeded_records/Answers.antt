use Rattle.std.proofs.Common.{ap, map, sym, ◌∙◌}
use Rattle.readings.specs.Reading.{heeded}
use Rattle.readings.specs.aids.Unexplained.{heeded_record}
use Rattle.readings.proofs.HeededRecords.{none_heeded}
use Rattle.readings.proofs.unexplained.heeded_records.Goals as goal

pub returns-in-Lost : goal.returns-in-Lost
returns-in-Lost c = sym (ap (λ mode. map (heeded_record (heeded mode c.args.voids.now)) c.args.records.items) c.in-Lost.is ∙ none_heeded c.args.records.items)
