use Rattle.std.proofs.Common.{ap, sym, ◌∙◌}
use Rattle.readings.specs.Reading.{heeded, is_among}
use Rattle.readings.proofs.ShownLemmas.{is_among_so}
use Rattle.readings.proofs.reading.Reading.is_void.Goals as goal

pub returns-in-Trusted : goal.returns-in-Trusted
returns-in-Trusted c =
    is_among_so c.args.voids.now c.args.no c.contains.result c.contains.ensures
    ∙ ap (λ mode. is_among (heeded mode c.args.voids.now) c.args.no) (sym c.in-Trusted.is)
