use Rattle.std.proofs.Common.{◌≡◌, ◌∙◌, sym, true}
use Rattle.readings.specs.Reading.{leaves_events}
use Rattle.readings.proofs.KeptLemmas.{left_as_they_are}
use Rattle.readings.proofs.read_history.ReadHistory.of.Goals as goal

pub returns-then-leaves_events-clause-judged : goal.returns-then-leaves_events-clause-judged
returns-then-leaves_events-clause-judged c =
    let leaves : leaves_events c.args.reading ≡ true = sym c.leaves_events.ensures ∙ c.if-leaves_events.true in
    sym (left_as_they_are c.args.reading c.args.read.voids c.args.read.history leaves)
