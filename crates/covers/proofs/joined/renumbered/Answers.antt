use Rattle.events.specs.Events.{documents_of}
use Rattle.covers.proofs.FoundLemmas.{searched_anyway}
use Rattle.covers.proofs.joined.renumbered.Goals as goal

pub returns-in-Short : goal.returns-in-Short
returns-in-Short c = λ conflicts first are none. (searched_anyway conflicts c.args.history.now first (documents_of c.args.history.now) c.args.witnesses.items are, none)
