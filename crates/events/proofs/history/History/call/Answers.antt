use Rattle.std.proofs.Common.{rules, ◌≡◌}
use Rattle.events.specs.Events.{is_call, place_of}
use Rattle.events.proofs.EventLemmas.{first_within}
use Rattle.events.proofs.history.History.call.Goals as goal

pub returns-clause-within : goal.returns-clause-within
returns-clause-within c =
    let found : c.get.result ≡ place_of (is_call c.args.no) c.args.self.now = search rules in
    first_within (is_call c.args.no) c.args.self.now c.get.result found
