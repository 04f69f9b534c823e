use Rattle.deciding.proofs.EndLemmas.{others_stay}
use Rattle.deciding.proofs.elsewhere.set_end.Goals as goal

pub returns-clause-others : goal.returns-clause-others
returns-clause-others c = others_stay c.args.ends.now c.insert.new.self c.args.pair c.args.end c.in_ok-insert.ensures.updates
