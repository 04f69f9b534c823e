use Rattle.repl_group.proofs.RequestLemmas.{listed_added}
use Rattle.repl_group.proofs.requests.Requests.add.Goals as goal

pub invariant_of-self-2 : goal.invariant_of-self-2
invariant_of-self-2 c = rw c.in_ok-push.ensures.items (listed_added _ _ _ c.self.invariant c.args.doc c.args.op)
