use Rattle.repl_group.proofs.KeepLemmas.{follow_kept, follow_length, follow_seen}
use Rattle.repl_group.proofs.copies.Copies.follow.Goals as goal

pub invariant_of-self-2 : goal.invariant_of-self-2
invariant_of-self-2 c =
    follow_kept c.self.inside.log c.self.inside.list.items c.args.self.now c.args.primary c.follow.new.replicas.items c.self.view_is c.self.invariant c.requires.there c.requires.follows c.in_ok-follow.ensures.ok

pub returns-clause-ok : goal.returns-clause-ok
returns-clause-ok c =
    follow_seen c.self.inside.log c.self.inside.list.items c.args.self.now c.args.primary c.follow.new.replicas.items c.self.view_is c.self.invariant c.requires.there c.requires.follows c.in_ok-follow.ensures.ok

pub returns-clause-len : goal.returns-clause-len
returns-clause-len c =
    follow_length c.self.inside.log c.self.inside.list.items c.args.self.now c.args.primary c.follow.new.replicas.items c.self.view_is c.self.invariant c.requires.there c.requires.follows c.in_ok-follow.ensures.ok
