use Rattle.std.proofs.Common.{ap}
use Rattle.repl_group.specs.Copies.{ShardCopy}
use Rattle.repl_group.proofs.KeepLemmas.{kept_set, length_any, same_seen, seen_set, there}
use Rattle.repl_group.proofs.copies.Copies.set_cut.Goals as goal

pub invariant_of-self : goal.invariant_of-self
invariant_of-self c =
    let at = there c.self.inside.log c.self.inside.list.items c.args.self.now c.args.copy c.index_mut.result.now c.self.view_is c.requires c.index_mut.ensures.value in
    kept_set c.self.inside.log c.self.inside.list.items c.args.copy _ c.self.invariant (c.self.invariant.kept c.args.copy c.index_mut.result.now at)

pub returns-clause-set : goal.returns-clause-set
returns-clause-set c y is =
    let at = there c.self.inside.log c.self.inside.list.items c.args.self.now c.args.copy c.index_mut.result.now c.self.view_is c.requires c.index_mut.ensures.value in
    let same = same_seen c.self.inside.log c.self.inside.list.items c.args.self.now c.args.copy c.index_mut.result.now y c.self.view_is at is in
    seen_set c.self.inside.log c.self.inside.list.items c.args.self.now c.args.copy (record c.index_mut.result.now { is_cut = c.args.is_cut }) (record y { is_cut = c.args.is_cut }) c.self.view_is
    (ap (λ (x : ShardCopy). record x { is_cut = c.args.is_cut }) same)

pub returns-clause-len : goal.returns-clause-len
returns-clause-len c = length_any c.self.inside.log c.self.inside.log c.self.inside.list.items c.args.self.now c.args.copy _ c.self.view_is
