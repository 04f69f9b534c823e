use Rattle.std.proofs.Common.{subst, List}
use Rattle.std.specs.List.Sorted.{IsBinarySearchResult}
use Rattle.std.proofs.lemmas.Option.{slice_get_within}
use Rattle.version_pair.specs.declared.pair.Pair.{Pair}
use Rattle.write_chain.specs.Chain.{pair_cmp}
use Rattle.doc_check.proofs.StretchLemmas.{pair_stands}
use Rattle.doc_check.proofs.stretches.Stretches.link_of.Goals as goal

pub returns-in-Some-clause-bound : goal.returns-in-Some-clause-bound
returns-in-Some-clause-bound c = slice_get_within c.args.self.now.pairs.items c.in-Some.link c.args.pair c.in-Some.ensures

pub returns-in-Some-clause-position : goal.returns-in-Some-clause-position
returns-in-Some-clause-position c = pair_stands c.args.self.now.pairs.items c.args.pair c.in-Some.link c.in-Some.ensures

pub returns-in-None-clause-position : goal.returns-in-None-clause-position
returns-in-None-clause-position c =
    subst (λ (ps : List Pair). IsBinarySearchResult (λ p. pair_cmp p c.args.pair) ps c.binary_search.result) c.deref.ensures.value c.binary_search.ensures.position
