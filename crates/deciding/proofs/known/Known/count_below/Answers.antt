use Rattle.std.proofs.Common.{rules, sym, subst}
use Rattle.std.proofs.lemmas.List.Sorted.{IsPartitionPoint-from_clause}
use Rattle.version_pair.specs.declared.pair.Pair.{Pair}
use Rattle.deciding.specs.Positions.{is_below}
use Rattle.deciding.specs.aids.KnownPairs.{AreKnown}
use Rattle.deciding.proofs.Counts.{same_as_tested}
use Rattle.deciding.proofs.KnownLemmas.{below_first, count_is_point}
use Rattle.deciding.proofs.known.Known.count_below.Goals as goal

pub returns-clause-exact : goal.returns-clause-exact
returns-clause-exact c records known =
    let pairs = c.deref.result.now in
    let there : AreKnown records pairs = subst (AreKnown records) (sym c.deref.ensures.value) known in
    let test = λ (v : Pair). is_below v c.args.pair in
    let point = IsPartitionPoint-from_clause test pairs c.partition_point.result c.partition_point.ensures.partitioned (below_first pairs c.args.pair there.in_order) (λ a r q k. search (rules, same_as_tested)) in
    count_is_point records pairs c.args.pair c.partition_point.result there c.partition_point.ensures.bound point
