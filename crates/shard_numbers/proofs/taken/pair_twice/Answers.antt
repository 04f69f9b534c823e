use Rattle.std.proofs.Common.{subst, sym}
use Rattle.std.specs.Prelude.{IsSorted}
use Rattle.shard_numbers.specs.Taken.{IsLeastTwice, by_shard}
use Rattle.shard_numbers.proofs.TwiceMoved.{least_back}
use Rattle.shard_numbers.proofs.taken.pair_twice.Goals as goal

pub returns : goal.returns
returns c =
    let sorted = subst (λ xs. IsSorted by_shard xs) (sym c.deref.ensures.value) c.sort_unstable.ensures.sorted in
    let least = subst (λ xs. IsLeastTwice xs c.first_repeated.result) c.deref.ensures.value (c.first_repeated.ensures sorted) in
    subst (λ xs. IsLeastTwice xs c.first_repeated.result) c.in_ok-pairs.ensures
    (least_back c.in_ok-pairs.pairs.items c.sort_unstable.new.self.items c.first_repeated.result c.sort_unstable.ensures.permutation least)
