use Rattle.std.proofs.Common.{None, subst}
use Rattle.std.specs.Prelude.{IfSome}
use Rattle.covers.specs.aids.Searched.{AreAlike}
use Rattle.shard_numbers.specs.Taken.{IsLeastTwice, pairs_taken}
use Rattle.covers.proofs.FoundLemmas.{alike_cover}
use Rattle.covers.proofs.joined.join_changed.Goals as goal

pub returns-in-None : goal.returns-in-None
returns-in-None c = λ conflicts first are uncovered.
    let alike = subst (λ o. IfSome o (λ ws. AreAlike c.args.witnesses.items ws.items)) c.in-Some.is c.in_ok-others.ensures in
    alike_cover conflicts c.args.history.now first c.args.witnesses.items c.in-Some.others.items are alike
    (subst (λ ws. IsLeastTwice (pairs_taken c.args.history.now ws) None) c.deref.ensures.value
    (subst (IsLeastTwice (pairs_taken c.args.history.now c.deref.result.now)) c.in-None.is c.in_ok-pair_twice.ensures))
