use Rattle.std.proofs.Common.{Some, None, subst}
use Rattle.std.proofs.lemmas.Result.{IfOk-weaker}
use Rattle.covers.specs.aids.Joined.{IsJoined}
use Rattle.shard_numbers.specs.Taken.{IsLeastTwice, pairs_taken}
use Rattle.covers.proofs.CoveringLemmas.{covered_first}
use Rattle.covers.proofs.SearchedLemmas.{first_collide, searched_cover}
use Rattle.covers.proofs.covering.cover_witnesses.Goals as goal

pub returns-in-None : goal.returns-in-None
returns-in-None c = λ conflicts first are.
    searched_cover conflicts c.args.history.now first c.args.witnesses.items are
    (subst (λ ws. IsLeastTwice (pairs_taken c.args.history.now ws) None) c.deref.ensures.value
    (subst (IsLeastTwice (pairs_taken c.args.history.now c.deref.result.now)) c.in-None.is c.in_ok-pair_twice.ensures))

pub returns-in-Cover : goal.returns-in-Cover
returns-in-Cover c = λ conflicts first are.
    let H = c.args.history.now in
    let least = subst (λ ws. IsLeastTwice (pairs_taken H ws) (Some c.in-Some.field-0)) c.deref.ensures.value
    (subst (IsLeastTwice (pairs_taken H c.deref.result.now)) c.in-Some.is c.in_ok-pair_twice.ensures) in
    subst (IsJoined conflicts H first) c.in-Cover.is
    (c.in_ok-others.ensures conflicts first are (first_collide conflicts H first c.args.witnesses.items c.in-Some.field-0 are least.0))

pub returns-in-Short : goal.returns-in-Short
returns-in-Short c =
    let H = c.args.history.now in
    let least = subst (λ ws. IsLeastTwice (pairs_taken H ws) (Some c.in-Some.field-0)) c.deref.ensures.value
    (subst (IsLeastTwice (pairs_taken H c.deref.result.now)) c.in-Some.is c.in_ok-pair_twice.ensures) in
    IfOk-weaker c.cover_scarce.result _ _
    (λ found is conflicts first are.
    let joined = subst (IsJoined conflicts H first) c.in-Short.is
    (c.in_ok-others.ensures conflicts first are (first_collide conflicts H first c.args.witnesses.items c.in-Some.field-0 are least.0)) in
    covered_first conflicts H first found joined.1 (is conflicts joined.0))
    c.cover_scarce.ensures

pub returns : goal.returns
returns c = λ conflicts first are.
    let H = c.args.history.now in
    let least = subst (λ ws. IsLeastTwice (pairs_taken H ws) (Some c.in-Some.field-0)) c.deref.ensures.value
    (subst (IsLeastTwice (pairs_taken H c.deref.result.now)) c.in-Some.is c.in_ok-pair_twice.ensures) in
    subst (IsJoined conflicts H first) c.in-Spent.is
    (c.in_ok-others.ensures conflicts first are (first_collide conflicts H first c.args.witnesses.items c.in-Some.field-0 are least.0))
