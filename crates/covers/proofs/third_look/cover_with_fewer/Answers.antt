use Rattle.std.proofs.Common.{false, subst}
use Rattle.std.specs.Prelude.{IfSome}
use Rattle.events.specs.Events.{documents_of}
use Rattle.covers.specs.aids.Joined.{IsJoined}
use Rattle.covers.specs.aids.Searched.{AreAlike}
use Rattle.covers.proofs.FoundLemmas.{alike_searched}
use Rattle.covers.proofs.third_look.cover_with_fewer.Goals as goal

pub loop-init : goal.loop-init
loop-init c = λ conflicts are. are

pub loop-preserved : goal.loop-preserved
loop-preserved c = λ conflicts are.
    let docs = documents_of c.args.history.now in
    let alike : AreAlike c.loop.witnesses.items c.in-Some-2.others.items = subst (λ o. IfSome o (λ ws. AreAlike c.loop.witnesses.items ws.items)) c.in-Some-2.is c.in_ok-others.ensures in
    let others = alike_searched conflicts c.args.history.now false docs c.loop.witnesses.items c.in-Some-2.others.items (c.loop.invariant conflicts are) alike in
    let joined = subst (IsJoined conflicts c.args.history.now false) c.in-Short.is (c.in_ok-others-2.ensures conflicts others) in
    joined.0

pub returns-in-Cover : goal.returns-in-Cover
returns-in-Cover c = λ conflicts are.
    let docs = documents_of c.args.history.now in
    let alike : AreAlike c.loop.witnesses.items c.in-Some-2.others.items = subst (λ o. IfSome o (λ ws. AreAlike c.loop.witnesses.items ws.items)) c.in-Some-2.is c.in_ok-others.ensures in
    let others = alike_searched conflicts c.args.history.now false docs c.loop.witnesses.items c.in-Some-2.others.items (c.loop.invariant conflicts are) alike in
    subst (IsJoined conflicts c.args.history.now false) c.in-Cover.is (c.in_ok-others-2.ensures conflicts others)
