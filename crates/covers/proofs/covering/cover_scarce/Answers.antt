use Rattle.std.proofs.Common.{false, subst}
use Rattle.std.proofs.lemmas.Result.{IfOk-weaker}
use Rattle.events.specs.Events.{documents_of}
use Rattle.covers.specs.aids.Joined.{IsJoined}
use Rattle.covers.proofs.FoundLemmas.{alike_searched}
use Rattle.covers.proofs.covering.cover_scarce.Goals as goal

pub returns-in-Cover : goal.returns-in-Cover
returns-in-Cover c = λ conflicts are.
    let H = c.args.history.now in
    let others = alike_searched conflicts H false (documents_of H) c.args.witnesses.items c.in_ok-others.others.witnesses.items are c.in_ok-others.ensures in
    subst (IsJoined conflicts H false) c.in-Cover.is (c.in_ok-others-2.ensures conflicts others)

pub returns-in-Short : goal.returns-in-Short
returns-in-Short c =
    let H = c.args.history.now in
    IfOk-weaker c.cover_with_fewer.result _ _
    (λ found is conflicts are.
    let others = alike_searched conflicts H false (documents_of H) c.args.witnesses.items c.in_ok-others.others.witnesses.items are c.in_ok-others.ensures in
    is conflicts (subst (IsJoined conflicts H false) c.in-Short.is (c.in_ok-others-2.ensures conflicts others)).0)
    c.cover_with_fewer.ensures
