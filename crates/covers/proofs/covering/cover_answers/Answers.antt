use Rattle.std.proofs.Common.{◌≡◌, subst, true, false}
use Rattle.std.specs.Prelude.{IfSome, MatchOption, map}
use Rattle.std.proofs.lemmas.Result.{IfOk-weaker}
use Rattle.doc_register.specs.declared.state.Conflicts.{Conflicts}
use Rattle.events.specs.Events.{documents_of}
use Rattle.doc_check.specs.declared.search.DocAnswer.TheVariants.{Found}
use Rattle.covers.specs.Answered.{AreAnswersFor}
use Rattle.covers.specs.aids.Searched.{AreSearched, HasLost}
use Rattle.covers.proofs.CoveringLemmas.{covered_first}
use Rattle.covers.proofs.FoundLemmas.{answered_anyway, found_searched, lost_uncovered}
use Rattle.covers.proofs.covering.cover_answers.Goals as goal

pub returns-in-Some : goal.returns-in-Some
returns-in-Some c =
    let H = c.args.history.now in
    let docs = documents_of H in
    let A = c.args.answers.items in
    let lost = subst HasLost c.deref.ensures.value (c.has_lost.ensures c.if-has_lost.true) in
    let searched = subst (λ o. IfSome o (λ ws. (conflicts : Conflicts) → AreAnswersFor conflicts H false docs A → AreSearched conflicts H false docs ws.items)) c.in-Some.is
    c.in_ok-witnesses.ensures in
    IfOk-weaker c.cover_witnesses.result _ _
    (λ found is conflicts are.
    covered_first conflicts H true found (λ _. lost_uncovered conflicts H true A are lost)
    (is conflicts false (searched conflicts (answered_anyway conflicts H true docs A are))))
    c.cover_witnesses.ensures

pub returns-in-None : goal.returns-in-None
returns-in-None c = λ conflicts are is.
    lost_uncovered conflicts c.args.history.now true c.args.answers.items are (subst HasLost c.deref.ensures.value (c.has_lost.ensures c.if-has_lost.true))

pub returns-in-Some-2 : goal.returns-in-Some-2
returns-in-Some-2 c =
    let H = c.args.history.now in
    let docs = documents_of H in
    let A = c.args.answers.items in
    let found : A ≡ map Found c.in-Some-2.witnesses.items =
    subst (λ o. MatchOption o (HasLost A) (λ ws. A ≡ map Found ws.items)) c.in-Some-2.is c.in_ok-witnesses-2.ensures in
    IfOk-weaker c.cover_witnesses-in-Some-2.result _ _
    (λ covered is conflicts are.
    is conflicts true (found_searched conflicts H true docs c.in-Some-2.witnesses.items (subst (AreAnswersFor conflicts H true docs) found are)))
    c.cover_witnesses-in-Some-2.ensures

pub returns-in-None-2 : goal.returns-in-None-2
returns-in-None-2 c = λ conflicts are is.
    lost_uncovered conflicts c.args.history.now true c.args.answers.items are
    (subst (λ o. MatchOption o (HasLost c.args.answers.items) (λ ws. c.args.answers.items ≡ map Found ws.items)) c.in-None-2.is c.in_ok-witnesses-2.ensures)
