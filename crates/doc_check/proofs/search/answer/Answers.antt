use Rattle.std.proofs.Common.{sym, subst, ◌∙◌}
use Rattle.doc_check.specs.NoOrders.{AreUnpaired}
use Rattle.doc_check.specs.ReplyOrder.{IsReplyOrder}
use Rattle.doc_check.specs.aids.CheckedPlaces.{IsChecked}
use Rattle.doc_check.proofs.SearchLemmas.{follows_none, one_reply_order, replies_unpaired}
use Rattle.doc_check.proofs.search.answer.Goals as goal

pub returns-in-Valid-clause-replies : goal.returns-in-Valid-clause-replies
returns-in-Valid-clause-replies c = λ places order valid.
    let checked = subst (IsChecked c.args.id c.args.recs.items c.in_ok-places.places.items c.args.conflicts) c.in-Valid.is c.in_ok-witness.ensures in
    checked.3
    ∙ one_reply_order c.args.recs.items c.in_ok-places.places.items places (subst (λ rs. IsReplyOrder rs c.in_ok-places.places.items) c.deref.ensures.value c.in_ok-places.ensures) order

pub returns-in-Valid-clause-complete : goal.returns-in-Valid-clause-complete
returns-in-Valid-clause-complete c = λ places none valid.
    let checked = subst (IsChecked c.args.id c.args.recs.items c.in_ok-places.places.items c.args.conflicts) c.in-Valid.is c.in_ok-witness.ensures in
    subst AreUnpaired (sym checked.3)
    (replies_unpaired c.args.recs.items c.in_ok-places.places.items (subst (λ rs. IsReplyOrder rs c.in_ok-places.places.items) c.deref.ensures.value c.in_ok-places.ensures))

pub returns-in-Invalid-clause-replies : goal.returns-in-Invalid-clause-replies
returns-in-Invalid-clause-replies c =
    let checked = subst (IsChecked c.args.id c.args.recs.items c.in_ok-places.places.items c.args.conflicts) c.in-Invalid.is c.in_ok-witness.ensures in
    follows_none c.args.conflicts c.args.recs.items c.in_ok-places.places.items c.answer_by_sweep.result
    (subst (λ rs. IsReplyOrder rs c.in_ok-places.places.items) c.deref.ensures.value c.in_ok-places.ensures) checked.2
