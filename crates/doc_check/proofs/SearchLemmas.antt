-- The search: the order of the replies is one, and what the sweep says of all orders without a given pair.
use Rattle.std.proofs.Common.{Err, List, None, Ok, Option, Result, Some, ap, map, slice_get, subst, sym, ℕ, ◌∙◌, ◌≡◌}
use Rattle.std.specs.Prelude.{IfOk, option_map}
use Rattle.std.specs.declared.alloc.AllocError.{AllocError}
use Rattle.doc_check.specs.Search.{FindsUnpaired, FollowsReplies}
use Rattle.doc_check.specs.declared.search.DocAnswer.{DocAnswer}
use Rattle.std.proofs.lemmas.Option.{slice_get-map}
use Rattle.version_pair.specs.declared.pair.Pair.{Pair}
use Rattle.doc_register.specs.declared.state.Conflicts.{Conflicts}
use Rattle.events.specs.declared.record.Rec.{Rec}
use Rattle.version_pair.proofs.ListLemmas.{none_is_not_some, same_some}
use Rattle.places.specs.declared.place.Place.{Place}
use Rattle.places.specs.Places.{AreValid}
use Rattle.doc_check.specs.NoOrders.{AreUnpaired, HasNoOrder}
use Rattle.doc_check.specs.ReplyOrder.{IsReplyOrder, unpaired_place}
use Rattle.write_chain.specs.Chain.{IsChain, Rises}
use Rattle.doc_check.specs.aids.Order.{IsStretchOrder}
use Rattle.doc_check.specs.aids.Sweep.{AreGiven, AreSpread, IsOfSweep}
use Rattle.write_chain.specs.declared.answers.AnsweredRec.{AnsweredRec}
use Rattle.write_chain.proofs.AnsweredCallLemmas.{same_answers}
use Rattle.doc_check.proofs.ChainLemmas.{climbing_rises}
use Rattle.doc_check.proofs.OrderLemmas.{order_unpaired, order_valid}
use Rattle.doc_check.proofs.PlacesLemmas.{forced_climbs, spread}

-- ---- the order of the replies is one

pub one_reply_order : (records : List Rec) (places others : List Place) → IsReplyOrder records places → IsReplyOrder records others → places ≡ others
one_reply_order records places others (xs, are_x, is_x) (ys, are_y, is_y) = is_x ∙ (ap (map unpaired_place) (same_answers records xs ys are_x are_y) ∙ sym is_y)

pair_given : (o : Option AnsweredRec) (p : Place) → option_map unpaired_place o ≡ Some p → p.pair ≡ None
pair_given None p at = absurd (none_is_not_some p at)
pair_given (Some a) p at = sym (ap (λ (q : Place). q.pair) (same_some (unpaired_place a) p at))

-- it gives no pair
pub replies_unpaired : (records : List Rec) (places : List Place) → IsReplyOrder records places → AreUnpaired places
replies_unpaired records places (xs, are, is) i p at =
    pair_given (slice_get xs i) p (sym (slice_get-map unpaired_place xs i) ∙ (sym (ap (λ ps. slice_get ps i) is) ∙ at))

-- ---- what the sweep says

pub equal_pairs_none : (records : List Rec) (chain : List (Pair × ℕ)) → IsChain records chain → (Rises chain → ⊥) → (conflicts : Conflicts) → HasNoOrder conflicts records
equal_pairs_none records chain is not conflicts places none valid = not (climbing_rises chain (forced_climbs conflicts records chain places is none valid))

pub unspread_none : (records : List Rec) (chain : List (Pair × ℕ)) → IsChain records chain → ((places : List Place) → AreSpread records chain places → ⊥) → (conflicts : Conflicts) → HasNoOrder conflicts records
unspread_none records chain is not conflicts places none valid = not places (spread conflicts records chain places is none valid)

pub order_of_sweep : (records : List Rec) (chain : List (Pair × ℕ)) (given : List (Option ℕ)) (order : List Place) → IsChain records chain → Rises chain → AreGiven records chain given
    → IsStretchOrder records given order → (conflicts : Conflicts) → IsOfSweep conflicts records order
order_of_sweep records chain given order is rising are_given is_order conflicts = record {
  unpaired = order_unpaired records given order is_order;
  valid = λ others none valid. order_valid conflicts records chain given others order is rising are_given (spread conflicts records chain others is none valid) is_order;
}

-- where the order of the replies is not valid, whatever is found follows it
pub follows_none : (conflicts : Conflicts) (records : List Rec) (places : List Place) (r : Result DocAnswer AllocError) → IsReplyOrder records places → (AreValid conflicts records places → ⊥)
    → IfOk r (FollowsReplies conflicts records)
follows_none conflicts records places (Ok a) order not = λ others other valid. absurd (not (subst (AreValid conflicts records) (one_reply_order records others places other order) valid))
follows_none conflicts records places (Err e) order not = tt

-- where no places without a given pair are valid, none have to be found
pub finds_none : (conflicts : Conflicts) (records : List Rec) (r : Result DocAnswer AllocError) → HasNoOrder conflicts records → IfOk r (FindsUnpaired conflicts records)
finds_none conflicts records (Ok a) none = λ places unpaired valid. absurd (none places unpaired valid)
finds_none conflicts records (Err e) none = tt

-- where the order of the sweep is not valid, there is none
pub sweep_invalid : (conflicts : Conflicts) (records : List Rec) (places : List Place) → IsOfSweep conflicts records places → (AreValid conflicts records places → ⊥) → HasNoOrder conflicts records
sweep_invalid conflicts records places is not others unpaired valid = not (is.valid others unpaired valid)
