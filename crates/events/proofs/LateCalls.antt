-- Calls after the last reply: a history is legal in response order where its events up to there are.
use Rattle.std.proofs.Common.{ℕ, zero, suc, ◌≡◌, ◌<◌, ◌+◌, List, [], ◌∷◌, ◌++◌, append-nil, take, drop, refl, sym, ap, subst, ◌∙◌, arith, Option, Some, None, slice_get}
use Rattle.std.specs.Prelude.{filter_map, if◌then◌else◌, option_and_then}
use Rattle.std.specs.List.{cons_option}
use Rattle.std.proofs.lemmas.Bool.{lt-ltb}
use Rattle.std.proofs.lemmas.List.{take-append-drop}
use Rattle.std.proofs.lemmas.List.Elements.{filter_map-append}
use Rattle.doc_register.specs.declared.reply.Reply.{Reply as Answer}
use Rattle.doc_register.specs.Run.{IsLegalRun}
use Rattle.events.specs.declared.event.Event.{Event}
use Rattle.events.specs.declared.event.Event.TheVariants.{Call, Reply, Lost}
use Rattle.events.specs.Events.{IsHistory, IsReplyAt, is_call, place_of}
use Rattle.events.specs.Order.{answered_by, call_with, placed_with, reply_order, run_of}
use Rattle.events.specs.Laws.{LateCallsChangeNothing}
use Rattle.events.specs.aids.Fronts.{when_below}
use Rattle.events.proofs.EventLemmas.{passes_element, place_of-some, place_of-passes}
use Rattle.events.proofs.FrontLemmas.{place_of_front}
use Rattle.events.proofs.HistoryLemmas.{reply_passes}
use Rattle.version_pair.proofs.ListLemmas.{get_take, none_is_not_some, take_get}

-- what two functions keep of elements on which they agree
same_kept : {X Y : Type 0} (f g : X → Option Y) (xs : List X) → ((i : ℕ) (x : X) → slice_get xs i ≡ Some x → f x ≡ g x) → filter_map f xs ≡ filter_map g xs
same_kept f g [] agree = refl
same_kept f g (x ∷ xs) agree = ap (λ o. cons_option o (filter_map f xs)) (agree 0 x refl) ∙ ap (cons_option (g x)) (same_kept f g xs (λ i y at. agree (suc i) y at))

-- nothing is kept of elements of which the function gives nothing
none_kept : {X Y : Type 0} (f : X → Option Y) (xs : List X) → ((i : ℕ) (x : X) → slice_get xs i ≡ Some x → f x ≡ None) → filter_map f xs ≡ []
none_kept f [] none = refl
none_kept f (x ∷ xs) none = ap (λ o. cons_option o (filter_map f xs)) (none 0 x refl) ∙ none_kept f xs (λ i y at. none (suc i) y at)

-- what stands in the rest of a list stands in the list
get_drop : {X : Type 0} (n : ℕ) (xs : List X) (i : ℕ) (x : X) → slice_get (drop n xs) i ≡ Some x → slice_get xs (n + i) ≡ Some x
get_drop zero xs i x at = let same : i ≡ 0 + i = omega arith in subst (λ k. slice_get xs k ≡ Some x) same at
get_drop (suc n) [] i x at = absurd (none_is_not_some x at)
get_drop (suc n) (y ∷ xs) i x at = let same : suc (n + i) ≡ suc n + i = omega arith in subst (λ k. slice_get (y ∷ xs) k ≡ Some x) same (get_drop n xs i x at)

-- no call is answered by an event that is no reply
answers_none : (H : List Event) (e : Event) → ((m : ℕ) (r : Answer) → e ≡ Reply m r → ⊥) → answered_by H e ≡ None
answers_none H (Call h m d op) other = refl
answers_none H (Reply m r) other = absurd (other m r refl)
answers_none H (Lost m) other = refl

-- a reply of the front answers the same call in the front and in the whole
call_in_front : (H : List Event) (n i m : ℕ) (r : Answer) → IsHistory H → i < n → IsReplyAt H i m r → call_with (take n H) m r ≡ call_with H m r
call_in_front H n i m r history early at =
    let c = history.ended_after_call m i (reply_passes H i m r at) in
    let p = place_of-some (is_call m) H c.0 c.2 in
    let e = passes_element (is_call m) H p.0 (place_of-passes (is_call m) H p.0 p.1) in
    let same : p.0 ≡ c.0 = history.called_once m p.0 c.0 (place_of-passes (is_call m) H p.0 p.1) c.2 in
    let before : c.0 < i = c.1 in
    let below : p.0 < n = omega arith in
    let in_front : place_of (is_call m) (take n H) ≡ Some p.0 =
    place_of_front (is_call m) n H ∙ (ap (when_below n) p.1 ∙ ap (λ b. if b then Some p.0 else None) (lt-ltb p.0 n below)) in
    ap (option_and_then (λ k. option_and_then (placed_with r) (slice_get (take n H) k))) in_front
    ∙ (ap (option_and_then (placed_with r)) (take_get H n p.0 e.0 below e.1 ∙ sym e.1)
    ∙ sym (ap (option_and_then (λ k. option_and_then (placed_with r) (slice_get H k))) p.1))

-- an event of the front answers the same call in the front and in the whole
answered_in_front : (H : List Event) (n i : ℕ) (e : Event) → IsHistory H → slice_get (take n H) i ≡ Some e → answered_by (take n H) e ≡ answered_by H e
answered_in_front H n i (Call h m d op) history at = refl
answered_in_front H n i (Reply m r) history at = let g = get_take H n i (Reply m r) at in call_in_front H n i m r history g.1 g.0
answered_in_front H n i (Lost m) history at = refl

-- where no reply stands past the front, the order of the replies is that of the front
late_calls_unplaced : (H : List Event) (n : ℕ) → IsHistory H → ((k m : ℕ) (r : Answer) → IsReplyAt H k m r → k < n) → reply_order (take n H) ≡ reply_order H
late_calls_unplaced H n history early =
    let rest : filter_map (answered_by H) (drop n H) ≡ [] =
    none_kept (answered_by H) (drop n H) (λ i e at. answers_none H e
    (λ m r is. let below : n + i < n = early (n + i) m r (get_drop n H i e at ∙ ap (λ x. Some x) is) in absurd (omega arith))) in
    same_kept (answered_by (take n H)) (answered_by H) (take n H) (λ i e at. answered_in_front H n i e history at)
    ∙ (sym (append-nil (filter_map (answered_by H) (take n H)))
    ∙ (ap (λ ps. filter_map (answered_by H) (take n H) ++ ps) (sym rest)
    ∙ (sym (filter_map-append (answered_by H) (take n H) (drop n H)) ∙ ap (filter_map (answered_by H)) (take-append-drop n H))))

pub late_calls_legal : LateCallsChangeNothing
late_calls_legal H n history early right = subst (λ order. IsLegalRun (run_of order)) (late_calls_unplaced H n history early) right
