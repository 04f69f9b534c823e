-- An event that a history doesn't refuse makes a history with it, and the next event of a history isn't refused.
use Rattle.std.proofs.Common.{ℕ, ◌≡◌, ◌<◌, ◌≤◌, List, [], ◌∷◌, ◌++◌, length, length-append, refl, sym, ap, subst, ◌∙◌, arith, Bool, true, false, Option, Some, None, slice_get, eq-eqb}
use Rattle.std.specs.Prelude.{◌==◌, if◌then◌else◌, is_some, not, option_and_then}
use Rattle.std.specs.Option.{option_map_or}
use Rattle.std.specs.Cmp.Lexicographic.{bytes_decides}
use Rattle.std.proofs.lemmas.Bool.{eqb-true, lt-ltb, not-false}
use Rattle.doc_register.specs.declared.op.Op.{Op}
use Rattle.doc_register.specs.Register.{fits}
use Rattle.events.specs.declared.event.Event.{Event}
use Rattle.events.specs.declared.event.Event.TheVariants.{Call, Reply, Lost}
use Rattle.events.specs.declared.fault.HistFault.TheVariants.{SecondCall, NoCall, Ended, Kind, Full, ShardMoved}
use Rattle.events.specs.Events.{HasShard, IsCallAt, IsHistory, PassesAt, is_call, is_call_of, is_ending, place_of}
use Rattle.events.specs.Refusal.{first_event, is_moved, most_events, op_named, op_of, refusal_of, shard_named, when_ended, when_full}
use Rattle.events.proofs.EventLemmas.{element_passes, passes_element, passes_front, passes_within, place_of-none, place_of-passes, place_of-some}
use Rattle.events.proofs.HistoryLemmas.{call_passes, history_after_call, history_after_lost, history_after_reply}
use Rattle.version_pair.proofs.ListLemmas.{get_front, get_middle, get_of_front}
use Rattle.events.proofs.PushLemmas.{chosen, fitting, longer, op_of-call, shard_of-call, reported, when_full_room}
use Rattle.version_pair.proofs.TruthLemmas.{none_from_is_some}

-- ---- an event that isn't refused

pub history_after : (H : List Event) (x : Event) → IsHistory H → refusal_of H x ≡ None → HasShard x → IsHistory (H ++ x ∷ [])
history_after H (Call h n d op) old accepted within =
    let first = chosen (is_some (place_of (is_call n) H)) SecondCall (if is_moved H d h then Some ShardMoved else when_full H) accepted in
    let second = chosen (is_moved H d h) ShardMoved (when_full H) first.1 in
    let fresh : place_of (is_call n) H ≡ None = none_from_is_some (place_of (is_call n) H) first.0 in
    history_after_call H n h d op old (place_of-none (is_call n) H fresh)
    (λ i m g o at. eqb-true g h (not-false (g == h) (sym (ap (λ s. option_map_or (λ k. not (k == h)) s false) (shard_of-call H old i m g d o at)) ∙ second.0))) within
history_after H (Reply n r) old accepted within =
    let known = reported (op_of H n) (λ op. when_ended H n (if fits op r then when_full H else Some Kind)) accepted in
    let first = chosen (is_some (place_of (is_ending n) H)) Ended (if fits known.0 r then when_full H else Some Kind) known.2 in
    let second = fitting (fits known.0 r) (when_full H) first.1 in
    let call = op_of-call H n known.0 known.1 in
    history_after_reply H n call.0 call.1 call.2 known.0 r old call.3 (place_of-none (is_ending n) H (none_from_is_some (place_of (is_ending n) H) first.0)) second.0
history_after H (Lost n) old accepted within =
    let known = reported (op_of H n) (λ op. when_ended H n (when_full H)) accepted in
    let first = chosen (is_some (place_of (is_ending n) H)) Ended (when_full H) known.2 in
    let call = op_of-call H n known.0 known.1 in
    history_after_lost H n call.0 call.1 call.2 known.0 old call.3 (place_of-none (is_ending n) H (none_from_is_some (place_of (is_ending n) H) first.0))

pub few_after : (H : List Event) (x : Event) → refusal_of H x ≡ None → length (H ++ x ∷ []) ≤ most_events
few_after H (Call h n d op) accepted =
    let first = chosen (is_some (place_of (is_call n) H)) SecondCall (if is_moved H d h then Some ShardMoved else when_full H) accepted in
    let second = chosen (is_moved H d h) ShardMoved (when_full H) first.1 in
    longer H (Call h n d op) (when_full_room H second.1)
few_after H (Reply n r) accepted =
    let known = reported (op_of H n) (λ op. when_ended H n (if fits op r then when_full H else Some Kind)) accepted in
    let first = chosen (is_some (place_of (is_ending n) H)) Ended (if fits known.0 r then when_full H else Some Kind) known.2 in
    let second = fitting (fits known.0 r) (when_full H) first.1 in
    longer H (Reply n r) (when_full_room H second.1)
few_after H (Lost n) accepted =
    let known = reported (op_of H n) (λ op. when_ended H n (when_full H)) accepted in
    let first = chosen (is_some (place_of (is_ending n) H)) Ended (when_full H) known.2 in
    longer H (Lost n) (when_full_room H first.1)

-- ---- the next event of a history

-- the event stands in the history after the events that are done
pub record IsNext (H done : List Event) (e : Event) : Type 0 where
  pub history : IsHistory H
  pub after : List Event
  pub split : H ≡ done ++ e ∷ after

here : (H done : List Event) (e : Event) → IsNext H done e → slice_get H (length done) ≡ Some e
here H done e next = subst (λ K. slice_get K (length done) ≡ Some e) (sym next.split) (get_middle done next.after e)

done_passes : (H done : List Event) (e : Event) (t : Event → Bool) (i : ℕ) → IsNext H done e → PassesAt t done i → PassesAt t H i
done_passes H done e t i next p = subst (λ K. PassesAt t K i) (sym next.split) (passes_front t done (e ∷ next.after) i p)

-- the call of an ending that comes next is among the events that are done
pub call_done : (H done : List Event) (e : Event) (n i h : ℕ) (d : List ℕ) (op : Op) → IsNext H done e → is_ending n e ≡ true → IsCallAt H i n h d op
    → slice_get done i ≡ Some (Call h n d op)
call_done H done e n i h d op next ends at =
    let c = next.history.ended_after_call n (length done) (element_passes (is_ending n) H (length done) e (here H done e next) ends) in
    let same : i ≡ c.0 = next.history.called_once n i c.0 (call_passes H i n h d op at) c.2 in
    let early : c.0 < length done = c.1 in
    get_of_front done (e ∷ next.after) i (Call h n d op) (omega arith) (subst (λ K. slice_get K i ≡ Some (Call h n d op)) next.split at)

-- no event that is done passes a test that one event of a history passes at most, where the next event does
none_done : (H done : List Event) (e : Event) (t : Event → Bool) → IsNext H done e → t e ≡ true
    → ((i j : ℕ) → PassesAt t H i → PassesAt t H j → i ≡ j) → place_of t done ≡ None
none_done H done e t next is once = by_place (place_of t done) refl where
  by_place : (o : Option ℕ) → place_of t done ≡ o → o ≡ None
  by_place None found = refl
  by_place (Some i) found =
      let p = place_of-passes t done i found in
      let below : i < length done = passes_within t done i p in
      let same : i ≡ length done = once i (length done) (done_passes H done e t i next p) (element_passes t H (length done) e (here H done e next) is) in
      absurd (omega arith)

pub no_ending_done : (H done : List Event) (e : Event) (n : ℕ) → IsNext H done e → is_ending n e ≡ true → place_of (is_ending n) done ≡ None
no_ending_done H done e n next ends = none_done H done e (is_ending n) next ends (next.history.ended_once n)

-- the first event of the number is the call
pub first_call : (H done : List Event) (e : Event) (n i h : ℕ) (d : List ℕ) (op : Op) → IsNext H done e → slice_get done i ≡ Some (Call h n d op)
    → first_event (is_call n) done ≡ Some (Call h n d op)
first_call H done e n i h d op next at =
    let passes = element_passes (is_call n) done i (Call h n d op) at (eq-eqb n n refl) in
    let first = place_of-some (is_call n) done i passes in
    let same : first.0 ≡ i = next.history.called_once n first.0 i (done_passes H done e (is_call n) first.0 next (place_of-passes (is_call n) done first.0 first.1))
    (done_passes H done e (is_call n) i next passes) in
    ap (option_and_then (slice_get done)) (first.1 ∙ ap (λ k. Some k) same) ∙ at

room_done : (H done : List Event) (e : Event) → IsNext H done e → length H ≤ most_events → when_full done ≡ None
room_done H done e next few =
    let size : length H ≡ length (done ++ e ∷ next.after) = ap length next.split in
    let below : length done < most_events = omega (arith, size, simp length-append at size) in
    ap (λ b. if b then None else Some Full) (lt-ltb (length done) most_events below)

-- the call of the number that an ending has
ended_call : (H done : List Event) (e : Event) (n : ℕ) → IsNext H done e → is_ending n e ≡ true
    → (i h : ℕ) × (d : List ℕ) × (op : Op) × IsCallAt H i n h d op × (op_of done n ≡ Some op)
ended_call H done e n next ends =
    let c = next.history.ended_after_call n (length done) (element_passes (is_ending n) H (length done) e (here H done e next) ends) in
    let x = passes_element (is_call n) H c.0 c.2 in
    by_event x.0 x.1 x.2 where
      by_event : (y : Event) → slice_get H (next.history.ended_after_call n (length done) (element_passes (is_ending n) H (length done) e (here H done e next) ends)).0 ≡ Some y
          → is_call n y ≡ true → (i h : ℕ) × (d : List ℕ) × (op : Op) × IsCallAt H i n h d op × (op_of done n ≡ Some op)
      by_event (Call h m d op) at is =
          let i = (next.history.ended_after_call n (length done) (element_passes (is_ending n) H (length done) e (here H done e next) ends)).0 in
          let call : IsCallAt H i n h d op = at ∙ ap (λ k. Some (Call h k d op)) (eqb-true m n is) in
          (i, h, d, op, call, ap (option_and_then op_named) (first_call H done e n i h d op next (call_done H done e n i h d op next ends call)))
      by_event (Reply m r) at is = absurd (cc)
      by_event (Lost m) at is = absurd (cc)

unmoved : (H done : List Event) (n h : ℕ) (d : List ℕ) (op : Op) → IsNext H done (Call h n d op) → is_moved done d h ≡ false
unmoved H done n h d op next = by_place (place_of (is_call_of d) done) refl where
  by_event : (j : ℕ) (y : Event) → slice_get done j ≡ Some y → is_call_of d y ≡ true → option_map_or (λ s. not (s == h)) (shard_named y) false ≡ false
  by_event j (Call g m q o) at is =
      let doc : q ≡ d = (bytes_decides q d).0 is in
      let old : IsCallAt H j m g d o = subst (λ K. slice_get K j ≡ Some (Call g m d o)) (sym next.split)
      (get_front done (Call h n d op ∷ next.after) j (Call g m d o) (at ∙ ap (λ k. Some (Call g m k o)) doc)) in
      let same : g ≡ h = next.history.one_shard j (length done) m n g h d o op old (here H done (Call h n d op) next) in
      ap not (eq-eqb g h same)
  by_event j (Reply m r) at is = absurd (cc)
  by_event j (Lost m) at is = absurd (cc)

  by_place : (o : Option ℕ) → place_of (is_call_of d) done ≡ o → is_moved done d h ≡ false
  by_place None found = ap (λ o. option_map_or (λ s. not (s == h)) (option_and_then shard_named (option_and_then (slice_get done) o)) false) found
  by_place (Some j) found =
      let x = passes_element (is_call_of d) done j (place_of-passes (is_call_of d) done j found) in
      ap (λ o. option_map_or (λ s. not (s == h)) (option_and_then shard_named (option_and_then (slice_get done) o)) false) found
      ∙ (ap (λ o. option_map_or (λ s. not (s == h)) (option_and_then shard_named o) false) x.1 ∙ by_event j x.0 x.1 x.2)

-- the next event of a history isn't refused
pub accepted : (H done : List Event) (e : Event) → IsNext H done e → length H ≤ most_events → refusal_of done e ≡ None
accepted H done (Call h n d op) next few =
    let fresh : place_of (is_call n) done ≡ None = none_done H done (Call h n d op) (is_call n) next (eq-eqb n n refl) (next.history.called_once n) in
    ap (λ o. if is_some o then Some SecondCall else (if is_moved done d h then Some ShardMoved else when_full done)) fresh
    ∙ (ap (λ b. if b then Some ShardMoved else when_full done) (unmoved H done n h d op next) ∙ room_done H done (Call h n d op) next few)
accepted H done (Reply n r) next few =
    let call = ended_call H done (Reply n r) n next (eq-eqb n n refl) in
    let fresh = no_ending_done H done (Reply n r) n next (eq-eqb n n refl) in
    let fit : fits call.3 r ≡ true = next.history.replies_fit n (length done) call.0 call.1 call.2 call.3 r (here H done (Reply n r) next) call.4 in
    ap (λ o. option_map_or (λ op. when_ended done n (if fits op r then when_full done else Some Kind)) o (Some NoCall)) call.5
    ∙ (ap (λ o. if is_some o then Some Ended else (if fits call.3 r then when_full done else Some Kind)) fresh
    ∙ (ap (λ b. if b then when_full done else Some Kind) fit ∙ room_done H done (Reply n r) next few))
accepted H done (Lost n) next few =
    let call = ended_call H done (Lost n) n next (eq-eqb n n refl) in
    let fresh = no_ending_done H done (Lost n) n next (eq-eqb n n refl) in
    ap (λ o. option_map_or (λ op. when_ended done n (when_full done)) o (Some NoCall)) call.5
    ∙ (ap (λ o. if is_some o then Some Ended else when_full done) fresh ∙ room_done H done (Lost n) next few)
