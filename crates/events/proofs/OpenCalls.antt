-- Calls that have no ending yet, and why an ending is refused.
use Rattle.std.proofs.Common.{ℕ, ◌≡◌, ◌<◌, List, length, refl, sym, ap, ◌∙◌, Option, Some, None, Bool, true, false, Ok, Err, slice_get, eq-eqb, nat_lt}
use Rattle.std.specs.Prelude.{if◌then◌else◌, is_some, option_and_then, IfSome}
use Rattle.std.specs.Option.{option_map_or}
use Rattle.doc_register.specs.declared.op.Op.{Op}
use Rattle.doc_register.specs.declared.reply.Reply.{Reply as Answer}
use Rattle.doc_register.specs.Register.{fits}
use Rattle.events.specs.declared.event.Event.{Event}
use Rattle.events.specs.declared.event.Event.TheVariants.{Call, Reply, Lost}
use Rattle.events.specs.declared.fault.HistFault.{HistFault}
use Rattle.events.specs.declared.fault.HistFault.TheVariants.{NoCall, Ended, Kind, Full, SecondCall, ShardMoved}
use Rattle.events.specs.Events.{IsHistory, PassesAt, heard_at, heard_of, is_call, is_ending, place_of, record_at, record_from}
use Rattle.events.specs.Refusal.{is_moved, most_events, op_named, op_of, open_call_of, opened, reason_reported, refusal_of, when_ended, when_full}
use Rattle.events.specs.aids.Indexes.{is_answerable}
use Rattle.events.proofs.EventLemmas.{element_passes, passes_element, passes_within, place_of-none, place_of-passes}
use Rattle.version_pair.proofs.ListLemmas.{none_is_not_some, same_some}

-- the places of a call that is opens
pub open_places : (H : List Event) (n i : ℕ) → open_call_of H n ≡ Ok i → (place_of (is_call n) H ≡ Some i) × (place_of (is_ending n) H ≡ None)
open_places H n i opens = by_places (place_of (is_call n) H) (place_of (is_ending n) H) refl refl opens where
  by_places : (c p : Option ℕ) → place_of (is_call n) H ≡ c → place_of (is_ending n) H ≡ p → opened c p ≡ Ok i
      → (place_of (is_call n) H ≡ Some i) × (place_of (is_ending n) H ≡ None)
  by_places None p call ending is = absurd (cc)
  by_places (Some j) (Some k) call ending is = absurd (cc)
  by_places (Some j) None call ending is = (let same : j ≡ i = cc in call ∙ ap (λ k. Some k) same, ending)

pub open_passes : (H : List Event) (n i : ℕ) → open_call_of H n ≡ Ok i → PassesAt (is_call n) H i
open_passes H n i opens = place_of-passes (is_call n) H i (open_places H n i opens).0

pub open_within : (H : List Event) (n i : ℕ) → open_call_of H n ≡ Ok i → i < length H
open_within H n i opens = passes_within (is_call n) H i (open_passes H n i opens)

-- the operation of the call at a place
op_at : (H : List Event) (n i : ℕ) → PassesAt (is_call n) H i → (op : Op) × (option_and_then op_named (slice_get H i) ≡ Some op)
op_at H n i passes = let x = passes_element (is_call n) H i passes in by_event x.0 x.1 x.2 where
  by_event : (y : Event) → slice_get H i ≡ Some y → is_call n y ≡ true → (op : Op) × (option_and_then op_named (slice_get H i) ≡ Some op)
  by_event (Call h m d op) at is = (op, ap (option_and_then op_named) at)
  by_event (Reply m r) at is = absurd (cc)
  by_event (Lost m) at is = absurd (cc)

op_of_place : (H : List Event) (n i : ℕ) → place_of (is_call n) H ≡ Some i → (op : Op) × (op_of H n ≡ Some op) × (option_and_then op_named (slice_get H i) ≡ Some op)
op_of_place H n i found =
    let op = op_at H n i (place_of-passes (is_call n) H i found) in
    (op.0, ap (λ o. option_and_then op_named (option_and_then (slice_get H) o)) found ∙ op.1, op.1)

pub refusal_answer : (H : List Event) (n i : ℕ) (r : Answer) → open_call_of H n ≡ Ok i → refusal_of H (Reply n r) ≡ (if is_answerable H i r then when_full H else Some Kind)
refusal_answer H n i r opens =
    let places = open_places H n i opens in
    let op = op_of_place H n i places.0 in
    ap (λ o. option_map_or (λ op. when_ended H n (if fits op r then when_full H else Some Kind)) o (Some NoCall)) op.1
    ∙ (ap (λ o. if is_some o then Some Ended else (if fits op.0 r then when_full H else Some Kind)) places.1
    ∙ ap (λ o. if option_map_or (λ op. fits op r) o false then when_full H else Some Kind) (sym op.2))

pub refusal_loss : (H : List Event) (n i : ℕ) → open_call_of H n ≡ Ok i → refusal_of H (Lost n) ≡ when_full H
refusal_loss H n i opens =
    let places = open_places H n i opens in
    let op = op_of_place H n i places.0 in
    ap (λ o. option_map_or (λ op. when_ended H n (when_full H)) o (Some NoCall)) op.1
    ∙ ap (λ o. if is_some o then Some Ended else when_full H) places.1

-- a call that isn't open, and an ending of it
closed : (H : List Event) (n : ℕ) (f : HistFault) (later : Op → Option HistFault) → open_call_of H n ≡ Err f
    → reason_reported f ≡ option_map_or (λ op. when_ended H n (later op)) (op_of H n) (Some NoCall)
closed H n f later opens = by_places (place_of (is_call n) H) (place_of (is_ending n) H) refl refl opens where
  by_places : (c p : Option ℕ) → place_of (is_call n) H ≡ c → place_of (is_ending n) H ≡ p → opened c p ≡ Err f
      → reason_reported f ≡ option_map_or (λ op. when_ended H n (later op)) (op_of H n) (Some NoCall)
  by_places None p call ending is =
      let same : NoCall ≡ f = cc in
      ap reason_reported (sym same)
      ∙ sym (ap (λ o. option_map_or (λ op. when_ended H n (later op)) (option_and_then op_named (option_and_then (slice_get H) o)) (Some NoCall)) call)
  by_places (Some j) (Some k) call ending is =
      let same : Ended ≡ f = cc in
      let op = op_of_place H n j call in
      ap reason_reported (sym same)
      ∙ sym (ap (λ o. option_map_or (λ op. when_ended H n (later op)) o (Some NoCall)) op.1 ∙ ap (λ o. if is_some o then Some Ended else later op.0) ending)
  by_places (Some j) None call ending is = absurd (cc)

-- the reason why no ending can be added is one that is reported
closed_is : (H : List Event) (n : ℕ) (f : HistFault) → open_call_of H n ≡ Err f → reason_reported f ≡ Some f
closed_is H n f opens = by_places (place_of (is_call n) H) (place_of (is_ending n) H) opens where
  by_places : (c p : Option ℕ) → opened c p ≡ Err f → reason_reported f ≡ Some f
  by_places None p is = let same : NoCall ≡ f = cc in ap reason_reported (sym same) ∙ ap (λ g. Some g) same
  by_places (Some j) (Some k) is = let same : Ended ≡ f = cc in ap reason_reported (sym same) ∙ ap (λ g. Some g) same
  by_places (Some j) None is = absurd (cc)

pub closed_reply : (H : List Event) (n : ℕ) (r : Answer) (f : HistFault) → open_call_of H n ≡ Err f → reason_reported f ≡ refusal_of H (Reply n r)
closed_reply H n r f opens = closed H n f (λ op. if fits op r then when_full H else Some Kind) opens

pub closed_lost : (H : List Event) (n : ℕ) (f : HistFault) → open_call_of H n ≡ Err f → reason_reported f ≡ refusal_of H (Lost n)
closed_lost H n f opens = closed H n f (λ op. when_full H) opens

pub reply_kept_out : (H : List Event) (n : ℕ) (r : Answer) (f : HistFault) → open_call_of H n ≡ Err f → Some f ≡ refusal_of H (Reply n r)
reply_kept_out H n r f opens = sym (closed_is H n f opens) ∙ closed_reply H n r f opens

pub loss_kept_out : (H : List Event) (n : ℕ) (f : HistFault) → open_call_of H n ≡ Err f → Some f ≡ refusal_of H (Lost n)
loss_kept_out H n f opens = sym (closed_is H n f opens) ∙ closed_lost H n f opens

-- a call that isn't there has no ending
pub no_ending_uncalled : (H : List Event) (n : ℕ) → IsHistory H → place_of (is_call n) H ≡ None → place_of (is_ending n) H ≡ None
no_ending_uncalled H n history none = by_place (place_of (is_ending n) H) refl where
  by_place : (o : Option ℕ) → place_of (is_ending n) H ≡ o → o ≡ None
  by_place None found = refl
  by_place (Some i) found =
      let call = history.ended_after_call n i (place_of-passes (is_ending n) H i found) in
      absurd (place_of-none (is_call n) H none call.0 call.2)

-- ---- what was heard

pub heard_nothing : (H : List Event) (n : ℕ) → None ≡ place_of (is_ending n) H → None ≡ heard_of H n
heard_nothing H n none = ap (λ o. option_and_then (λ i. option_and_then (heard_at i) (slice_get H i)) o) none

pub heard_event : (H : List Event) (n i : ℕ) (e : Event) (h : Option (ℕ × Answer)) → Some i ≡ place_of (is_ending n) H → slice_get H i ≡ Some e → h ≡ heard_at i e
    → h ≡ heard_of H n
heard_event H n i e h ending at is =
    is ∙ (ap (option_and_then (heard_at i)) (sym at) ∙ ap (λ o. option_and_then (λ j. option_and_then (heard_at j) (slice_get H j)) o) ending)

pub heard_no_reply : (H : List Event) (n i : ℕ) (e : Event) → Some i ≡ place_of (is_ending n) H → slice_get H i ≡ Some e → heard_at i e ≡ None
    → None ≡ heard_of H n
heard_no_reply H n i e ending at is = heard_event H n i e None ending at (sym is)

pub record_is_at : (H : List Event) (i n h : ℕ) (d : List ℕ) (op : Op) (e : Event) (heard : Option (ℕ × Answer)) → slice_get H i ≡ Some e → e ≡ Call h n d op
    → heard ≡ heard_of H n → Some (record { no = n; op = op; call_at = i; heard = heard }) ≡ record_at H i
record_is_at H i n h d op e heard at is same =
    ap (λ k. Some (record { no = n; op = op; call_at = i; heard = k })) same
    ∙ sym (ap (option_and_then (record_from H i)) (at ∙ ap (λ y. Some y) is))

pub call_at_place : (H : List Event) (i n h : ℕ) (d : List ℕ) (op : Op) (e : Event) → slice_get H i ≡ Some e → e ≡ Call h n d op → PassesAt (is_call n) H i
call_at_place H i n h d op e at is = element_passes (is_call n) H i e at (ap (is_call n) is ∙ same n) where
  same : (k : ℕ) → is_call k (Call h k d op) ≡ true
  same k = eq-eqb k k refl

-- a call that has an ending, or has none
pub ended_call : (H : List Event) (n i j : ℕ) → Some i ≡ place_of (is_call n) H → Some j ≡ place_of (is_ending n) H → Err Ended ≡ open_call_of H n
ended_call H n i j call ending = ap (λ o. opened o (Some j)) call ∙ ap (opened (place_of (is_call n) H)) ending

pub open_is : (H : List Event) (n i : ℕ) → Some i ≡ place_of (is_call n) H → None ≡ place_of (is_ending n) H → Ok i ≡ open_call_of H n
open_is H n i call ending = ap (λ o. opened o None) call ∙ ap (opened (place_of (is_call n) H)) ending

pub answer_not_fitting : (H : List Event) (n i : ℕ) (r : Answer) → open_call_of H n ≡ Ok i → is_answerable H i r ≡ false → Some Kind ≡ refusal_of H (Reply n r)
answer_not_fitting H n i r opens not = sym (refusal_answer H n i r opens ∙ ap (λ b. if b then when_full H else Some Kind) not)

-- ---- the index of endings

pub same_found : (xs : List (Option ℕ)) (i : ℕ) (o p : Option ℕ) → slice_get xs i ≡ Some o → slice_get xs i ≡ Some p → o ≡ p
same_found xs i o p at other = same_some o p (sym at ∙ other)

pub found_within : (xs : List (Option ℕ)) (i n : ℕ) (o : Option ℕ) → slice_get xs i ≡ Some o → ((j : ℕ) → slice_get xs i ≡ Some (Some j) → j < n)
    → IfSome o (λ j. j < n)
found_within xs i n None at within = tt
found_within xs i n (Some j) at within = within j at

-- ---- the reason that is reported

no_memory : (f : HistFault) → Some f ≡ Some Full → reason_reported f ≡ Some Full
no_memory f is = ap reason_reported (same_some f Full is)

pub full_reported : (H : List Event) (f : HistFault) → Some f ≡ when_full H → reason_reported f ≡ when_full H
full_reported H f is = by_room (nat_lt (length H) most_events) is where
  by_room : (b : Bool) → Some f ≡ (if b then None else Some Full) → reason_reported f ≡ (if b then None else Some Full)
  by_room true reported = absurd (none_is_not_some f (sym reported))
  by_room false reported = no_memory f reported

pub call_reported : (H : List Event) (n h : ℕ) (d : List ℕ) (op : Op) (f : HistFault) → Some f ≡ refusal_of H (Call h n d op) → reason_reported f ≡ refusal_of H (Call h n d op)
call_reported H n h d op f is = by_cases (is_some (place_of (is_call n) H)) (is_moved H d h) is where
  by_cases : (b m : Bool) → Some f ≡ (if b then Some SecondCall else (if m then Some ShardMoved else when_full H))
      → reason_reported f ≡ (if b then Some SecondCall else (if m then Some ShardMoved else when_full H))
  by_cases true m reported = ap reason_reported (same_some f SecondCall reported)
  by_cases false true reported = ap reason_reported (same_some f ShardMoved reported)
  by_cases false false reported = full_reported H f reported
