-- A history text is read: the function that reads it gives its history, and nothing else.
use Rattle.std.proofs.Common.{ℕ, ◌≡◌, ◌<◌, ◌^◌, List, refl, sym, ap, subst, ◌∙◌, Bool, true, Option, Some, None, ◌⊎◌, inl, inr, Result, Ok, Err, slice_get, eq-eqb}
use Rattle.std.specs.Prelude.{IfErr, codes, if◌then◌else◌, option_and_then}
use Rattle.std.specs.Str.{bytes_eq}
use Rattle.std.proofs.lemmas.Bool.{eqb-true}
use Rattle.doc_register.specs.declared.op.Op.{Op}
use Rattle.doc_register.specs.declared.reply.Reply.{Reply as Answer}
use Rattle.serde_json.specs.Data.{Data}
use Rattle.api_lines.specs.Faults.{IfReported, ◌>>=◌}
use Rattle.api_lines.specs.Fields.{BodyValues, LineValues, body_of, body_values, line_values}
use Rattle.version_pair.specs.Shards.{most_shards}
use Rattle.api_lines.specs.HistoryLines.{call_parsed, line_parsed, lost_parsed, reply_parsed}
use Rattle.api_lines.specs.Json.{text, whole}
use Rattle.api_lines.specs.Kinds.{required_text}
use Rattle.api_lines.specs.ReplyTable.{IsHeard, IsStranger, heard}
use Rattle.api_lines.specs.declared.history_line.LineSaid.{LineSaid}
use Rattle.api_lines.specs.declared.history_line.LineSaid.TheVariants as said
use Rattle.api_lines.specs.declared.reply_table.Heard.{Heard}
use Rattle.api_lines.specs.declared.reply_table.Heard.TheVariants as heard
use Rattle.api_lines.specs.declared.text_fault.TextCause.{TextCause}
use Rattle.api_lines.specs.declared.text_fault.TextCause.TheVariants.{Ended, Shape}
use Rattle.api_lines.proofs.ReadingLemmas.{first_ok}
use Rattle.api_lines.proofs.TableLaws.{heard_is, heard_one}
use Rattle.events.specs.declared.event.Event.{Event}
use Rattle.events.specs.declared.event.Event.TheVariants.{Call, Reply, Lost}
use Rattle.events.specs.Events.{HasShard, IsCallAt, is_call, is_ending, place_of}
use Rattle.events.specs.declared.fault.HistFault.{HistFault}
use Rattle.events.specs.declared.fault.HistFault.TheVariants as event
use Rattle.history.specs.Faults.{line_fault}
use Rattle.history.specs.Reading.{adds, ending_parsed, event_heard, event_said, event_parsed, heard_of_call, with_more}
use Rattle.events.specs.Refusal.{first_event, open_call_of, opened, refusal_of, refusal_reported}
use Rattle.api_lines.specs.declared.text_fault.LineFault.{LineFault}
use Rattle.api_lines.specs.declared.text_fault.LineFault.TheVariants as line
use Rattle.history.specs.aids.Taking.{HasSaidShard, line_result, takes_reply, takes_said}
use Rattle.history.specs.Text.{Spells, SpellsReply}
use Rattle.history.proofs.SaidLines.{call_is, call_shard, call_spelled, lost_read, lost_said, named, ok_of, reply_read, reply_said, same_ok, spelled_call, text_read}
use Rattle.events.proofs.AcceptedEvents.{IsNext, call_done, first_call, no_ending_done}
use Rattle.events.proofs.EventLemmas.{passes_element, place_of-passes}
use Rattle.version_pair.proofs.ListLemmas.{none_is_not_some, same_some}

-- ---- what a line is

-- what is reported is a call, a reply or a loss, by the kind of the line
pub data Kind (l : LineValues) (s : LineSaid) : Type 0 where
  of_call : l.e ≡ text (codes "call") → call_parsed l ≡ Ok s → Kind l s
  of_reply : l.e ≡ text (codes "reply") → reply_parsed l ≡ Ok s → Kind l s
  of_lost : l.e ≡ text (codes "lost") → lost_parsed l ≡ Ok s → Kind l s

abbrev refused : Result LineSaid TextCause
refused = Err Shape

line_is : (l : LineValues) (s : LineSaid) → line_parsed l ≡ Ok s → Kind l s
line_is l s reported =
    let name = first_ok (required_text l.e) _ s reported in
    by_call name.0 (text_read l.e name.0 name.1) (named name.0 (codes "call") _ _ s name.2) where
      by_lost : (w : List ℕ) → l.e ≡ text w → ((w ≡ codes "lost") × (lost_parsed l ≡ Ok s)) ⊎ (refused ≡ Ok s) → Kind l s
      by_lost w field (inl is) = of_lost (field ∙ ap text is.0) is.1
      by_lost w field (inr none) = absurd (cc)

      by_reply : (w : List ℕ) → l.e ≡ text w
          → ((w ≡ codes "reply") × (reply_parsed l ≡ Ok s)) ⊎ ((if bytes_eq w (codes "lost") then lost_parsed l else refused) ≡ Ok s) → Kind l s
      by_reply w field (inl is) = of_reply (field ∙ ap text is.0) is.1
      by_reply w field (inr on) = by_lost w field (named w (codes "lost") (lost_parsed l) refused s on)

      by_call : (w : List ℕ) → l.e ≡ text w
          → ((w ≡ codes "call") × (call_parsed l ≡ Ok s))
          ⊎ ((if bytes_eq w (codes "reply") then reply_parsed l else (if bytes_eq w (codes "lost") then lost_parsed l else refused)) ≡ Ok s)
          → Kind l s
      by_call w field (inl is) = of_call (field ∙ ap text is.0) is.1
      by_call w field (inr on) = by_reply w field (named w (codes "reply") (reply_parsed l) _ s on)

-- the shard of a call that a line says is one of those that there are
pub line_shard : (l : LineValues) (n h : ℕ) (d : List ℕ) (op : Op) → line_parsed l ≡ Ok (said.Call n h d op) → h < most_shards
line_shard l n h d op reported = by_kind (line_is l (said.Call n h d op) reported) where
  by_kind : Kind l (said.Call n h d op) → h < most_shards
  by_kind (of_call kind read) = call_shard l n h d op read
  by_kind (of_reply kind read) = let reply = reply_read l (said.Call n h d op) read in let impossible : said.Call n h d op ≡ said.Reply reply.0 reply.1 = reply.2 in absurd (cc)
  by_kind (of_lost kind read) = let lost = lost_read l (said.Call n h d op) read in let impossible : said.Call n h d op ≡ said.Lost lost.0 = lost.1 in absurd (cc)

-- ---- replies

-- the first event that passes a test, where it stands
first_at : (t : Event → Bool) (H : List Event) (e : Event) → first_event t H ≡ Some e → (i : ℕ) × (slice_get H i ≡ Some e) × (t e ≡ true)
first_at t H e is = by_place (place_of t H) refl is where
  by_place : (o : Option ℕ) → place_of t H ≡ o → option_and_then (slice_get H) o ≡ Some e → (i : ℕ) × (slice_get H i ≡ Some e) × (t e ≡ true)
  by_place None found is = absurd (none_is_not_some e is)
  by_place (Some i) found is =
      let p = passes_element t H i (place_of-passes t H i found) in
      (i, is, ap t (same_some e p.0 (sym is ∙ p.1)) ∙ p.2)

-- a call of the number is that call
call_of : (H : List Event) (n i : ℕ) (e : Event) → slice_get H i ≡ Some e → is_call n e ≡ true → (h : ℕ) × (d : List ℕ) × (op : Op) × (e ≡ Call h n d op)
call_of H n i (Call h m d op) at is = (h, d, op, ap (λ k. Call h k d op) (eqb-true m n is))
call_of H n i (Reply m r) at is = absurd (cc)
call_of H n i (Lost m) at is = absurd (cc)

-- what is heard of a call that is there is an event that the value spells
heard_spelled : (H : List Event) (v : Data) (n status i h : ℕ) (d : List ℕ) (op : Op) (w : Heard) (e : Event) → (line_values v).e ≡ text (codes "reply")
    → (line_values v).n ≡ whole n → (line_values v).status ≡ whole status → status < 2 ^ 16 → IsCallAt H i n h d op
    → heard op d status (body_values (body_of v)) ≡ w → event_heard n w ≡ Ok e → Spells H v e
heard_spelled H v n status i h d op (heard.Reply r) e kind number has_status fits at is reported =
    let hears = subst (λ x. IsHeard d op status (body_of v) x) is (heard_is d op status (body_of v)) in
    subst (Spells H v) (same_ok (Reply n r) e reported) (
      op,
      status,
      record { kind = kind; number = number; has_status = has_status; status_fits = fits; call = (i, h, d, at, hears.0) },
      hears.1,
    )
heard_spelled H v n status i h d op heard.Unknown e kind number has_status fits at is reported =
    let hears = subst (λ x. IsHeard d op status (body_of v) x) is (heard_is d op status (body_of v)) in
    subst (Spells H v) (same_ok (Lost n) e reported) (inr (
      op,
      status,
      record { kind = kind; number = number; has_status = has_status; status_fits = fits; call = (i, h, d, at, hears.0) },
      hears.1,
    ))
heard_spelled H v n status i h d op heard.Stranger e kind number has_status fits at is reported = absurd (cc)

-- what a reply line says, it spells
reply_spelled : (H : List Event) (v : Data) (n status : ℕ) (e : Event) → (line_values v).e ≡ text (codes "reply") → (line_values v).n ≡ whole n
    → (line_values v).status ≡ whole status → status < 2 ^ 16
    → ending_parsed n status (line_values v).body (first_event (is_call n) H) (place_of (is_ending n) H) ≡ Ok e → Spells H v e
reply_spelled H v n status e kind number has_status fits reported = by_call (first_event (is_call n) H) (place_of (is_ending n) H) refl reported where
  by_call : (c : Option Event) (p : Option ℕ) → first_event (is_call n) H ≡ c → ending_parsed n status (line_values v).body c p ≡ Ok e → Spells H v e
  by_call None p found reported = absurd (cc)
  by_call (Some x) (Some i) found reported = absurd (cc)
  by_call (Some x) None found reported =
      let at = first_at (is_call n) H x found in
      let call = call_of H n at.0 x at.1 at.2 in
      heard_spelled H v n status at.0 call.0 call.1 call.2 (heard call.2 call.1 status (body_values (body_of v))) e kind number has_status fits
      (subst (λ y. slice_get H at.0 ≡ Some y) call.3 at.1) refl
      (subst (λ y. event_heard n (heard_of_call y status (line_values v).body) ≡ Ok e) call.3 reported)

-- ---- one line

-- what a line says after some events, it spells
pub event_spelled : (H : List Event) (v : Data) (e : Event) → event_parsed H (line_values v) ≡ Ok e → Spells H v e
event_spelled H v e reported =
    let line = first_ok (line_parsed (line_values v)) _ e reported in
    by_kind line.0 (line_is (line_values v) line.0 line.1) line.2 where
      by_kind : (s : LineSaid) → Kind (line_values v) s → event_said H (line_values v).body s ≡ Ok e → Spells H v e
      by_kind s (of_call kind read) reported =
          let call = call_is (line_values v) s read in
          subst (Spells H v) (same_ok (Call call.1 call.0 call.2 call.3) e (subst (λ x. event_said H (line_values v).body x ≡ Ok e) call.4 reported))
          (call_spelled v call.0 call.1 call.2 call.3 kind (read ∙ ap ok_of call.4))
      by_kind s (of_reply kind read) reported =
          let reply = reply_read (line_values v) s read in
          reply_spelled H v reply.0 reply.1 e kind reply.3 reply.4 reply.5 (subst (λ x. event_said H (line_values v).body x ≡ Ok e) reply.2 reported)
      by_kind s (of_lost kind read) reported =
          let lost = lost_read (line_values v) s read in
          subst (Spells H v) (same_ok (Lost lost.0) e (subst (λ x. event_said H (line_values v).body x ≡ Ok e) lost.1 reported))
          (inl (record { kind = kind; number = lost.2 }))

-- what a line says names a shard that there is
pub said_has_shard : (l : LineValues) (s : LineSaid) → line_parsed l ≡ Ok s → HasSaidShard s
said_has_shard l (said.Call n h d op) reported = line_shard l n h d op reported
said_has_shard l (said.Reply n status) reported = tt
said_has_shard l (said.Lost n) reported = tt

-- ---- the next event

-- what is heard of the call by a value that spells its reply
heard_reply : (H done : List Event) (v : Data) (e : Event) (n status : ℕ) (op : Op) (w : Heard) → IsNext H done e → is_ending n e ≡ true
    → (s : SpellsReply H v n op status) → ((¬ IsStranger s.call.2 (body_of v)) → IsHeard s.call.2 op status (body_of v) w) → event_heard n w ≡ Ok e
    → event_parsed done (line_values v) ≡ Ok e
heard_reply H done v e n status op w next ends s hears reported =
    let kind : (line_values v).e ≡ text (codes "reply") = s.kind in
    let line : line_parsed (line_values v) ≡ Ok (said.Reply n status) = rw kind (reply_said (line_values v) n status s.number s.has_status s.status_fits) in
    let call : first_event (is_call n) done ≡ Some (Call s.call.1 n s.call.2 op) =
    first_call H done e n s.call.0 s.call.1 s.call.2 op next (call_done H done e n s.call.0 s.call.1 s.call.2 op next ends s.call.3) in
    let none : place_of (is_ending n) done ≡ None = no_ending_done H done e n next ends in
    let same : heard op s.call.2 status (body_values (body_of v)) ≡ w =
    heard_one s.call.2 op status (body_of v) (heard op s.call.2 status (body_values (body_of v))) w (heard_is s.call.2 op status (body_of v)) (hears s.call.4) in
    ap (λ r. r >>= event_said done (line_values v).body) line
    ∙ (ap (λ c. ending_parsed n status (line_values v).body c (place_of (is_ending n) done)) call
    ∙ (ap (λ o. ending_parsed n status (line_values v).body (Some (Call s.call.1 n s.call.2 op)) o) none
    ∙ (ap (event_heard n) same ∙ reported)))

-- what a value spells that is the next event, it says
pub spelled_reported : (H done : List Event) (v : Data) (e : Event) → IsNext H done e → Spells H v e → event_parsed done (line_values v) ≡ Ok e
spelled_reported H done v (Call h n d op) next s = ap (λ r. r >>= event_said done (line_values v).body) (spelled_call v n h d op s)
spelled_reported H done v (Reply n r) next (op, status, s, reports) =
    heard_reply H done v (Reply n r) n status op (heard.Reply r) next (eq-eqb n n refl) s (λ known. (known, reports)) refl
spelled_reported H done v (Lost n) next (inl s) =
    let kind : (line_values v).e ≡ text (codes "lost") = s.kind in
    let line : line_parsed (line_values v) ≡ Ok (said.Lost n) = rw kind (lost_said (line_values v) n s.number) in
    ap (λ r. r >>= event_said done (line_values v).body) line
spelled_reported H done v (Lost n) next (inr (op, status, s, unknown)) =
    heard_reply H done v (Lost n) n status op heard.Unknown next (eq-eqb n n refl) s (λ known. (known, unknown)) refl

-- ---- the shard of an event that is reported

said_shard : (H : List Event) (v : Data) (s : LineSaid) (e : Event) → Kind (line_values v) s → event_said H (line_values v).body s ≡ Ok e → HasShard e
said_shard H v s e (of_call kind read) reported =
    let call = call_is (line_values v) s read in
    subst HasShard (same_ok (Call call.1 call.0 call.2 call.3) e (subst (λ x. event_said H (line_values v).body x ≡ Ok e) call.4 reported))
    (call_shard (line_values v) call.0 call.1 call.2 call.3 (read ∙ ap ok_of call.4))
said_shard H v s e (of_reply kind read) reported =
    let reply = reply_read (line_values v) s read in
    reply_shard reply.0 reply.1 (first_event (is_call reply.0) H) (place_of (is_ending reply.0) H) (subst (λ x. event_said H (line_values v).body x ≡ Ok e) reply.2 reported) where
      heard_shard : (n : ℕ) (w : Heard) → event_heard n w ≡ Ok e → HasShard e
      heard_shard n (heard.Reply r) is = subst HasShard (same_ok (Reply n r) e is) tt
      heard_shard n heard.Unknown is = subst HasShard (same_ok (Lost n) e is) tt
      heard_shard n heard.Stranger is = absurd (cc)

      reply_shard : (n status : ℕ) (c : Option Event) (p : Option ℕ) → ending_parsed n status (line_values v).body c p ≡ Ok e → HasShard e
      reply_shard n status None p is = absurd (cc)
      reply_shard n status (Some x) (Some i) is = absurd (cc)
      reply_shard n status (Some x) None is = heard_shard n (heard_of_call x status (line_values v).body) is
said_shard H v s e (of_lost kind read) reported =
    let lost = lost_read (line_values v) s read in
    subst HasShard (same_ok (Lost lost.0) e (subst (λ x. event_said H (line_values v).body x ≡ Ok e) lost.1 reported)) tt

pub reported_shard : (H : List Event) (v : Data) (e : Event) → event_parsed H (line_values v) ≡ Ok e → HasShard e
reported_shard H v e reported = let line = first_ok (line_parsed (line_values v)) _ e reported in said_shard H v line.0 e (line_is (line_values v) line.0 line.1) line.2

abbrev pub unit_err : HistFault → Result (Unit {0}) HistFault
unit_err f = Err f

-- ---- what a line says, as the code takes it

-- the event is refused
pub event_kept_out : (H : List Event) (e : Event) (f : HistFault) → refusal_reported (unit_err f) ≡ refusal_of H e
    → IfReported (line_fault f) (λ cause. adds H e ≡ Err cause)
event_kept_out H e event.SecondCall reason = ap (with_more H e) (sym reason)
event_kept_out H e event.NoCall reason = ap (with_more H e) (sym reason)
event_kept_out H e event.Ended reason = ap (with_more H e) (sym reason)
event_kept_out H e event.Kind reason = ap (with_more H e) (sym reason)
event_kept_out H e event.Full reason = ap (with_more H e) (sym reason)
event_kept_out H e event.NoMemory reason = tt
event_kept_out H e event.ShardMoved reason = ap (with_more H e) (sym reason)

pub line_err : (H : List Event) (e : Event) (r : Result (Unit {0}) HistFault) (q : Result (Unit {0}) LineFault) → q ≡ line_result r
    → refusal_reported r ≡ refusal_of H e → IfErr q (λ fault. IfReported fault (λ cause. adds H e ≡ Err cause))
line_err H e (Ok u) q is reason = subst (λ x. IfErr x (λ fault. IfReported fault (λ cause. adds H e ≡ Err cause))) (sym is) tt
line_err H e (Err f) q is reason = subst (λ x. IfErr x (λ fault. IfReported fault (λ cause. adds H e ≡ Err cause))) (sym is) (event_kept_out H e f reason)

-- a reply line whose call is open, or isn't
pub reply_open : (H : List Event) (n i status : ℕ) (body : BodyValues) (e : Event) → open_call_of H n ≡ Ok i → slice_get H i ≡ Some e
    → event_said H body (said.Reply n status) ≡ event_heard n (heard_of_call e status body)
reply_open H n i status body e opens at = by_places (place_of (is_call n) H) (place_of (is_ending n) H) refl refl opens where
  by_places : (c p : Option ℕ) → place_of (is_call n) H ≡ c → place_of (is_ending n) H ≡ p → opened c p ≡ Ok i
      → event_said H body (said.Reply n status) ≡ event_heard n (heard_of_call e status body)
  by_places None p call ending is = absurd (cc)
  by_places (Some j) (Some k) call ending is = absurd (cc)
  by_places (Some j) None call ending is =
      let same : j ≡ i = cc in
      ap (λ o. ending_parsed n status body (option_and_then (slice_get H) o) (place_of (is_ending n) H)) call
      ∙ (ap (λ o. ending_parsed n status body (slice_get H j) o) ending
      ∙ (ap (λ k. ending_parsed n status body (slice_get H k) None) same ∙ ap (λ o. ending_parsed n status body o None) at))

pub reply_not_open : (H : List Event) (n status : ℕ) (body : BodyValues) (f : HistFault) → open_call_of H n ≡ Err f
    → IfReported (line_fault f) (λ cause. event_said H body (said.Reply n status) ≡ Err cause)
reply_not_open H n status body f opens = by_places (place_of (is_call n) H) (place_of (is_ending n) H) refl refl opens where
  by_places : (c p : Option ℕ) → place_of (is_call n) H ≡ c → place_of (is_ending n) H ≡ p → opened c p ≡ Err f
      → IfReported (line_fault f) (λ cause. event_said H body (said.Reply n status) ≡ Err cause)
  by_places None p call ending is =
      let same : event.NoCall ≡ f = cc in
      subst (λ g. IfReported (line_fault g) (λ cause. event_said H body (said.Reply n status) ≡ Err cause)) same
      (ap (λ o. ending_parsed n status body (option_and_then (slice_get H) o) (place_of (is_ending n) H)) call)
  by_places (Some j) (Some k) call ending is =
      let same : event.Ended ≡ f = cc in
      subst (λ g. IfReported (line_fault g) (λ cause. event_said H body (said.Reply n status) ≡ Err cause)) same
      (by_event (slice_get H j) refl) where
        by_event : (o : Option Event) → slice_get H j ≡ o → event_said H body (said.Reply n status) ≡ Err Ended
        by_event (Some x) at =
            ap (λ o. ending_parsed n status body (option_and_then (slice_get H) o) (place_of (is_ending n) H)) call
            ∙ (ap (λ o. ending_parsed n status body (slice_get H j) o) ending ∙ ap (λ o. ending_parsed n status body o (Some k)) at)
        by_event None at =
            let x = passes_element (is_call n) H j (place_of-passes (is_call n) H j call) in
            absurd (none_is_not_some x.0 (sym at ∙ x.1))
  by_places (Some j) None call ending is = absurd (cc)

-- what holds of a cause that is reported
pub IfReported-map : (P Q : TextCause → Type 0) (fault : LineFault) → ((cause : TextCause) → P cause → Q cause) → IfReported fault P → IfReported fault Q
IfReported-map P Q (line.Reported cause) f is = f cause is
IfReported-map P Q line.NoMemory f is = tt

pub reply_closed : (H : List Event) (n status : ℕ) (body : BodyValues) (f : HistFault) → open_call_of H n ≡ Err f
    → IfReported (line_fault f) (λ cause. takes_said H body (said.Reply n status) ≡ Err cause)
reply_closed H n status body f opens =
    IfReported-map (λ cause. event_said H body (said.Reply n status) ≡ Err cause) (λ cause. takes_said H body (said.Reply n status) ≡ Err cause)
    (line_fault f) (λ cause is. ap (λ r. r >>= adds H) is) (reply_not_open H n status body f opens)

-- a reply line that is taken by what is heard of its open call
pub reply_taken : (H : List Event) (n i status : ℕ) (body : BodyValues) (e : Event) (w : Heard) → open_call_of H n ≡ Ok i → slice_get H i ≡ Some e
    → w ≡ heard_of_call e status body → takes_reply H n status body ≡ event_heard n w >>= adds H
reply_taken H n i status body e w opens at reports =
    ap (λ r. r >>= adds H) (reply_open H n i status body e opens at) ∙ ap (λ v. event_heard n v >>= adds H) (sym reports)

-- what is said of a reply that is refused
pub answer_refused : (H : List Event) (n i status : ℕ) (body : BodyValues) (e : Event) (r : Answer) (pushed : Result (Unit {0}) HistFault)
    (answer : Result (Unit {0}) LineFault) → open_call_of H n ≡ Ok i → slice_get H i ≡ Some e → heard.Reply r ≡ heard_of_call e status body
    → answer ≡ line_result pushed → refusal_reported pushed ≡ refusal_of H (Reply n r)
    → IfErr answer (λ fault. IfReported fault (λ cause. takes_reply H n status body ≡ Err cause))
answer_refused H n i status body e r pushed answer opens at reports is reason =
    subst (λ t. IfErr answer (λ fault. IfReported fault (λ cause. t ≡ Err cause))) (sym (reply_taken H n i status body e (heard.Reply r) opens at reports))
    (line_err H (Reply n r) pushed answer is reason)
