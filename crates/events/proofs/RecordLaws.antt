-- A history is split into the records of its documents.
use Rattle.std.proofs.Common.{ℕ, zero, suc, ◌≡◌, ◌<◌, ◌+◌, List, [], ◌∷◌, refl, sym, ap, subst, ◌∙◌, arith, Option, Some, None, slice_get, Bool, true, false}
use Rattle.std.specs.Prelude.{option_and_then, if◌then◌else◌}
use Rattle.std.specs.Cmp.Lexicographic.{bytes_decides}
use Rattle.std.proofs.lemmas.Bool.{eqb-true}
use Rattle.doc_register.specs.declared.op.Op.{Op}
use Rattle.doc_register.specs.declared.reply.Reply.{Reply as Answer}
use Rattle.events.specs.declared.event.Event.{Event}
use Rattle.events.specs.declared.event.Event.TheVariants.{Call, Reply, Lost}
use Rattle.events.specs.declared.record.Rec.{Rec}
use Rattle.events.specs.Events.{IsCallAt, IsHistory, IsReplyAt, PassesAt, Precedes, heard_at, heard_of, is_call_of, is_ending, place_of, places_from, record_at, record_from}
use Rattle.events.specs.Laws.{IsRecordAt, SplitByDocument}
use Rattle.version_pair.proofs.ListLemmas.{IsMadeAt, compare, kept_at, made_in_order, made_of, none_is_not_some, same_some}
use Rattle.events.proofs.EventLemmas.{passes_element, element_passes, place_of-passes, place_of-some}
use Rattle.events.proofs.HistoryLemmas.{call_passes, reply_passes}

-- ---- the places of a test

passes_here : (t : Event → Bool) (x : Event) (xs : List Event) → t x ≡ true → PassesAt t (x ∷ xs) 0
passes_here t x xs e = element_passes t (x ∷ xs) 0 x refl e

-- what stands in the list is a place at which the test passes
pub place_passes : (k : ℕ) (t : Event → Bool) (xs : List Event) (j i : ℕ) → slice_get (places_from k t xs) j ≡ Some i → (m : ℕ) × (i ≡ k + m) × PassesAt t xs m
place_passes k t [] j i at = absurd (none_is_not_some i at)
place_passes k t (x ∷ xs) j i at = by_test (t x) refl j at (λ a e. place_passes (suc k) t xs a i e) where
  by_test : (b : Bool) → t x ≡ b → (j : ℕ) → slice_get (if b then k ∷ places_from (suc k) t xs else places_from (suc k) t xs) j ≡ Some i
      → ((a : ℕ) → slice_get (places_from (suc k) t xs) a ≡ Some i → (m : ℕ) × (i ≡ suc k + m) × PassesAt t xs m) → (m : ℕ) × (i ≡ k + m) × PassesAt t (x ∷ xs) m
  by_test true is zero at later = let here : k ≡ i = same_some k i at in (zero, (omega arith), passes_here t x xs is)
  by_test true is (suc j) at later = let m = later j at in let e : i ≡ suc k + m.0 = m.1 in (suc m.0, (omega arith), m.2)
  by_test false is j at later = let m = later j at in let e : i ≡ suc k + m.0 = m.1 in (suc m.0, (omega arith), m.2)

-- the places rise
places_rise : (k : ℕ) (t : Event → Bool) (xs : List Event) (j l a b : ℕ) → j < l → slice_get (places_from k t xs) j ≡ Some a → slice_get (places_from k t xs) l ≡ Some b → a < b
places_rise k t [] j l a b below at bt = absurd (none_is_not_some a at)
places_rise k t (x ∷ xs) j l a b below at bt = by_test (t x) j l below at bt (λ m n h p q. places_rise (suc k) t xs m n a b h p q) where
  by_test : (c : Bool) (j l : ℕ) → j < l → slice_get (if c then k ∷ places_from (suc k) t xs else places_from (suc k) t xs) j ≡ Some a
      → slice_get (if c then k ∷ places_from (suc k) t xs else places_from (suc k) t xs) l ≡ Some b
      → ((m n : ℕ) → m < n → slice_get (places_from (suc k) t xs) m ≡ Some a → slice_get (places_from (suc k) t xs) n ≡ Some b → a < b) → a < b
  by_test true zero zero below at bt later = absurd (omega arith)
  by_test true zero (suc l) below at bt later =
      let here : k ≡ a = same_some k a at in
      let m = place_passes (suc k) t xs l b bt in
      let there : b ≡ suc k + m.0 = m.1 in
      omega arith
  by_test true (suc j) zero below at bt later = absurd (omega arith)
  by_test true (suc j) (suc l) below at bt later = later j l (omega arith) at bt
  by_test false j l below at bt later = later j l below at bt

-- each place at which the test passes is in the list
pub place_listed : (k : ℕ) (t : Event → Bool) (xs : List Event) (m : ℕ) → PassesAt t xs m → (j : ℕ) × (slice_get (places_from k t xs) j ≡ Some (k + m))
place_listed k t [] m p = absurd (none_is_not_some true p)
place_listed k t (x ∷ xs) zero p = (zero, ap (λ c. slice_get (if c then k ∷ places_from (suc k) t xs else places_from (suc k) t xs) zero) (same_some (t x) true p) ∙ ap (λ i. Some i) (omega arith))
place_listed k t (x ∷ xs) (suc m) p = by_test (t x) (place_listed (suc k) t xs m p) where
  moved : Some (suc k + m) ≡ Some (k + suc m)
  moved = ap (λ i. Some i) (omega arith)

  by_test : (c : Bool) → (j : ℕ) × (slice_get (places_from (suc k) t xs) j ≡ Some (suc k + m))
      → (j : ℕ) × (slice_get (if c then k ∷ places_from (suc k) t xs else places_from (suc k) t xs) j ≡ Some (k + suc m))
  by_test true later = (suc later.0, later.1 ∙ moved)
  by_test false later = (later.0, later.1 ∙ moved)

-- ---- records

-- the record of a call of the document d
record IsRecordOf (H : List Event) (d : List ℕ) (r : Rec) : Type 0 where
  pub call : (h : ℕ) × IsCallAt H r.call_at r.no h d r.op
  pub reported : r.heard ≡ heard_of H r.no

record_is : (H : List Event) (d : List ℕ) (i : ℕ) (e : Event) (r : Rec) → slice_get H i ≡ Some e → is_call_of d e ≡ true → record_from H i e ≡ Some r → (r.call_at ≡ i) × IsRecordOf H d r
record_is H d i (Call h n e op) r at passes made =
    subst (λ s. (s.call_at ≡ i) × IsRecordOf H d s) (same_some (record { no = n; op = op; call_at = i; heard = heard_of H n }) r made)
    (refl, record { call = (h, at ∙ ap (λ c. Some (Call h n c op)) ((bytes_decides e d).0 passes)); reported = refl })
record_is H d i (Reply n s) r at passes made = absurd (none_is_not_some r made)
record_is H d i (Lost n) r at passes made = absurd (none_is_not_some r made)

-- the record that is made of a place at which a call of the document stands
place_record : (H : List Event) (d : List ℕ) (i : ℕ) (r : Rec) → PassesAt (is_call_of d) H i → record_at H i ≡ Some r → (r.call_at ≡ i) × IsRecordOf H d r
place_record H d i r passes made =
    let e = passes_element (is_call_of d) H i passes in
    record_is H d i e.0 r e.1 e.2 (sym (ap (option_and_then (record_from H i)) e.1) ∙ made)

made_record : (H : List Event) (d : List ℕ) (k : ℕ) (r : Rec) (m : IsMadeAt (record_at H) (places_from 0 (is_call_of d) H) k r) → (r.call_at ≡ m.from) × IsRecordOf H d r
made_record H d k r m =
    let p = place_passes 0 (is_call_of d) H k m.from m.at in
    let e : m.from ≡ 0 + p.0 = p.1 in
    let here : p.0 ≡ m.from = omega arith in
    place_record H d m.from r (subst (λ i. PassesAt (is_call_of d) H i) here p.2) m.made

record_of : (H : List Event) (d : List ℕ) (j : ℕ) (r : Rec) → IsRecordAt H d j r → IsRecordOf H d r
record_of H d j r at = let m = made_of (record_at H) (places_from 0 (is_call_of d) H) j r at in (made_record H d m.0 r m.1).1

in_order : (H : List Event) (d : List ℕ) (j k : ℕ) (r s : Rec) → IsRecordAt H d j r → IsRecordAt H d k s → j < k → r.call_at < s.call_at
in_order H d j k r s at bt below =
    let m = made_in_order (record_at H) (places_from 0 (is_call_of d) H) j k r s below at bt in
    let first : r.call_at ≡ m.3.from = (made_record H d m.0 r m.3).0 in
    let second : s.call_at ≡ m.4.from = (made_record H d m.1 s m.4).0 in
    let rise : m.3.from < m.4.from = places_rise 0 (is_call_of d) H m.0 m.1 m.3.from m.4.from m.2 m.3.at m.4.at in
    omega arith

recorded : (H : List Event) (i n h : ℕ) (d : List ℕ) (op : Op) → IsCallAt H i n h d op → (j : ℕ) × (r : Rec) × IsRecordAt H d j r × (r.call_at ≡ i)
recorded H i n h d op at =
    let p = place_listed 0 (is_call_of d) H i (element_passes (is_call_of d) H i (Call h n d op) at ((bytes_decides d d).1 refl)) in
    let here : 0 + i ≡ i = omega arith in
    let r : Rec = record { no = n; op = op; call_at = i; heard = heard_of H n } in
    let k = kept_at (record_at H) (places_from 0 (is_call_of d) H) p.0 i r (p.1 ∙ ap (λ x. Some x) here) (ap (option_and_then (record_from H i)) at) in
    (k.0, r, k.1, refl)

same_document : (H : List Event) (d e : List ℕ) (r s : Rec) → IsRecordOf H d r → IsRecordOf H e s → r.call_at ≡ s.call_at → d ≡ e
same_document H d e r s a b same =
    let eq : Some (Call a.call.0 r.no d r.op) ≡ Some (Call b.call.0 s.no e s.op) = sym a.call.1 ∙ (ap (slice_get H) same ∙ b.call.1) in
    cc

not_below : (a b : ℕ) → a ≡ b → a < b → ⊥
not_below a b e h = omega arith

once : (H : List Event) (d e : List ℕ) (j k : ℕ) (r s : Rec) → IsRecordAt H d j r → IsRecordAt H e k s → r.call_at ≡ s.call_at → (d ≡ e) × (j ≡ k)
once H d e j k r s at bt same =
    let doc : d ≡ e = same_document H d e r s (record_of H d j r at) (record_of H e k s bt) same in
    let here : IsRecordAt H d k s = subst (λ c. IsRecordAt H c k s) (sym doc) bt in (
      doc,
      compare j k (λ below. not_below r.call_at s.call_at same (in_order H d j k r s at here below))
          (λ below. not_below s.call_at r.call_at (sym same) (in_order H d k j s r here at below)),
    )

-- ---- what was heard of a call

event_heard : (H : List Event) (n i : ℕ) (e : Event) (p : ℕ) (a : Answer) → slice_get H i ≡ Some e → is_ending n e ≡ true → heard_at i e ≡ Some (p, a) → IsReplyAt H p n a
event_heard H n i (Call h m d op) p a at passes heard = absurd (none_is_not_some (p, a) heard)
event_heard H n i (Reply m r) p a at passes heard =
    let pair : (i, r) ≡ (p, a) = same_some (i, r) (p, a) heard in
    let place : i ≡ p = ap (λ (x : ℕ × Answer). x.0) pair in
    let reply : r ≡ a = ap (λ (x : ℕ × Answer). x.1) pair in
    let number : m ≡ n = eqb-true m n passes in
    subst (λ k. slice_get H k ≡ Some (Reply n a)) place (at ∙ (ap (λ k. Some (Reply k r)) number ∙ ap (λ s. Some (Reply n s)) reply))
event_heard H n i (Lost m) p a at passes heard = absurd (none_is_not_some (p, a) heard)

heard_reply : (H : List Event) (n p : ℕ) (a : Answer) → heard_of H n ≡ Some (p, a) → IsReplyAt H p n a
heard_reply H n p a heard = by_place (place_of (is_ending n) H) refl heard where
  by_place : (o : Option ℕ) → place_of (is_ending n) H ≡ o → option_and_then (λ i. option_and_then (heard_at i) (slice_get H i)) o ≡ Some (p, a) → IsReplyAt H p n a
  by_place None is heard = absurd (none_is_not_some (p, a) heard)
  by_place (Some i) is heard =
      let e = passes_element (is_ending n) H i (place_of-passes (is_ending n) H i is) in
      event_heard H n i e.0 p a e.1 e.2 (sym (ap (option_and_then (heard_at i)) e.1) ∙ heard)

reply_heard : (H : List Event) → IsHistory H → (n p : ℕ) (a : Answer) → IsReplyAt H p n a → heard_of H n ≡ Some (p, a)
reply_heard H history n p a at =
    let passes : PassesAt (is_ending n) H p = reply_passes H p n a at in
    let first = place_of-some (is_ending n) H p passes in
    let here : first.0 ≡ p = history.ended_once n first.0 p (place_of-passes (is_ending n) H first.0 first.1) passes in
    ap (option_and_then (λ i. option_and_then (heard_at i) (slice_get H i))) (first.1 ∙ ap (λ i. Some i) here)
    ∙ ap (option_and_then (heard_at p)) at

-- ---- the law

seen : (H : List Event) → IsHistory H → (d : List ℕ) (r s : Rec) → IsRecordOf H d r → IsRecordOf H d s → Precedes H r.no s.no → (p : ℕ) × (a : Answer) × (r.heard ≡ Some (p, a)) × (p < s.call_at)
seen H history d r s a b first =
    let place : first.called ≡ s.call_at = history.called_once s.no first.called s.call_at first.call (call_passes H s.call_at s.no b.call.0 d s.op b.call.1) in
    let before : first.answered < first.called = first.before in
    (first.answered, first.reply.0, a.reported ∙ reply_heard H history r.no first.answered first.reply.0 first.reply.1, (omega arith))

pub split_by_document : SplitByDocument
split_by_document H history = record {
  recorded = recorded H;
  of_call = λ d j r at. (record_of H d j r at).call;
  once = once H;
  in_order = in_order H;
  heard = λ d j r at p a.
      let o = record_of H d j r at in
      (λ heard. heard_reply H r.no p a (sym o.reported ∙ heard), λ reply. o.reported ∙ reply_heard H history r.no p a reply);
  precedes = λ d j k r s at bt.
      let a = record_of H d j r at in
      let b = record_of H d k s bt in (
        λ first. seen H history d r s a b first,
        λ (p, answer, heard, before). record {
          answered = p;
          called = s.call_at;
          before = before;
          reply = (answer, heard_reply H r.no p answer (sym a.reported ∙ heard));
          call = call_passes H s.call_at s.no b.call.0 d s.op b.call.1;
        },
      );
}
