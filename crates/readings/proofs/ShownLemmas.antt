-- Events that are changed one by one: void calls read as gets, and replies that are hidden.
use Rattle.std.proofs.Common.{ℕ, suc, ◌≡◌, ◌<◌, List, [], ◌∷◌, refl, sym, ap, subst, ◌∙◌, arith, Bool, true, false, Some, length, map, slice_get, true≢false, option_map}
use Rattle.std.specs.Prelude.{◌==◌, ◌↔◌, Contains, IsTrue, if◌then◌else◌}
use Rattle.std.proofs.lemmas.Bool.{eqb-true}
use Rattle.std.specs.Cmp.{nat_eq_equiv}
use Rattle.std.proofs.lemmas.Map.Views.{Contains-from_any, list_any-from_Contains}
use Rattle.std.proofs.lemmas.Option.{slice_get-map}
use Rattle.doc_register.specs.declared.op.Op.{Op}
use Rattle.doc_register.specs.declared.op.Op.TheVariants.{Get}
use Rattle.doc_register.specs.declared.reply.Reply.{Reply as Answer}
use Rattle.doc_register.specs.Register.{fits}
use Rattle.version_pair.proofs.ListLemmas.{mapped_from}
use Rattle.events.specs.declared.event.Event.{Event}
use Rattle.events.specs.declared.event.Event.TheVariants.{Call, Reply, Lost}
use Rattle.events.specs.Events.{IsCallAt, IsHistory, IsReplyAt, PassesAt, is_call, is_ending}
use Rattle.events.proofs.EventLemmas.{element_passes, passes_element}
use Rattle.history.specs.declared.text_rules.Failed.{Failed}
use Rattle.history.specs.declared.text_rules.Failed.TheVariants as failed
use Rattle.readings.specs.declared.reading.Reading.{Reading}
use Rattle.history.specs.Laws.{AreLost}
use Rattle.readings.specs.Reading.{heeded, is_among, is_hidden, without_hidden, without_void}

-- ---- changes of single events

-- the change keeps calls but for their operations, and endings but for replies that become losses
pub record IsMask (f : Event → Event) : Type 0 where
  pub calls : (n : ℕ) (e : Event) → is_call n (f e) ≡ is_call n e
  pub endings : (n : ℕ) (e : Event) → is_ending n (f e) ≡ is_ending n e
  pub call_of : (e : Event) (h n : ℕ) (d : List ℕ) (op : Op) → f e ≡ Call h n d op → (o : Op) × (e ≡ Call h n d o)
  pub reply_of : (e : Event) (n : ℕ) (r : Answer) → f e ≡ Reply n r → e ≡ Reply n r

pub unmasked_passes : (f : Event → Event) (t : Event → Bool) → ((e : Event) → t (f e) ≡ t e) → (events : List Event) (i : ℕ) → PassesAt t (map f events) i → PassesAt t events i
unmasked_passes f t same events i passes =
    let e = passes_element t (map f events) i passes in
    let m = mapped_from f events i e.0 e.1 in
    element_passes t events i m.0 m.1 (sym (same m.0) ∙ (ap t m.2 ∙ e.2))

pub masked_passes : (f : Event → Event) (t : Event → Bool) → ((e : Event) → t (f e) ≡ t e) → (events : List Event) (i : ℕ) → PassesAt t events i → PassesAt t (map f events) i
masked_passes f t same events i passes =
    let e = passes_element t events i passes in
    element_passes t (map f events) i (f e.0) (slice_get-map f events i ∙ ap (option_map f) e.1) (same e.0 ∙ e.2)

pub unmasked_call : (f : Event → Event) → IsMask f → (events : List Event) (i n h : ℕ) (d : List ℕ) (op : Op) → IsCallAt (map f events) i n h d op
    → (o : Op) × IsCallAt events i n h d o × (f (Call h n d o) ≡ Call h n d op)
unmasked_call f mask events i n h d op at =
    let m = mapped_from f events i (Call h n d op) at in
    let c = mask.call_of m.0 h n d op m.2 in
    (c.0, m.1 ∙ ap (λ e. Some e) c.1, ap f (sym c.1) ∙ m.2)

pub unmasked_reply : (f : Event → Event) → IsMask f → (events : List Event) (i n : ℕ) (r : Answer) → IsReplyAt (map f events) i n r → IsReplyAt events i n r
unmasked_reply f mask events i n r at =
    let m = mapped_from f events i (Reply n r) at in
    m.1 ∙ ap (λ e. Some e) (mask.reply_of m.0 n r m.2)

-- a history stays one, if the replies that are left fit the operations
pub masked_history : (f : Event → Event) → IsMask f → (events : List Event) → IsHistory events
    → ((n i j h : ℕ) (d : List ℕ) (op : Op) (r : Answer) → IsReplyAt (map f events) i n r → IsCallAt (map f events) j n h d op → fits op r ≡ true) → IsHistory (map f events)
masked_history f mask events history fit = record {
  called_once = λ n i j p q. history.called_once n i j (unmasked_passes f (is_call n) (mask.calls n) events i p) (unmasked_passes f (is_call n) (mask.calls n) events j q);
  ended_once = λ n i j p q. history.ended_once n i j (unmasked_passes f (is_ending n) (mask.endings n) events i p) (unmasked_passes f (is_ending n) (mask.endings n) events j q);
  ended_after_call = λ n i p.
      let c = history.ended_after_call n i (unmasked_passes f (is_ending n) (mask.endings n) events i p) in
      (c.0, c.1, masked_passes f (is_call n) (mask.calls n) events c.0 c.2);
  replies_fit = λ n i j h d op r reply call. fit n i j h d op r reply call;
  one_shard = λ i j n m h g d op o a b.
      let x = unmasked_call f mask events i n h d op a in
      let y = unmasked_call f mask events j m g d o b in
      history.one_shard i j n m h g d x.0 y.0 x.1 y.1;
  shards = λ i n h d op a. let x = unmasked_call f mask events i n h d op a in history.shards i n h d x.0 x.1;
}

-- ---- void calls

pub void_mask : (voids : List ℕ) → IsMask (without_void voids)
void_mask voids = record { calls = calls; endings = endings; call_of = call_of; reply_of = reply_of } where
  calls : (n : ℕ) (e : Event) → is_call n (without_void voids e) ≡ is_call n e
  calls n (Call h m d op) = refl
  calls n (Reply m r) = refl
  calls n (Lost m) = refl

  endings : (n : ℕ) (e : Event) → is_ending n (without_void voids e) ≡ is_ending n e
  endings n (Call h m d op) = refl
  endings n (Reply m r) = refl
  endings n (Lost m) = refl

  call_of : (e : Event) (h n : ℕ) (d : List ℕ) (op : Op) → without_void voids e ≡ Call h n d op → (o : Op) × (e ≡ Call h n d o)
  call_of (Call g m f o) h n d op is =
      let shard : g ≡ h = cc in
      let number : m ≡ n = cc in
      let doc : f ≡ d = cc in
      (o, ap (λ x. Call x m f o) shard ∙ (ap (λ x. Call h x f o) number ∙ ap (λ x. Call h n x o) doc))
  call_of (Reply m r) h n d op is = absurd (cc)
  call_of (Lost m) h n d op is = absurd (cc)

  reply_of : (e : Event) (n : ℕ) (r : Answer) → without_void voids e ≡ Reply n r → e ≡ Reply n r
  reply_of (Call g m f o) n r is = absurd (cc)
  reply_of (Reply m s) n r is = is
  reply_of (Lost m) n r is = absurd (cc)

pub heeded_void : (mode : Failed) (voids : List ℕ) (events : List Event) → AreLost events voids → AreLost events (heeded mode voids)
heeded_void failed.Lost voids events void = λ n has. let below : has.0 < 0 = has.1 in absurd (omega arith)
heeded_void failed.Trusted voids events void = void

same_number : (m n : ℕ) → (m == n) ≡ true → m ≡ n
same_number m n is = eqb-true m n is

pub among_contains : (voids : List ℕ) (n : ℕ) → is_among voids n ≡ true → Contains voids n
among_contains voids n is = Contains-from_any same_number n voids is

contains_among : (voids : List ℕ) (n : ℕ) → Contains voids n → is_among voids n ≡ true
contains_among voids n has = list_any-from_Contains nat_eq_equiv n voids has

-- a test that says whether the number is contained is the same
pub is_among_so : (voids : List ℕ) (n : ℕ) (b : Bool) → IsTrue b ↔ Contains voids n → b ≡ is_among voids n
is_among_so voids n b says = by_tests b (is_among voids n) refl says where
  by_tests : (x y : Bool) → is_among voids n ≡ y → IsTrue x ↔ Contains voids n → x ≡ y
  by_tests true true is both = refl
  by_tests false false is both = refl
  by_tests true false is both = absurd (true≢false (sym (contains_among voids n (both.0 refl)) ∙ is))
  by_tests false true is both = absurd (true≢false (sym (both.1 (among_contains voids n is))))

same_op : (h n : ℕ) (d : List ℕ) (op o : Op) → Call h n d op ≡ Call h n d o → op ≡ o
same_op h n d op o same = cc

pub void_history : (voids : List ℕ) (events : List Event) → IsHistory events → AreLost events voids → IsHistory (map (without_void voids) events)
void_history voids events history void = masked_history (without_void voids) (void_mask voids) events history (λ n i j h d op r reply call.
    let x = unmasked_call (without_void voids) (void_mask voids) events j n h d op call in
    let answered = unmasked_reply (without_void voids) (void_mask voids) events i n r reply in
    by_void n i j h d op r x.0 (is_among voids n) refl answered x.1 (same_op h n d (if is_among voids n then Get else x.0) op x.2)) where
      by_void : (n i j h : ℕ) (d : List ℕ) (op : Op) (r : Answer) (o : Op) (b : Bool) → is_among voids n ≡ b → IsReplyAt events i n r → IsCallAt events j n h d o → (if b then Get else o) ≡ op → fits op r ≡ true
      by_void n i j h d op r o true is reply call same = absurd ((void n (among_contains voids n is)).pending.unanswered i r reply)
      by_void n i j h d op r o false is reply call same = subst (λ x. fits x r ≡ true) same (history.replies_fit n i j h d o r reply call)

-- ---- hidden replies

pub hidden_mask : (reading : Reading) → IsMask (without_hidden reading)
hidden_mask reading = record { calls = calls; endings = endings; call_of = call_of; reply_of = reply_of } where
  calls : (n : ℕ) (e : Event) → is_call n (without_hidden reading e) ≡ is_call n e
  calls n (Call h m d op) = refl
  calls n (Reply m r) = by_test (is_hidden reading r) where
    by_test : (b : Bool) → is_call n (if b then Lost m else Reply m r) ≡ false
    by_test true = refl
    by_test false = refl
  calls n (Lost m) = refl

  endings : (n : ℕ) (e : Event) → is_ending n (without_hidden reading e) ≡ is_ending n e
  endings n (Call h m d op) = refl
  endings n (Reply m r) = by_test (is_hidden reading r) where
    by_test : (b : Bool) → is_ending n (if b then Lost m else Reply m r) ≡ is_ending n (Reply m r)
    by_test true = refl
    by_test false = refl
  endings n (Lost m) = refl

  call_of : (e : Event) (h n : ℕ) (d : List ℕ) (op : Op) → without_hidden reading e ≡ Call h n d op → (o : Op) × (e ≡ Call h n d o)
  call_of (Call g m f o) h n d op is = (op, is)
  call_of (Reply m r) h n d op is = by_test (is_hidden reading r) is where
    by_test : (b : Bool) → (if b then Lost m else Reply m r) ≡ Call h n d op → (o : Op) × (Reply m r ≡ Call h n d o)
    by_test true same = absurd (cc)
    by_test false same = (op, same)
  call_of (Lost m) h n d op is = absurd (cc)

  reply_of : (e : Event) (n : ℕ) (r : Answer) → without_hidden reading e ≡ Reply n r → e ≡ Reply n r
  reply_of (Call g m f o) n r is = absurd (cc)
  reply_of (Reply m s) n r is = by_test (is_hidden reading s) is where
    by_test : (b : Bool) → (if b then Lost m else Reply m s) ≡ Reply n r → Reply m s ≡ Reply n r
    by_test true same = absurd (cc)
    by_test false same = same
  reply_of (Lost m) n r is = absurd (cc)

pub hidden_history : (reading : Reading) (events : List Event) → IsHistory events → IsHistory (map (without_hidden reading) events)
hidden_history reading events history = masked_history (without_hidden reading) (hidden_mask reading) events history (λ n i j h d op r reply call.
    let x = unmasked_call (without_hidden reading) (hidden_mask reading) events j n h d op call in
    subst (λ o. fits o r ≡ true) (same_op h n d x.0 op x.2) (history.replies_fit n i j h d x.0 r (unmasked_reply (without_hidden reading) (hidden_mask reading) events i n r reply) x.1))
