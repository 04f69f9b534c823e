-- The indexes stay right where an event is added that is not refused.
use Rattle.std.proofs.Common.{ℕ, zero, suc, inl, inr, ◌≡◌, ◌<◌, ◌≤◌, ◌+◌, List, [], ◌∷◌, ◌++◌, length, refl, sym, ap, subst, ◌∙◌, arith, Option, Some, None, slice_get, Bool, true, false, length-append}
use Rattle.std.specs.Prelude.{◌==◌, not, option_and_then, if◌then◌else◌, is_some, nat_lt, slice_set}
use Rattle.std.specs.Option.{option_map_or}
use Rattle.std.specs.Cmp.Lexicographic.{bytes_decides}
use Rattle.std.specs.Map.{lookup}
use Rattle.std.proofs.lemmas.Bool.{eqb-true, ltb-true, not-false}
use Rattle.std.proofs.lemmas.List.Sums.{fold-append}
use Rattle.doc_register.specs.declared.op.Op.{Op}
use Rattle.doc_register.specs.Register.{fits}
use Rattle.events.specs.declared.event.Event.{Event}
use Rattle.events.specs.declared.event.Event.TheVariants.{Call, Reply, Lost}
use Rattle.events.specs.declared.fault.HistFault.{HistFault}
use Rattle.events.specs.declared.fault.HistFault.TheVariants.{SecondCall, NoCall, Ended, Kind, Full, ShardMoved}
use Rattle.events.specs.Events.{IsCallAt, IsHistory, PassesAt, documents_of, is_call, is_call_of, is_ending, is_same, place_of, places_from, with_document, with_event}
use Rattle.version_pair.specs.Shards.{most_shards}
use Rattle.events.specs.aids.CallPlaces.{AreFoundAlike}
use Rattle.events.specs.aids.Indexes.{AreIndexed, IsEndingOf, IsNotedAt, calls_at, with_listed}
use Rattle.events.specs.Refusal.{is_moved, most_events, op_named, op_of, refusal_of, shard_named, shard_of, when_ended, when_full}
use Rattle.events.proofs.EventLemmas.{passes_element, element_passes, place_of-passes, place_of-none, place_of-some}
use Rattle.events.proofs.HistoryLemmas.{history_after_call, history_after_reply, history_after_lost}
use Rattle.events.proofs.IndexLemmas.{found_after, found_still, first_front, first_last, first_none}
use Rattle.events.proofs.DocumentLemmas.{lookup_with}
use Rattle.version_pair.proofs.ListLemmas.{get_snoc, none_is_not_some}
use Rattle.events.proofs.ListedLemmas.{AreDistinct, documents_distinct, endings_after_call, endings_after_ending, lists_after, lists_still}
use Rattle.version_pair.proofs.TruthLemmas.{none_from_is_some}

-- ---- what the refusals rule out

pub chosen : {X : Type 0} (b : Bool) (f : X) (r : Option X) → (if b then Some f else r) ≡ None → (b ≡ false) × (r ≡ None)
chosen true f r h = absurd (none_is_not_some f (sym h))
chosen false f r h = (refl, h)

room : (b : Bool) → (if b then None else Some Full) ≡ None → b ≡ true
room true h = refl
room false h = absurd (none_is_not_some Full (sym h))

pub when_full_room : (H : List Event) → when_full H ≡ None → length H < most_events
when_full_room H h = ltb-true (length H) most_events (room (nat_lt (length H) most_events) h)

-- the operation of a call that is there, with its call
pub op_of-call : (H : List Event) (n : ℕ) (op : Op) → op_of H n ≡ Some op → (c h : ℕ) × (d : List ℕ) × IsCallAt H c n h d op
op_of-call H n op h = by_place (place_of (is_call n) H) refl where
  by_event : (c : ℕ) (e : Event) → slice_get H c ≡ Some e → is_call n e ≡ true → op_named e ≡ Some op → (c h : ℕ) × (d : List ℕ) × IsCallAt H c n h d op
  by_event c (Call g m d o) at passes named =
      let number : m ≡ n = eqb-true m n passes in
      let same : o ≡ op = (let eq : Some o ≡ Some op = named in cc) in
      (c, g, d, at ∙ cc)
  by_event c (Reply m r) at passes named = let impossible : false ≡ true = passes in absurd (cc)
  by_event c (Lost m) at passes named = let impossible : false ≡ true = passes in absurd (cc)

  by_place : (o : Option ℕ) → place_of (is_call n) H ≡ o → (c h : ℕ) × (d : List ℕ) × IsCallAt H c n h d op
  by_place None is = absurd (none_is_not_some op (sym (ap (option_and_then op_named) (first_none (is_call n) H is)) ∙ h))
  by_place (Some c) is =
      let e = passes_element (is_call n) H c (place_of-passes (is_call n) H c is) in
      by_event c e.0 e.1 e.2
      (sym (ap (option_and_then op_named) (ap (option_and_then (slice_get H)) is ∙ e.1)) ∙ h)

-- ---- documents

call_names_shard : (q : List ℕ) (e : Event) → is_call_of q e ≡ true → (s : ℕ) × (shard_named e ≡ Some s)
call_names_shard q (Call g m d o) h = (g, refl)
call_names_shard q (Reply m r) h = let impossible : false ≡ true = h in absurd (cc)
call_names_shard q (Lost m) h = let impossible : false ≡ true = h in absurd (cc)

shards_after : (H : List Event) (n h : ℕ) (d : List ℕ) (op : Op) (docs : List (List ℕ × ℕ))
    → ((q : List ℕ) → lookup (is_same q) docs ≡ shard_of H q)
    → (q : List ℕ) → lookup (is_same q) (with_document docs d h) ≡ shard_of (H ++ Call h n d op ∷ []) q
shards_after H n h d op docs found q = by_place (place_of (is_call_of q) H) refl where
  after_none : (b : Bool) → (if b then Some h else None) ≡ option_and_then shard_named (if b then Some (Call h n d op) else None)
  after_none true = refl
  after_none false = refl

  by_place : (o : Option ℕ) → place_of (is_call_of q) H ≡ o → lookup (is_same q) (with_document docs d h) ≡ shard_of (H ++ Call h n d op ∷ []) q
  by_place (Some i) is =
      let e = passes_element (is_call_of q) H i (place_of-passes (is_call_of q) H i is) in
      let s = call_names_shard q e.0 e.2 in
      let here : shard_of H q ≡ Some s.0 = ap (option_and_then shard_named) (ap (option_and_then (slice_get H)) is ∙ e.1) ∙ s.1 in
      lookup_with docs d h q
      ∙ (ap (λ o. if is_some o then o else (if is_same d q then Some h else None)) (found q ∙ here)
      ∙ (sym here ∙ sym (ap (option_and_then shard_named) (first_front (is_call_of q) H (Call h n d op) i is))))
  by_place None is =
      let nowhere : shard_of H q ≡ None = ap (option_and_then shard_named) (first_none (is_call_of q) H is) in
      lookup_with docs d h q
      ∙ (ap (λ o. if is_some o then o else (if is_same d q then Some h else None)) (found q ∙ nowhere)
      ∙ (after_none (is_same d q) ∙ sym (ap (option_and_then shard_named) (first_last (is_call_of q) H (Call h n d op) is))))

shards_still : (H : List Event) (x : Event) (docs : List (List ℕ × ℕ))
    → ((q : List ℕ) → lookup (is_same q) docs ≡ shard_of H q) → ((q : List ℕ) → is_call_of q x ≡ false)
    → (q : List ℕ) → lookup (is_same q) docs ≡ shard_of (H ++ x ∷ []) q
shards_still H x docs found fails q = by_place (place_of (is_call_of q) H) refl where
  by_place : (o : Option ℕ) → place_of (is_call_of q) H ≡ o → lookup (is_same q) docs ≡ shard_of (H ++ x ∷ []) q
  by_place (Some i) is = found q ∙ sym (ap (option_and_then shard_named) (first_front (is_call_of q) H x i is))
  by_place None is =
      found q ∙ (ap (option_and_then shard_named) (first_none (is_call_of q) H is)
      ∙ sym (ap (option_and_then shard_named) (first_last (is_call_of q) H x is ∙ ap (λ b. if b then Some x else None) (fails q))))

-- the shard of a document is that of each of its calls
pub shard_of-call : (H : List Event) → IsHistory H → (i m g : ℕ) (d : List ℕ) (o : Op) → IsCallAt H i m g d o → shard_of H d ≡ Some g
shard_of-call H history i m g d o at = by_place (place_of-some (is_call_of d) H i (element_passes (is_call_of d) H i (Call g m d o) at ((bytes_decides d d).1 refl))) where
  by_event : (j : ℕ) (e : Event) → slice_get H j ≡ Some e → is_call_of d e ≡ true → shard_named e ≡ Some g
  by_event j (Call f k e q) here passes =
      let doc : e ≡ d = (bytes_decides e d).0 passes in
      let shard : f ≡ g = history.one_shard j i k m f g d q o (subst (λ c. IsCallAt H j k f c q) doc here) at in
      ap (λ s. Some s) shard
  by_event j (Reply k r) here passes = let impossible : false ≡ true = passes in absurd (cc)
  by_event j (Lost k) here passes = let impossible : false ≡ true = passes in absurd (cc)

  by_place : (j : ℕ) × (place_of (is_call_of d) H ≡ Some j) → shard_of H d ≡ Some g
  by_place p =
      let e = passes_element (is_call_of d) H p.0 (place_of-passes (is_call_of d) H p.0 p.1) in
      ap (option_and_then shard_named) (ap (option_and_then (slice_get H)) p.1 ∙ e.1) ∙ by_event p.0 e.0 e.1 e.2

documents_after : (H : List Event) (x : Event) (docs : List (List ℕ × ℕ)) → docs ≡ documents_of H → with_event docs x ≡ documents_of (H ++ x ∷ [])
documents_after H x docs h = ap (λ ds. with_event ds x) h ∙ sym (fold-append with_event [] H (x ∷ []))

pub longer : (H : List Event) (x : Event) → length H < most_events → length (H ++ x ∷ []) ≤ most_events
longer H x h = simp length-append (omega arith)

-- ---- the kinds of events

-- no call of a document that isn't there
no_calls : (H : List Event) (d : List ℕ) → shard_of H d ≡ None → calls_at H d ≡ []
no_calls H d none = empty H 0 (by_place (place_of (is_call_of d) H) refl) where
  by_place : (o : Option ℕ) → place_of (is_call_of d) H ≡ o → (i : ℕ) → PassesAt (is_call_of d) H i → ⊥
  by_place None found i passes = place_of-none (is_call_of d) H found i passes
  by_place (Some j) found i passes =
      let x = passes_element (is_call_of d) H j (place_of-passes (is_call_of d) H j found) in
      let s = call_names_shard d x.0 x.2 in
      none_is_not_some s.0 (sym none ∙ (ap (option_and_then shard_named) (ap (option_and_then (slice_get H)) found ∙ x.1) ∙ s.1))

  empty : (xs : List Event) (k : ℕ) → ((i : ℕ) → PassesAt (is_call_of d) xs i → ⊥) → places_from k (is_call_of d) xs ≡ []
  empty [] k nowhere = refl
  empty (x ∷ xs) k nowhere = by_test (is_call_of d x) refl (empty xs (suc k) (λ i passes. nowhere (suc i) passes)) where
    by_test : (b : Bool) → is_call_of d x ≡ b → places_from (suc k) (is_call_of d) xs ≡ []
        → (if b then k ∷ places_from (suc k) (is_call_of d) xs else places_from (suc k) (is_call_of d) xs) ≡ []
    by_test true is later = absurd (nowhere 0 (element_passes (is_call_of d) (x ∷ xs) 0 x refl is))
    by_test false is later = later

within_more : (es : List (Option ℕ)) (H : List Event) (x : Event) → ((i j : ℕ) → slice_get es i ≡ Some (Some j) → j < length H)
    → (i j : ℕ) → slice_get (es ++ None ∷ []) i ≡ Some (Some j) → j < length (H ++ x ∷ [])
within_more es H x within i j at =
    elim (get_snoc es None (Some j) i at) as (λ _. j < length (H ++ x ∷ [])) [
      | inl old ↦ (let below : j < length H = within i j old in simp length-append (omega arith))
      | inr new ↦ (let impossible : None ≡ Some j = new.1 in absurd (cc))
    ]

pub indexed_after_call : (H : List Event) (calls fs : List (ℕ × ℕ)) (es : List (Option ℕ)) (docs : List (List ℕ × ℕ)) (ls : List (List ℕ)) (c n h : ℕ) (d : List ℕ) (op : Op)
    → AreIndexed H calls es docs ls c → refusal_of H (Call h n d op) ≡ None → h < most_shards → IsNotedAt n (length H) calls fs
    → AreIndexed (H ++ Call h n d op ∷ []) fs (es ++ None ∷ []) (with_document docs d h) (with_listed docs ls d (length H)) (c + 1)
indexed_after_call H calls fs es docs ls c n h d op old accepted within updated =
    let first = chosen (is_some (place_of (is_call n) H)) SecondCall (if is_moved H d h then Some ShardMoved else when_full H) accepted in
    let second = chosen (is_moved H d h) ShardMoved (when_full H) first.1 in
    let fresh : place_of (is_call n) H ≡ None = none_from_is_some (place_of (is_call n) H) first.0 in
    let stays : (i m g : ℕ) (o : Op) → IsCallAt H i m g d o → g ≡ h = λ i m g o at.
    eqb-true g h (not-false (g == h) (sym (ap (λ s. option_map_or (λ k. not (k == h)) s false) (shard_of-call H old.history i m g d o at)) ∙ second.0)) in
    let distinct = subst AreDistinct (sym old.in_order) (documents_distinct H) in
    let lists = lists_after H n h d op docs ls old.lists_size distinct (λ none. no_calls H d (sym (old.shards_found d) ∙ none)) old.lists_found in
    record {
      history = history_after_call H n h d op old.history (place_of-none (is_call n) H fresh) stays within;
      few = longer H (Call h n d op) (when_full_room H second.1);
      calls_found = found_after is_call H (Call h n d op) n calls fs old.calls_found fresh (λ q. refl) updated;
      endings_size = (let size : length es ≡ length H = old.endings_size in simp length-append (omega arith));
      endings_found = endings_after_call H n h d op es old.history fresh old.endings_size old.endings_found;
      endings_within = within_more es H (Call h n d op) old.endings_within;
      shards_found = shards_after H n h d op docs old.shards_found;
      in_order = documents_after H (Call h n d op) docs old.in_order;
      lists_size = lists.0;
      lists_few = (let few : c ≤ length H = old.lists_few in simp length-append (omega arith));
      lists_found = lists.1;
    }

pub reported : (o : Option Op) (f : Op → Option HistFault) → option_map_or f o (Some NoCall) ≡ None → (op : Op) × (o ≡ Some op) × (f op ≡ None)
reported None f h = absurd (none_is_not_some NoCall (sym h))
reported (Some op) f h = (op, refl, h)

pub fitting : (b : Bool) (r : Option HistFault) → (if b then r else Some Kind) ≡ None → (b ≡ true) × (r ≡ None)
fitting true r h = (refl, h)
fitting false r h = absurd (none_is_not_some Kind (sym h))

set_within : (es : List (Option ℕ)) (c k : ℕ) (H : List Event) (x : Event) → k ≡ length H → ((i j : ℕ) → slice_get es i ≡ Some (Some j) → j < length H)
    → (i j : ℕ) → slice_get (slice_set es c (Some k)) i ≡ Some (Some j) → j < length (H ++ x ∷ [])
set_within [] c k H x size within i j at = absurd (none_is_not_some (Some j) at)
set_within (e ∷ es) zero k H x size within zero j at =
    let same : k ≡ j = (let eq : Some (Some k) ≡ Some (Some j) = at in cc) in simp length-append (omega arith)
set_within (e ∷ es) zero k H x size within (suc i) j at = let below : j < length H = within (suc i) j at in simp length-append (omega arith)
set_within (e ∷ es) (suc c) k H x size within zero j at = let below : j < length H = within zero j at in simp length-append (omega arith)
set_within (e ∷ es) (suc c) k H x size within (suc i) j at = set_within es c k H x size (λ a b here. within (suc a) b here) i j at

-- the endings with one more
set_within_more : (es : List (Option ℕ)) (c : ℕ) (H : List Event) (x : Event) → ((i j : ℕ) → slice_get es i ≡ Some (Some j) → j < length H)
    → (i j : ℕ) → slice_get (slice_set es c (Some (length H)) ++ None ∷ []) i ≡ Some (Some j) → j < length (H ++ x ∷ [])
set_within_more es c H x within i j at =
    elim (get_snoc (slice_set es c (Some (length H))) None (Some j) i at) as (λ _. j < length (H ++ x ∷ [])) [
      | inl old ↦ set_within es c (length H) H x refl within i j old
      | inr new ↦ (let impossible : None ≡ Some j = new.1 in absurd (cc))
    ]

set_length : (es : List (Option ℕ)) (c : ℕ) (v : Option ℕ) → length (slice_set es c v) ≡ length es
set_length [] c v = refl
set_length (e ∷ es) zero v = refl
set_length (e ∷ es) (suc c) v = ap suc (set_length es c v)

-- what stays and what comes with an ending of the call at the place
after_ending : (H : List Event) (x : Event) (n c : ℕ) (calls : List (ℕ × ℕ)) (es : List (Option ℕ)) (docs : List (List ℕ × ℕ)) (ls : List (List ℕ)) (m : ℕ) → AreIndexed H calls es docs ls m
    → PassesAt (is_call n) H c → place_of (is_ending n) H ≡ None → ((m : ℕ) → is_call m x ≡ false) → ((m : ℕ) → is_ending m x ≡ (n == m)) → ((d : List ℕ) → is_call_of d x ≡ false)
    → with_event docs x ≡ docs → IsHistory (H ++ x ∷ []) → length (H ++ x ∷ []) ≤ most_events
    → AreIndexed (H ++ x ∷ []) calls (slice_set es c (Some (length H)) ++ None ∷ []) docs ls m
after_ending H x n c calls es docs ls m old call fresh no_call ends no_document kept history few = record {
  history = history;
  few = few;
  calls_found = found_still is_call H x calls old.calls_found no_call;
  endings_size = (let size : length es ≡ length H = old.endings_size in let same : length (slice_set es c (Some (length H))) ≡ length es = set_length es c (Some (length H)) in
      simp length-append (omega arith));
  endings_found = endings_after_ending H x n c es old.history call fresh no_call ends old.endings_size old.endings_found;
  endings_within = set_within_more es c H x old.endings_within;
  shards_found = shards_still H x docs old.shards_found no_document;
  in_order = sym kept ∙ documents_after H x docs old.in_order;
  lists_size = old.lists_size;
  lists_few = (let kept : m ≤ length H = old.lists_few in simp length-append (omega arith));
  lists_found = lists_still H x docs ls no_document old.lists_found;
}

pub indexed_after_ending : (H : List Event) (x : Event) (c : ℕ) (calls : List (ℕ × ℕ)) (es : List (Option ℕ)) (docs : List (List ℕ × ℕ)) (ls : List (List ℕ)) (m : ℕ)
    → AreIndexed H calls es docs ls m → IsEndingOf H c x → refusal_of H x ≡ None
    → AreIndexed (H ++ x ∷ []) calls (slice_set es c (Some (length H)) ++ None ∷ []) docs ls m
indexed_after_ending H (Call h n d op) c calls es docs ls m old ends accepted = absurd ends
indexed_after_ending H (Reply n r) c calls es docs ls m old ends accepted =
    let known = reported (op_of H n) (λ op. when_ended H n (if fits op r then when_full H else Some Kind)) accepted in
    let first = chosen (is_some (place_of (is_ending n) H)) Ended (if fits known.0 r then when_full H else Some Kind) known.2 in
    let second = fitting (fits known.0 r) (when_full H) first.1 in
    let fresh : place_of (is_ending n) H ≡ None = none_from_is_some (place_of (is_ending n) H) first.0 in
    let call = op_of-call H n known.0 known.1 in
    after_ending H (Reply n r) n c calls es docs ls m old ends fresh (λ m. refl) (λ m. refl) (λ d. refl) refl
    (history_after_reply H n call.0 call.1 call.2 known.0 r old.history call.3 (place_of-none (is_ending n) H fresh) second.0)
    (longer H (Reply n r) (when_full_room H second.1))
indexed_after_ending H (Lost n) c calls es docs ls m old ends accepted =
    let known = reported (op_of H n) (λ op. when_ended H n (when_full H)) accepted in
    let first = chosen (is_some (place_of (is_ending n) H)) Ended (when_full H) known.2 in
    let fresh : place_of (is_ending n) H ≡ None = none_from_is_some (place_of (is_ending n) H) first.0 in
    let call = op_of-call H n known.0 known.1 in
    after_ending H (Lost n) n c calls es docs ls m old ends fresh (λ m. refl) (λ m. refl) (λ d. refl) refl
    (history_after_lost H n call.0 call.1 call.2 known.0 old.history call.3 (place_of-none (is_ending n) H fresh))
    (longer H (Lost n) (when_full_room H first.1))

-- the same as the code meets it: the parts after the event, by what they are
-- entries that are found alike serve as well
pub indexed_alike : (H : List Event) (calls fs : List (ℕ × ℕ)) (es : List (Option ℕ)) (docs : List (List ℕ × ℕ)) (ls : List (List ℕ)) (m : ℕ)
    → AreIndexed H calls es docs ls m → AreFoundAlike calls fs → AreIndexed H fs es docs ls m
indexed_alike H calls fs es docs ls m old alike = record {
  history = old.history;
  few = old.few;
  calls_found = λ n. alike n ∙ old.calls_found n;
  endings_size = old.endings_size;
  endings_found = old.endings_found;
  endings_within = old.endings_within;
  shards_found = old.shards_found;
  in_order = old.in_order;
  lists_size = old.lists_size;
  lists_few = old.lists_few;
  lists_found = old.lists_found;
}

pub indexed_by_call : (H : List Event) (calls : List (ℕ × ℕ)) (es : List (Option ℕ)) (docs : List (List ℕ × ℕ)) (ls : List (List ℕ)) (m n h : ℕ) (d : List ℕ) (op : Op)
    (G : List Event) (fs : List (ℕ × ℕ)) (es' : List (Option ℕ)) (docs' : List (List ℕ × ℕ)) (ls' : List (List ℕ)) (m' : ℕ) → AreIndexed H calls es docs ls m
    → refusal_of H (Call h n d op) ≡ None → h < most_shards → IsNotedAt n (length H) calls fs → G ≡ H ++ Call h n d op ∷ [] → es' ≡ es ++ None ∷ []
    → docs' ≡ with_document docs d h → ls' ≡ with_listed docs ls d (length H) → m' ≡ m + 1 → AreIndexed G fs es' docs' ls' m'
indexed_by_call H calls es docs ls m n h d op G fs es' docs' ls' m' old accepted within updated grown ended documented listed counted =
    subst (λ x. AreIndexed x fs es' docs' ls' m') (sym grown)
    (subst (λ x. AreIndexed (H ++ Call h n d op ∷ []) fs x docs' ls' m') (sym ended)
    (subst (λ x. AreIndexed (H ++ Call h n d op ∷ []) fs (es ++ None ∷ []) x ls' m') (sym documented)
    (subst (λ x. AreIndexed (H ++ Call h n d op ∷ []) fs (es ++ None ∷ []) (with_document docs d h) x m') (sym listed)
    (subst (λ x. AreIndexed (H ++ Call h n d op ∷ []) fs (es ++ None ∷ []) (with_document docs d h) (with_listed docs ls d (length H)) x) (sym counted)
    (indexed_after_call H calls fs es docs ls m n h d op old accepted within updated)))))

pub indexed_by_ending : (H : List Event) (x : Event) (c : ℕ) (calls : List (ℕ × ℕ)) (es : List (Option ℕ)) (docs : List (List ℕ × ℕ)) (ls : List (List ℕ)) (m : ℕ)
    (G : List Event) (es' : List (Option ℕ)) → AreIndexed H calls es docs ls m → IsEndingOf H c x → refusal_of H x ≡ None
    → G ≡ H ++ x ∷ [] → es' ≡ slice_set es c (Some (length H)) ++ None ∷ [] → AreIndexed G calls es' docs ls m
indexed_by_ending H x c calls es docs ls m G es' old ends accepted grown ended =
    subst (λ y. AreIndexed y calls es' docs ls m) (sym grown)
    (subst (λ y. AreIndexed (H ++ x ∷ []) calls y docs ls m) (sym ended) (indexed_after_ending H x c calls es docs ls m old ends accepted))
