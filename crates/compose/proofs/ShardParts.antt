-- The part of a history that concerns a shard: which calls and replies stand in it, and that the parts split the history.
use Rattle.std.proofs.Common.{ℕ, suc, ◌≡◌, ◌<◌, List, [], ◌∷◌, refl, sym, ap, subst, ◌∙◌, arith, Bool, true, false, Some, slice_get}
use Rattle.std.specs.Prelude.{◌&&◌, ◌||◌, ◌==◌}
use Rattle.std.specs.List.{list_any}
use Rattle.std.proofs.lemmas.Bool.{eq-eqb, eqb-true, false≢true}
use Rattle.std.proofs.lemmas.Map.Keys.{any_passes_from_place}
use Rattle.doc_register.specs.declared.op.Op.{Op}
use Rattle.doc_register.specs.declared.reply.Reply.{Reply as Answer}
use Rattle.events.specs.declared.event.Event.{Event}
use Rattle.events.specs.declared.event.Event.TheVariants.{Call, Reply, Lost}
use Rattle.events.specs.Events.{IsCallAt, IsHistory, IsReplyAt, PassesAt, Precedes, is_call, is_ending}
use Rattle.events.proofs.HistoryLemmas.{call_at, call_passes, reply_passes}
use Rattle.version_pair.proofs.ListLemmas.{compare}
use Rattle.compose.specs.Shards.{IsSplitByShard, concerns, is_call_on, part_of_shard}
use Rattle.evidence.proofs.CallsByNumber.{same_shard}
use Rattle.evidence.proofs.FilterLemmas.{kept_order}
use Rattle.compose.proofs.Filtering.{filter_none, part_from, rank, rank_at, rank_rises, ranked_from}
use Rattle.events.proofs.EventLemmas.{element_passes, passes_element}
use Rattle.version_pair.proofs.TruthLemmas.{both}

-- ---- calls on a shard

-- an event that is found is the call
call_on : (x : Event) (h n : ℕ) → is_call_on h n x ≡ true → (d : List ℕ) × (op : Op) × (x ≡ Call h n d op)
call_on (Call g m d op) h n is =
    let parts = both (m == n) (g == h) is in
    (d, op, ap (λ k. Call g k d op) (eqb-true m n parts.0) ∙ ap (λ k. Call k n d op) (eqb-true g h parts.1))
call_on (Reply m r) h n is = absurd (false≢true is)
call_on (Lost m) h n is = absurd (false≢true is)

-- the call with the number is on the shard
abbrev IsFoundOn : List Event → ℕ → ℕ → Type 0
IsFoundOn xs h n = (j : ℕ) × (d : List ℕ) × (op : Op) × IsCallAt xs j n h d op

-- where the test of the part passes, the call is found
found_on : (xs : List Event) (h n : ℕ) → list_any (is_call_on h n) xs ≡ true → IsFoundOn xs h n
found_on [] h n some = absurd (false≢true some)
found_on (x ∷ xs) h n some = by_test (is_call_on h n x) refl some (found_on xs h n) where
  by_test : (b : Bool) → is_call_on h n x ≡ b → (b || list_any (is_call_on h n) xs) ≡ true → (list_any (is_call_on h n) xs ≡ true → IsFoundOn xs h n) → IsFoundOn (x ∷ xs) h n
  by_test true is some later = let own = call_on x h n is in (0, own.0, own.1, ap (λ y. Some y) own.2)
  by_test false is some later = let found = later some in (suc found.0, found.1, found.2, found.3)

-- a call on the shard is found
pub has_call : (events : List Event) (i n h : ℕ) (d : List ℕ) (op : Op) → IsCallAt events i n h d op → list_any (is_call_on h n) events ≡ true
has_call events i n h d op at =
    any_passes_from_place (is_call_on h n) events i (Call h n d op) at (ap (λ b. b && (h == h)) (eq-eqb n n refl) ∙ eq-eqb h h refl)

-- a call whose number is that of one on the shard is on the shard
pub on_shard : (events : List Event) → IsHistory events → (h i n g : ℕ) (d : List ℕ) (op : Op) → IsCallAt events i n g d op → list_any (is_call_on h n) events ≡ true → g ≡ h
on_shard events history h i n g d op at some =
    let found = found_on events h n some in
    let place : i ≡ found.0 = history.called_once n i found.0 (call_passes events i n g d op at) (call_passes events found.0 n h found.1 found.2 found.3) in
    same_shard events found.0 n n g h d found.1 op found.2 (subst (λ k. IsCallAt events k n g d op) place at) found.3

-- ---- what stands in the part

-- a call of the part is one of the history, on the shard
pub part_call : (events : List Event) (h i n g : ℕ) (d : List ℕ) (op : Op) → IsCallAt (part_of_shard h events) i n g d op → (k : ℕ) × IsCallAt events k n g d op × (g ≡ h)
part_call events h i n g d op at =
    let from = part_from (concerns h events) events i (Call g n d op) at in
    (from.0, from.1, eqb-true g h from.2)

-- a call on the shard stands in the part
pub call_in_part : (events : List Event) (h k n : ℕ) (d : List ℕ) (op : Op) → IsCallAt events k n h d op → IsCallAt (part_of_shard h events) (rank (concerns h events) events k) n h d op
call_in_part events h k n d op at = rank_at (concerns h events) events k (Call h n d op) at (eq-eqb h h refl)

-- a reply of the part is one of the history, to a call on the shard
pub part_reply : (events : List Event) (h i n : ℕ) (r : Answer) → IsReplyAt (part_of_shard h events) i n r → (k : ℕ) × IsReplyAt events k n r × (list_any (is_call_on h n) events ≡ true)
part_reply events h i n r at = part_from (concerns h events) events i (Reply n r) at

-- a reply to a call on the shard stands in the part
pub reply_in_part : (events : List Event) (h k n : ℕ) (r : Answer) → IsReplyAt events k n r → list_any (is_call_on h n) events ≡ true
    → IsReplyAt (part_of_shard h events) (rank (concerns h events) events k) n r
reply_in_part events h k n r at some = rank_at (concerns h events) events k (Reply n r) at some

-- ---- places

-- what passes tests at two places of the part does so at two places of the history, in the same order
passes_in_order : (t u : Event → Bool) (events : List Event) (h i j : ℕ) → i < j → PassesAt t (part_of_shard h events) i → PassesAt u (part_of_shard h events) j
    → (k l : ℕ) × (k < l) × PassesAt t events k × PassesAt u events l
passes_in_order t u events h i j less p q =
    let x = passes_element t (part_of_shard h events) i p in
    let y = passes_element u (part_of_shard h events) j q in
    let m = kept_order (concerns h events) events i j x.0 y.0 less x.1 y.1 in
    (m.0, m.1, m.2, element_passes t events m.0 x.0 m.3.at x.2, element_passes u events m.1 y.0 m.4.at y.2)

-- a test that passes at one place of the history passes at one of the part
once_in_part : (t : Event → Bool) (events : List Event) (h : ℕ) → ((k l : ℕ) → PassesAt t events k → PassesAt t events l → k ≡ l)
    → (i j : ℕ) → PassesAt t (part_of_shard h events) i → PassesAt t (part_of_shard h events) j → i ≡ j
once_in_part t events h once i j p q = compare i j (apart i j p q) (apart j i q p) where
  apart : (i j : ℕ) → PassesAt t (part_of_shard h events) i → PassesAt t (part_of_shard h events) j → i < j → ⊥
  apart i j p q less =
      let m = passes_in_order t t events h i j less p q in
      let below : m.0 < m.1 = m.2 in
      let same : m.0 ≡ m.1 = once m.0 m.1 m.3 m.4 in
      omega arith

-- an ending that concerns the shard is of a call on it
ending_on : (h : ℕ) (events : List Event) (e : Event) (n : ℕ) → is_ending n e ≡ true → concerns h events e ≡ true → list_any (is_call_on h n) events ≡ true
ending_on h events (Call g m d op) n is concerned = absurd (false≢true is)
ending_on h events (Reply m r) n is concerned = subst (λ k. list_any (is_call_on h k) events ≡ true) (eqb-true m n is) concerned
ending_on h events (Lost m) n is concerned = subst (λ k. list_any (is_call_on h k) events ≡ true) (eqb-true m n is) concerned

-- an ending stands after its call in the part too
ended_after : (events : List Event) (h : ℕ) → IsHistory events → (n i : ℕ) → PassesAt (is_ending n) (part_of_shard h events) i
    → (j : ℕ) × (j < i) × PassesAt (is_call n) (part_of_shard h events) j
ended_after events h history n i p =
    let e = passes_element (is_ending n) (part_of_shard h events) i p in
    let from = ranked_from (concerns h events) events i e.0 e.1 in
    let c = history.ended_after_call n from.0 (element_passes (is_ending n) events from.0 e.0 from.1 e.2) in
    let call = call_at events c.0 n c.2 in
    let shard : call.0 ≡ h = on_shard events history h c.0 n call.0 call.1 call.2 call.3 (ending_on h events e.0 n e.2 from.2) in
    let own : IsCallAt events c.0 n h call.1 call.2 = subst (λ g. IsCallAt events c.0 n g call.1 call.2) shard call.3 in
    let rises : rank (concerns h events) events c.0 < rank (concerns h events) events from.0 =
    rank_rises (concerns h events) events c.0 from.0 (Call h n call.1 call.2) c.1 own (eq-eqb h h refl) in (
      rank (concerns h events) events c.0,
      subst (λ k. rank (concerns h events) events c.0 < k) from.3 rises,
      call_passes (part_of_shard h events) (rank (concerns h events) events c.0) n h call.1 call.2 (call_in_part events h c.0 n call.1 call.2 own),
    )

-- the part is a history
part_history : (events : List Event) (h : ℕ) → IsHistory events → IsHistory (part_of_shard h events)
part_history events h history = record {
  called_once = λ n i j p q. once_in_part (is_call n) events h (history.called_once n) i j p q;
  ended_once = λ n i j p q. once_in_part (is_ending n) events h (history.ended_once n) i j p q;
  ended_after_call = ended_after events h history;
  replies_fit = λ n i j g d op r reply call.
      let a = part_reply events h i n r reply in
      let b = part_call events h j n g d op call in
      history.replies_fit n a.0 b.0 g d op r a.1 b.1;
  one_shard = λ i j n m g k d op o at bt.
      let a = part_call events h i n g d op at in
      let b = part_call events h j m k d o bt in
      history.one_shard a.0 b.0 n m g k d op o a.1 b.1;
  shards = λ i n g d op at. let a = part_call events h i n g d op at in history.shards a.0 n g d op a.1;
}

-- ---- the split

-- the one shard that an event concerns
abbrev ConcernsOne : List Event → Event → Type 0
ConcernsOne events e = (h : ℕ) × (concerns h events e ≡ true) × ((g : ℕ) → concerns g events e ≡ true → g ≡ h)

-- an ending concerns the shard of its call
ending_one : (events : List Event) → IsHistory events → (i n : ℕ) → PassesAt (is_ending n) events i
    → (h : ℕ) × (list_any (is_call_on h n) events ≡ true) × ((g : ℕ) → list_any (is_call_on g n) events ≡ true → g ≡ h)
ending_one events history i n passes =
    let c = history.ended_after_call n i passes in
    let call = call_at events c.0 n c.2 in (
      call.0,
      has_call events c.0 n call.0 call.1 call.2 call.3,
      λ g some. sym (on_shard events history g c.0 n call.0 call.1 call.2 call.3 some),
    )

-- each event concerns one
concerns_one : (events : List Event) → IsHistory events → (i : ℕ) (e : Event) → slice_get events i ≡ Some e → ConcernsOne events e
concerns_one events history i (Call h n d op) at = (h, eq-eqb h h refl, λ g is. sym (eqb-true h g is))
concerns_one events history i (Reply n r) at = ending_one events history i n (reply_passes events i n r at)
concerns_one events history i (Lost n) at = ending_one events history i n (element_passes (is_ending n) events i (Lost n) at (eq-eqb n n refl))

-- an event that concerns a shard is a call on it, or the ending of one
concerned_call : (events : List Event) (h i : ℕ) (e : Event) → slice_get events i ≡ Some e → concerns h events e ≡ true → (n : ℕ) × IsFoundOn events h n
concerned_call events h i (Call g n d op) at is = (n, (i, d, op, subst (λ k. IsCallAt events i n k d op) (eqb-true g h is) at))
concerned_call events h i (Reply n r) at is = (n, found_on events h n is)
concerned_call events h i (Lost n) at is = (n, found_on events h n is)

-- so a shard without a call has no event
part_empty : (events : List Event) (h : ℕ) → ((i n : ℕ) (d : List ℕ) (op : Op) → ¬ IsCallAt events i n h d op) → part_of_shard h events ≡ []
part_empty events h none = filter_none (concerns h events) events (λ i e at. by_test i e at (concerns h events e) refl) where
  by_test : (i : ℕ) (e : Event) → slice_get events i ≡ Some e → (b : Bool) → concerns h events e ≡ b → concerns h events e ≡ false
  by_test i e at true is = let found = concerned_call events h i e at is in absurd (none found.1.0 found.0 found.1.1 found.1.2 found.1.3)
  by_test i e at false is = is

-- a history is split into the parts of its shards
pub split_by_shard : (events : List Event) → IsHistory events → IsSplitByShard events
split_by_shard events history = record {
  one = concerns_one events history;
  history = λ h. part_history events h history;
  empty = part_empty events;
}

-- ---- precedence

-- where a call precedes another in the part it does so in the history
pub part_precedes : (events : List Event) (h a b : ℕ) → Precedes (part_of_shard h events) a b → Precedes events a b
part_precedes events h a b first =
    let r = first.reply in
    let c = passes_element (is_call b) (part_of_shard h events) first.called first.call in
    let m = kept_order (concerns h events) events first.answered first.called (Reply a r.0) c.0 first.before r.1 c.1 in
    record { answered = m.0; called = m.1; before = m.2; reply = (r.0, m.3.at); call = element_passes (is_call b) events m.1 c.0 m.4.at c.2 }

-- and where a reply to a call on the shard stands before another call on it, it does so in the part
pub precedes_in_part : (events : List Event) (h a b i j : ℕ) (r : Answer) (d : List ℕ) (op : Op) → i < j → IsReplyAt events i a r → list_any (is_call_on h a) events ≡ true
    → IsCallAt events j b h d op → Precedes (part_of_shard h events) a b
precedes_in_part events h a b i j r d op less reply some call = record {
  answered = rank (concerns h events) events i;
  called = rank (concerns h events) events j;
  before = rank_rises (concerns h events) events i j (Reply a r) less reply some;
  reply = (r, reply_in_part events h i a r reply some);
  call = call_passes (part_of_shard h events) (rank (concerns h events) events j) b h d op (call_in_part events h j b d op call);
}
