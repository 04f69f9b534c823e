-- The replies of a history, and where its events are legal in response order.
use Rattle.std.proofs.Common.{ℕ, ◌≡◌, ◌<◌, ◌≤◌, ◌+◌, ◌-◌, ◌++◌, List, [], ◌∷◌, length, refl, sym, ap, subst, ◌∙◌, inl, inr, arith, Some, slice_get}
use Rattle.std.proofs.lemmas.Bool.{cases_lt}
use Rattle.std.proofs.lemmas.Option.{slice_get_within}
use Rattle.doc_register.specs.declared.reply.Reply.{Reply as Answer}
use Rattle.doc_register.specs.declared.state.Conflicts.{Conflicts}
use Rattle.doc_register.specs.Run.{start}
use Rattle.events.specs.declared.event.Event.{Event}
use Rattle.events.specs.declared.event.Event.TheVariants.{Call, Reply, Lost}
use Rattle.events.specs.Events.{IsHistory, IsReplyAt, prefix}
use Rattle.events.specs.Order.{IsLegalInResponseOrder}
use Rattle.events.specs.Laws.{LateCallsChangeNothing}
use Rattle.version_pair.proofs.ListLemmas.{get_front, get_snoc, none_is_not_some}
use Rattle.compose.specs.aids.Replies.{AreReplies, IsReplyPlace, IsWrongFrom, IsWrongUnlessFound, places_with}
use Rattle.compose.specs.aids.Searched.{IsSearchOutcome}
use Rattle.compose.specs.declared.checking.SearchOutcome.{SearchOutcome}
use Rattle.compose.specs.declared.checking.SearchOutcome.TheVariants.{Found as Explained, NotFound as Unexplained}

-- one event more that is no reply
passed_over : (events : List Event) (n : ℕ) (places : List ℕ) → AreReplies events n places → (IsReplyPlace events n → ⊥) → AreReplies events (n + 1) places
passed_over events n places are other = record {
  each = λ i p at. let e = are.each i p at in let below : p < n = e.1 in (e.0, omega arith);
  all = λ p below is. elim (cases_lt p n) as (λ _. (i : ℕ) × (slice_get places i ≡ Some p)) [
    | inl before ↦ are.all p before is
    | inr late ↦ (let here : p ≡ n = omega arith in absurd (other (subst (IsReplyPlace events) here is)))
  ];
  rise = are.rise;
}

-- one that is
one_more_reply : (events : List Event) (n : ℕ) (places : List ℕ) → AreReplies events n places → IsReplyPlace events n → AreReplies events (n + 1) (places ++ n ∷ [])
one_more_reply events n places are is = record { each = each; all = all; rise = rise } where
  each : (i p : ℕ) → slice_get (places ++ n ∷ []) i ≡ Some p → IsReplyPlace events p × (p < n + 1)
  each i p at = elim (get_snoc places n p i at) as (λ _. IsReplyPlace events p × (p < n + 1)) [
    | inl old ↦ (let e = are.each i p old in let below : p < n = e.1 in (e.0, omega arith))
    | inr new ↦ (let here : n ≡ p = new.1 in (subst (IsReplyPlace events) here is, omega arith))
  ]

  last_at : (xs : List ℕ) → slice_get (xs ++ n ∷ []) (length xs) ≡ Some n
  last_at [] = refl
  last_at (x ∷ xs) = last_at xs

  all : (p : ℕ) → p < n + 1 → IsReplyPlace events p → (i : ℕ) × (slice_get (places ++ n ∷ []) i ≡ Some p)
  all p below reply = elim (cases_lt p n) as (λ _. (i : ℕ) × (slice_get (places ++ n ∷ []) i ≡ Some p)) [
    | inl before ↦ (let a = are.all p before reply in (a.0, get_front places (n ∷ []) a.0 p a.1))
    | inr late ↦ (let here : n ≡ p = omega arith in (length places, last_at places ∙ ap (λ x. Some x) here))
  ]

  rise : (i j p q : ℕ) → slice_get (places ++ n ∷ []) i ≡ Some p → slice_get (places ++ n ∷ []) j ≡ Some q → i ≤ j → p ≤ q
  rise i j p q at bt before = elim (get_snoc places n p i at) as (λ _. p ≤ q) [
    | inl old ↦ elim (get_snoc places n q j bt) as (λ _. p ≤ q) [
      | inl also ↦ are.rise i j p q old also before
      | inr new ↦ (let e = (are.each i p old).1 in let here : n ≡ q = new.1 in let below : p < n = e in omega arith)
    ]
    | inr last ↦ elim (get_snoc places n q j bt) as (λ _. p ≤ q) [
      | inl also ↦ (let within : j < length places = slice_get_within places j q also in let end : i ≡ length places = last.0 in absurd (omega arith))
      | inr new ↦ (let one : n ≡ p = last.1 in let other : n ≡ q = new.1 in omega arith)
    ]
  ]

-- one event more
pub next_event : (events : List Event) (n : ℕ) (places : List ℕ) (e : Event) → AreReplies events n places → slice_get events n ≡ Some e → AreReplies events (n + 1) (places_with e n places)
next_event events n places (Call h m d op) are at = passed_over events n places are (λ (k, r, is). let other : Some (Call h m d op) ≡ Some (Reply k r) = sym at ∙ is in absurd (cc))
next_event events n places (Reply m r) are at = one_more_reply events n places are (m, r, at)
next_event events n places (Lost m) are at = passed_over events n places are (λ (k, r, is). let other : Some (Lost m) ≡ Some (Reply k r) = sym at ∙ is in absurd (cc))

-- where a history is not legal in response order its events up to its last reply are not
pub wrong_from_last : (events : List Event) (places : List ℕ) → LateCallsChangeNothing → IsHistory events → AreReplies events (length events) places → (IsLegalInResponseOrder events → ⊥)
    → IsWrongFrom events places (length places - 1)
wrong_from_last events places late history are wrong p at right =
    wrong (late events (p + 1) history early right) where
      early : (k m : ℕ) (r : Answer) → IsReplyAt events k m r → k < p + 1
      early k m r reply =
          let a = are.all k (slice_get_within events k _ reply) (m, r, reply) in
          let within : a.0 < length places = slice_get_within places a.0 k a.1 in
          let last : k ≤ p = are.rise a.0 (length places - 1) k p a.1 at (omega arith) in
          omega arith

-- and it has one
pub some_reply : (events : List Event) (places : List ℕ) → LateCallsChangeNothing → IsHistory events → AreReplies events (length events) places → (IsLegalInResponseOrder events → ⊥) → 0 < length places
some_reply events (p ∷ places) late history are wrong = omega arith
some_reply events [] late history are wrong = absurd (wrong (late events 0 history none nothing)) where
  none : (k m : ℕ) (r : Answer) → IsReplyAt events k m r → k < 0
  none k m r reply = let a = are.all k (slice_get_within events k _ reply) (m, r, reply) in absurd (none_is_not_some k a.1)

  nothing : IsLegalInResponseOrder (prefix events 0)
  nothing = (start, refl)

-- events for which no order is found are not legal in response order
pub outcome_wrong : (conflicts : Conflicts) (events : List Event) (p : ℕ) (found : SearchOutcome) → IsSearchOutcome conflicts (prefix events (p + 1)) found → IsWrongUnlessFound events p found
outcome_wrong conflicts events p Explained is = tt
outcome_wrong conflicts events p (Unexplained place) is = is.not_right
