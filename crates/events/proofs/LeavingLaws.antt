-- An order that explains a history, without a call that changes nothing.
use Rattle.std.proofs.Common.{ℕ, zero, suc, ◌≡◌, ◌<◌, List, [], ◌∷◌, ◌++◌, refl, sym, ap, subst, ◌∙◌, inl, inr, arith, Some, slice_get, ◌⊎◌}
use Rattle.std.proofs.lemmas.List.{map-append}
use Rattle.doc_register.specs.declared.reply.Reply.{Reply as Answer}
use Rattle.doc_register.specs.Laws.{ChangesNothing}
use Rattle.doc_register.specs.Run.{Entry, IsLegalRun}
use Rattle.doc_register.proofs.RunLaws.{leaving_out}
use Rattle.events.specs.Events.{IsReplyAt}
use Rattle.events.specs.Order.{Placed, run_of}
use Rattle.events.specs.Laws.{UnansweredLeftOut}
use Rattle.version_pair.proofs.ListLemmas.{same_some}

-- the place, in the list with one more element after the front, of what stands at a place of the list without it
abbrev moved : {X : Type 0} → List X → ℕ → ℕ
moved [] i = suc i
moved (x ∷ xs) zero = zero
moved (x ∷ xs) (suc i) = suc (moved xs i)

get_moved : {X : Type 0} (front back : List X) (p : X) (i : ℕ) → slice_get (front ++ p ∷ back) (moved front i) ≡ slice_get (front ++ back) i
get_moved [] back p i = refl
get_moved (x ∷ front) back p zero = refl
get_moved (x ∷ front) back p (suc i) = get_moved front back p i

moved_order : {X : Type 0} (front : List X) (i j : ℕ) → moved front i < moved front j → i < j
moved_order [] i j h = omega arith
moved_order (x ∷ front) zero zero h = h
moved_order (x ∷ front) zero (suc j) h = omega arith
moved_order (x ∷ front) (suc i) zero h = absurd (omega arith)
moved_order (x ∷ front) (suc i) (suc j) h = let below : i < j = moved_order front i j (omega arith) in omega arith

moved_once : {X : Type 0} (front : List X) (i j : ℕ) → moved front i ≡ moved front j → i ≡ j
moved_once [] i j h = omega arith
moved_once (x ∷ front) zero zero h = refl
moved_once (x ∷ front) zero (suc j) h = absurd (omega arith)
moved_once (x ∷ front) (suc i) zero h = absurd (omega arith)
moved_once (x ∷ front) (suc i) (suc j) h = ap suc (moved_once front i j (omega arith))

-- what stands in the list with one more element is that element, or stands in the list without it
stays : {X : Type 0} (front back : List X) (p q : X) (k : ℕ) → slice_get (front ++ p ∷ back) k ≡ Some q → (p ≡ q) ⊎ ((i : ℕ) × (slice_get (front ++ back) i ≡ Some q))
stays [] back p q zero at = inl (same_some p q at)
stays [] back p q (suc k) at = inr (k, at)
stays (x ∷ front) back p q zero at = inr (zero, at)
stays {X} (x ∷ front) back p q (suc k) at = further (stays front back p q k at) where
  further : (p ≡ q) ⊎ ((i : ℕ) × (slice_get (front ++ back) i ≡ Some q)) → (p ≡ q) ⊎ ((i : ℕ) × (slice_get (x ∷ front ++ back) i ≡ Some q))
  further (inl same) = inl same
  further (inr (i, there)) = inr (suc i, there)

legal_without : (front back : List Placed) (p : Placed) → ChangesNothing p.entry → IsLegalRun (run_of (front ++ p ∷ back)) → IsLegalRun (run_of (front ++ back))
legal_without front back p nothing legal =
    let entry : Placed → Entry = λ q. q.entry in
    subst IsLegalRun (sym (map-append entry front back)) (
    leaving_out (run_of front) (run_of back) p.entry nothing (subst IsLegalRun (map-append entry front (p ∷ back)) legal)
    )

pub unanswered_left_out : UnansweredLeftOut
unanswered_left_out conflicts H front back p pending nothing explains = record {
  is_order = record {
    calls = λ i q at. explains.is_order.calls (moved front i) q (get_moved front back p i ∙ at);
    once = λ i j q r at bt same.
        moved_once front i j (explains.is_order.once (moved front i) (moved front j) q r (get_moved front back p i ∙ at) (get_moved front back p j ∙ bt) same);
    answered = λ k n r at. found k n r at (explains.is_order.answered k n r at);
    plain = λ conflicts_is i q at. explains.is_order.plain conflicts_is (moved front i) q (get_moved front back p i ∙ at);
  };
  respects = λ i j q r at bt first.
      moved_order front i j (explains.respects (moved front i) (moved front j) q r (get_moved front back p i ∙ at) (get_moved front back p j ∙ bt) first);
  legal = legal_without front back p nothing explains.legal;
} where
  found : (k n : ℕ) (r : Answer) → IsReplyAt H k n r
      → (i : ℕ) × (q : Placed) × (slice_get (front ++ p ∷ back) i ≡ Some q) × (q.no ≡ n) × (q.entry.reply ≡ r)
      → (i : ℕ) × (q : Placed) × (slice_get (front ++ back) i ≡ Some q) × (q.no ≡ n) × (q.entry.reply ≡ r)
  found k n r at (i, q, here, number, reply) =
      elim (stays front back p q i here) as (λ _. (i : ℕ) × (q : Placed) × (slice_get (front ++ back) i ≡ Some q) × (q.no ≡ n) × (q.entry.reply ≡ r)) [
        | inl same ↦ absurd (pending.unanswered k r (subst (λ m. IsReplyAt H k m r) (sym (ap (λ (x : Placed). x.no) same ∙ number)) at))
        | inr there ↦ (there.0, q, there.1, number, reply)
      ]
