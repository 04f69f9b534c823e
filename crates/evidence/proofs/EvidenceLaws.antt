-- Evidence that holds in a history leaves it no order.
use Rattle.std.proofs.Common.{ℕ, ◌≡◌, ◌<◌, ◌⊎◌, inl, inr, List, refl, sym, ap, subst, ◌∙◌, arith, Option, Some, None, option_and_then, slice_get}
use Rattle.std.proofs.lemmas.Bool.{cases_lt}
use Rattle.version_pair.specs.declared.pair.Pair.{Pair}
use Rattle.version_pair.specs.PairOrder.{IsBelow}
use Rattle.doc_register.specs.declared.op.Op.{Op}
use Rattle.doc_register.specs.declared.reply.Reply.{Reply as Answer}
use Rattle.doc_register.specs.declared.reply.Reply.TheVariants.{Indexed, Found, Conflict}
use Rattle.doc_register.specs.declared.state.Conflicts.{Conflicts}
use Rattle.doc_register.specs.declared.state.Conflicts.TheVariants.{Plain, Maybe}
use Rattle.doc_register.specs.declared.state.DocState.{DocState}
use Rattle.doc_register.specs.declared.state.DocState.TheVariants.{Never, Gone, Here}
use Rattle.doc_register.specs.Register.{DocStep, HasPair, Performs, condition_of, value_of}
use Rattle.doc_register.specs.Run.{Entry, IsLegalRun, pair_taken, start, taken, taken_at}
use Rattle.doc_register.proofs.RunLemmas.{AtMost, below_new, not_below_itself, not_both_below, step_kind, taken_of}
use Rattle.doc_register.proofs.RunLaws.{no_pair_twice, pair_performs}
use Rattle.events.specs.declared.event.Event.{Event}
use Rattle.events.specs.Events.{IsCallAt, IsHistory, Precedes, heard_of}
use Rattle.events.specs.Order.{IsLinearizable, IsOfCall, Placed, run_of}
use Rattle.version_pair.proofs.ListLemmas.{mapped_from, none_is_not_some, same_some}
use Rattle.evidence.specs.Evidence.{EvidenceRefutes, HasNoWriter, IsPairTwice, IsStaleGet, IsStaleSwap, MayTake}
use Rattle.evidence.specs.declared.refuted.Refuted.TheVariants as evidence
use Rattle.evidence.proofs.EarlierSteps.{GivesNumber, IsGivenBefore, StepsAbove, above_taken, steps_from}
use Rattle.evidence.proofs.HeardLemmas.{heard_is_reply}
use Rattle.evidence.proofs.MissedWrites.{missed_write}
use Rattle.evidence.proofs.PlacedCalls.{IsPlaced, IsPlacedWith, in_time, placed, placed_with, replied_so}
use Rattle.deciding.proofs.WalkLaws.{ruled_out_have_no_order}
use Rattle.deciding.proofs.DocumentSteps.{meets}
use Rattle.deciding.proofs.ReportedStates.{found_has}

-- ---- a pair twice

pair_twice : (conflicts : Conflicts) (events : List Event) (a b : ℕ) → IsHistory events → IsPairTwice events a b → ¬ IsLinearizable conflicts events
pair_twice conflicts events a b history twice (order, explains) =
    let one = placed_with conflicts events order history explains a twice.doc twice.pair twice.one in
    let two = placed_with conflicts events order history explains b twice.other twice.pair twice.two in
    let q : ℕ × Pair = (twice.one.shard, twice.pair) in
    let same : one.own.place ≡ two.own.place = no_pair_twice (run_of order) explains.legal one.own.place two.own.place q
    (takes_at order one.own.place one.own.placed.entry twice.one.shard twice.pair one.own.entry one.own.shard one.takes)
    (takes_at order two.own.place two.own.placed.entry twice.one.shard twice.pair two.own.entry (two.own.shard ∙ sym twice.same_shard) two.takes) in
    let call : one.own.placed ≡ two.own.placed = same_some one.own.placed two.own.placed (sym one.own.at ∙ (ap (slice_get order) same ∙ two.own.at)) in
    twice.apart (sym one.own.number ∙ (ap (λ (p : Placed). p.no) call ∙ two.own.number)) where
      takes_at : (order : List Placed) (i : ℕ) (e : Entry) (h : ℕ) (q : Pair) → slice_get (run_of order) i ≡ Some e → e.shard ≡ h → pair_taken e.reply e.hidden ≡ Some q
          → taken_at (run_of order) i ≡ Some (h, q)
      takes_at order i e h q at shard takes =
          ap (λ o. option_and_then taken o) at ∙ (taken_of e (Some q) takes ∙ ap (λ g. Some (g, q)) shard)

-- ---- a stale get

-- no pair below one that the document has at least is its pair
not_lower : (p q : Pair) (x : DocState) → AtMost q x → HasPair x p → IsBelow p q → ⊥
not_lower p q Never most has below = absurd most
not_lower p q (Gone r) most has below = absurd has
not_lower p q (Here r k) (inl same) has below = not_below_itself p (subst (IsBelow p) (same ∙ has) below)
not_lower p q (Here r k) (inr above) has below = not_both_below p q below (subst (IsBelow q) has above)

-- where one call precedes another that is placed, it stands first
stale_get : (conflicts : Conflicts) (events : List Event) (g w : ℕ) → IsHistory events → IsStaleGet events g w → ¬ IsLinearizable conflicts events
stale_get conflicts events g w history stale (order, explains) =
    let get = placed conflicts events order history explains stale.get.called g stale.get.shard stale.replied stale.doc stale.get.op (Found stale.found stale.number) stale.get.call stale.get.heard in
    let write = placed_with conflicts events order history explains w stale.doc stale.pair stale.write in
    let first : write.own.place < get.place =
    explains.respects write.own.place get.place write.own.placed get.placed write.own.at get.at
    (subst (λ n. Precedes events n get.placed.no) (sym write.own.number) (subst (λ n. Precedes events w n) (sym get.number) stale.first)) in
    let above = above_taken (run_of order) start explains.legal.0 explains.legal.1 write.own.place get.place write.own.placed.entry get.placed.entry stale.pair first
    write.own.entry get.entry (write.own.doc ∙ sym get.doc) write.takes in
    let here = found_has above.before get.placed.entry.op get.placed.entry.hidden above.after stale.found stale.number
    (subst (λ r. DocStep above.before get.placed.entry.op r get.placed.entry.hidden above.after) get.reply above.step) in
    not_lower stale.found stale.pair above.before above.most (subst (λ x. HasPair x stale.found) (sym here) refl) stale.below

-- ---- a stale swap

-- of two performed writes of one document that which stands first has the lesser pair
lesser_first : (order : List Placed) (a b h g : ℕ) (d : List ℕ) (op o : Op) (q r : Pair) → IsLegalRun (run_of order) → (one : IsPlacedWith order a h d op q) (two : IsPlacedWith order b g d o r)
    → two.own.place < one.own.place → IsBelow r q
lesser_first order a b h g d op o q r legal one two before =
    let above = above_taken (run_of order) start legal.0 legal.1 two.own.place one.own.place two.own.placed.entry one.own.placed.entry r before
    two.own.entry one.own.entry (two.own.doc ∙ sym one.own.doc) two.takes in
    below_new r q above.before above.most (performed one.own.placed.entry above q one.takes).rises where
      performed : (e : Entry) (s : StepsAbove r e) (q : Pair) → pair_taken e.reply e.hidden ≡ Some q → Performs s.before e.op q s.after
      performed e s q is = pair_performs s.before e s.after q is (step_kind s.before e.op e.reply e.hidden s.after s.step)

stale_swap : (conflicts : Conflicts) (events : List Event) (a b : ℕ) → IsHistory events → IsStaleSwap events a b → ¬ IsLinearizable conflicts events
stale_swap conflicts events a b history stale (order, explains) =
    let one = placed_with conflicts events order history explains a stale.doc stale.pair stale.one in
    let two = placed_with conflicts events order history explains b stale.doc stale.later stale.two in
    let first : one.own.place < two.own.place = in_order one two stale.first in
    let above = above_taken (run_of order) start explains.legal.0 explains.legal.1 one.own.place two.own.place one.own.placed.entry two.own.placed.entry stale.pair first
    one.own.entry two.own.entry (one.own.doc ∙ sym two.own.doc) one.takes in
    let performs = pair_performs above.before two.own.placed.entry above.after stale.later two.takes
    (step_kind above.before two.own.placed.entry.op two.own.placed.entry.reply two.own.placed.entry.hidden above.after above.step) in
    not_lower stale.condition stale.pair above.before above.most
    (meets above.before two.own.placed.entry.op stale.later above.after stale.condition performs (ap condition_of two.own.operation ∙ stale.asks)) stale.below where
      in_order : (one : IsPlacedWith order a stale.one.shard stale.doc stale.one.op stale.pair) (two : IsPlacedWith order b stale.two.shard stale.doc stale.two.op stale.later)
          → Precedes events a b ⊎ IsBelow stale.pair stale.later → one.own.place < two.own.place
      in_order one two (inl precedes) =
          explains.respects one.own.place two.own.place one.own.placed two.own.placed one.own.at two.own.at
          (subst (λ n. Precedes events n two.own.placed.no) (sym one.own.number) (subst (λ n. Precedes events a n) (sym two.own.number) precedes))
      in_order one two (inr below) =
          elim (cases_lt one.own.place two.own.place) as (λ _. one.own.place < two.own.place) [
            | inl less ↦ less
            | inr other ↦ elim (cases_lt two.own.place one.own.place) as (λ _. one.own.place < two.own.place) [
              | inl more ↦ absurd (not_both_below stale.pair stale.later below
                  (lesser_first order a b stale.one.shard stale.two.shard stale.doc stale.one.op stale.two.op stale.pair stale.later explains.legal one two more))
              | inr under ↦ (let same : one.own.place ≡ two.own.place = omega arith in
                  let call : one.own.placed ≡ two.own.placed = same_some one.own.placed two.own.placed (sym one.own.at ∙ (ap (slice_get order) same ∙ two.own.at)) in
                  absurd (stale.apart (sym one.own.number ∙ (ap (λ (p : Placed). p.no) call ∙ two.own.number))))
            ]
          ]

-- ---- no writer

-- what is heard of a call that gave a number with a pair allows that it did
may_take : (conflicts : Conflicts) (heard : Option (ℕ × Answer)) (e : Entry) (p : Pair) (k : ℕ) → GivesNumber p k e → (conflicts ≡ Plain → e.hidden ≡ None)
    → ((y : ℕ) (r : Answer) → heard ≡ Some (y, r) → e.reply ≡ r) → MayTake conflicts heard p
may_take conflicts None e p k gives plain reported = tt
may_take conflicts (Some (y, r)) e p k gives plain reported = by_reply (reported y r refl) gives.takes where
  by_conflicts : (m : Conflicts) → conflicts ≡ m → e.hidden ≡ Some p → conflicts ≡ Maybe
  by_conflicts Plain is hides = absurd (none_is_not_some p (sym (plain is) ∙ hides))
  by_conflicts Maybe is hides = is

  by_reply : e.reply ≡ r → ((created : _) × (e.reply ≡ Indexed p created)) ⊎ ((e.reply ≡ Conflict) × (e.hidden ≡ Some p)) → MayTake conflicts (Some (y, r)) p
  by_reply same (inl shows) = subst (λ x. MayTake conflicts (Some (y, x)) p) (sym shows.1 ∙ same) refl
  by_reply same (inr hides) = subst (λ x. MayTake conflicts (Some (y, x)) p) (sym hides.0 ∙ same) (by_conflicts conflicts refl hides.1)

no_writer : (conflicts : Conflicts) (events : List Event) (g : ℕ) → IsHistory events → HasNoWriter conflicts events g → ¬ IsLinearizable conflicts events
no_writer conflicts events g history evidence (order, explains) =
    let get = placed conflicts events order history explains evidence.get.called g evidence.get.shard evidence.replied evidence.doc evidence.get.op (Found evidence.pair evidence.number) evidence.get.call
    evidence.get.heard in
    let step = steps_from (run_of order) start explains.legal.0 explains.legal.1 get.place get.placed.entry get.entry in
    let here = found_has step.before get.placed.entry.op get.placed.entry.hidden step.after evidence.pair evidence.number
    (subst (λ r. DocStep step.before get.placed.entry.op r get.placed.entry.hidden step.after) get.reply step.step) in
    by_source get (step.came evidence.pair evidence.number here) where
      gives : (get : IsPlaced order g evidence.get.shard evidence.doc evidence.get.op (Found evidence.pair evidence.number))
          → IsGivenBefore (run_of order) get.place get.placed.entry.doc evidence.pair evidence.number → ⊥
      gives get given =
          let x = mapped_from (λ (p : Placed). p.entry) order given.place given.entry given.at in
          let of : IsOfCall events x.0 = explains.is_order.calls given.place x.0 x.1 in
          let doc : x.0.entry.doc ≡ evidence.doc = ap (λ (e : Entry). e.doc) x.2 ∙ (given.doc ∙ get.doc) in
          evidence.none of.0 (record {
            before = in_time conflicts events order explains evidence.replied g (Found evidence.pair evidence.number)
                (heard_is_reply events history evidence.get.called g evidence.get.shard evidence.doc evidence.get.op evidence.get.call evidence.replied (Found evidence.pair evidence.number) evidence.get.heard)
                given.place get.place x.0 get.placed x.1 get.at get.number given.before of;
            number = x.0.no;
            shard = x.0.entry.shard;
            op = x.0.entry.op;
            call = subst (λ d. IsCallAt events of.0 x.0.no x.0.entry.shard d x.0.entry.op) doc of.1;
            gives = ap (λ (e : Entry). value_of e.op) x.2 ∙ given.gives.number;
            takes = may_take conflicts (heard_of events x.0.no) given.entry evidence.pair evidence.number given.gives
                (λ is. ap (λ (e : Entry). e.hidden) (sym x.2) ∙ explains.is_order.plain is given.place x.0 x.1)
                (λ y r heard. ap (λ (e : Entry). e.reply) (sym x.2) ∙ replied_so conflicts events order history explains given.place x.0 x.1 of y r heard);
          })

      by_source : (get : IsPlaced order g evidence.get.shard evidence.doc evidence.get.op (Found evidence.pair evidence.number))
          → (Never ≡ Here evidence.pair evidence.number) ⊎ IsGivenBefore (run_of order) get.place get.placed.entry.doc evidence.pair evidence.number → ⊥
      by_source get (inl never) = let impossible = never in cc
      by_source get (inr given) = gives get given

-- ---- the law

pub evidence_refutes : EvidenceRefutes
evidence_refutes conflicts events (evidence.PairTwice a b) history holds explained = pair_twice conflicts events a b history holds explained
evidence_refutes conflicts events (evidence.NoWriter g) history holds explained = no_writer conflicts events g history holds explained
evidence_refutes conflicts events (evidence.StaleGet g w) history holds explained = stale_get conflicts events g w history holds explained
evidence_refutes conflicts events (evidence.MissedWrite g w) history holds explained = missed_write conflicts events g w history holds explained
evidence_refutes conflicts events (evidence.StaleSwap a b) history holds explained = stale_swap conflicts events a b history holds explained
evidence_refutes conflicts events (evidence.RuledOut n) history holds explained =
    ruled_out_have_no_order (record { conflicts = conflicts; elsewhere = holds.elsewhere }) events holds.document.0 n history holds.apart holds.ruled_out explained
