-- A history in which a get missed a write has no order.
use Rattle.std.proofs.Common.{ℕ, suc, ◌≡◌, ◌<◌, ◌⊎◌, inl, inr, List, refl, sym, ap, subst, ◌∙◌, Bool, Option, Some, None, slice_get}
use Rattle.version_pair.specs.declared.pair.Pair.{Pair}
use Rattle.version_pair.specs.PairOrder.{IsBelow}
use Rattle.version_pair.proofs.ListLemmas.{none_is_not_some, same_some}
use Rattle.doc_register.specs.declared.op.Op.{Op}
use Rattle.doc_register.specs.declared.op.Op.TheVariants.{Get, Index, Delete, Create}
use Rattle.doc_register.specs.declared.reply.Reply.{Reply as Answer}
use Rattle.doc_register.specs.declared.reply.Reply.TheVariants.{Indexed, Deleted, Found, Missing, Conflict}
use Rattle.doc_register.specs.declared.state.Conflicts.{Conflicts}
use Rattle.doc_register.specs.declared.state.Conflicts.TheVariants.{Plain, Maybe}
use Rattle.doc_register.specs.declared.state.DocState.{DocState}
use Rattle.doc_register.specs.declared.state.DocState.TheVariants.{Never, Gone, Here}
use Rattle.doc_register.specs.Register.{DocStep, is_here, last_pair, performed_state, shown, value_of}
use Rattle.doc_register.specs.Run.{pair_taken}
use Rattle.doc_register.proofs.RunLemmas.{AtMost}
use Rattle.events.specs.declared.event.Event.{Event}
use Rattle.events.specs.Events.{IsCallAt, IsHistory, Precedes, heard_of}
use Rattle.events.specs.Order.{IsLinearizable, IsOfCall, Placed}
use Rattle.evidence.specs.Evidence.{IsMissedWrite, MayTakeAbove}
use Rattle.evidence.proofs.HeardLemmas.{heard_is_reply}
use Rattle.evidence.proofs.PlacedCalls.{IsPlaced, IsPlacedWith, in_time, placed, placed_with, replied_so}
use Rattle.deciding.proofs.DocumentSteps.{leaves_it}
use Rattle.deciding.proofs.OrderedSteps.{Explained, explained_by, IsEntry, IsTaken, IsTakenFor, doc_at, performs_at, reached_after, same_place, step_at, taken_for}

-- a get that finds nothing stands where the document is missing
missing_state : (s : DocState) (op : Op) (h : Option Pair) (t : DocState) → DocStep s op Missing h t → (s ≡ Never) ⊎ ((p : Pair) × (s ≡ Gone p))
missing_state s Get h t step = by_state s step.0 where
  by_state : (x : DocState) → Missing ≡ shown x → (x ≡ Never) ⊎ ((p : Pair) × (x ≡ Gone p))
  by_state Never is = inl refl
  by_state (Gone p) is = inr (p, refl)
  by_state (Here p k) is = let impossible : Missing ≡ Found p k = is in absurd (cc)
missing_state s (Index n c) h t step = absurd step
missing_state s (Delete c) h t step = absurd step
missing_state s (Create n) h t step = absurd step

-- a performed write that leaves the document deleted is a delete
deletes : (op : Op) (p q : Pair) → performed_state Never op q ≡ Gone p → (c : Option Pair) × (op ≡ Delete c)
deletes Get p q is = let impossible : Never ≡ Gone p = is in absurd (cc)
deletes (Index k c) p q is = let impossible : Here q k ≡ Gone p = is in absurd (cc)
deletes (Delete c) p q is = (c, refl)
deletes (Create k) p q is = let impossible : Here q k ≡ Gone p = is in absurd (cc)

-- no delete is answered as an index
no_index : (s : DocState) (c : Option Pair) (q : Pair) (created : Bool) (h : Option Pair) (t : DocState) → DocStep s (Delete c) (Indexed q created) h t → ⊥
no_index s c q created None t step = let impossible : Indexed q created ≡ Deleted q (is_here s) = step.1 in cc
no_index s c q created (Some p) t step = step

-- what is heard of a delete that took a pair above another allows that it did
may_take_above : (conflicts : Conflicts) (heard : Option (ℕ × Answer)) (s : DocState) (c : Option Pair) (reply : Answer) (hidden : Option Pair) (t : DocState) (p q : Pair)
    → DocStep s (Delete c) reply hidden t → pair_taken reply hidden ≡ Some q → IsBelow p q → (conflicts ≡ Plain → hidden ≡ None)
    → ((y : ℕ) (r : Answer) → heard ≡ Some (y, r) → reply ≡ r) → MayTakeAbove conflicts heard p
may_take_above conflicts None s c reply hidden t p q step takes below plain reported = tt
may_take_above conflicts (Some (y, r)) s c reply hidden t p q step takes below plain reported =
    subst (λ x. MayTakeAbove conflicts (Some (y, x)) p) (reported y r refl) (by_reply reply step takes) where
      by_conflicts : (m : Conflicts) → conflicts ≡ m → hidden ≡ Some q → conflicts ≡ Maybe
      by_conflicts Plain is hides = absurd (none_is_not_some q (sym (plain is) ∙ hides))
      by_conflicts Maybe is hides = is

      by_reply : (x : Answer) → DocStep s (Delete c) x hidden t → pair_taken x hidden ≡ Some q → MayTakeAbove conflicts (Some (y, x)) p
      by_reply (Indexed v created) step is = absurd (no_index s c v created hidden t step)
      by_reply (Deleted v found) step is = subst (IsBelow p) (sym (same_some v q is)) below
      by_reply (Found v k) step is = absurd (none_is_not_some q is)
      by_reply Missing step is = absurd (none_is_not_some q is)
      by_reply Conflict step is = by_conflicts conflicts refl is

-- the pair that a deleted document has at least is its own or below it
at_most_gone : (p q : Pair) (s : DocState) → s ≡ Gone q → AtMost p s → (p ≡ q) ⊎ IsBelow p q
at_most_gone p q s is most = subst (AtMost p) is most

-- ---- the law

pub missed_write : (conflicts : Conflicts) (events : List Event) (g w : ℕ) → IsHistory events → IsMissedWrite conflicts events g w → ¬ IsLinearizable conflicts events
missed_write conflicts events g w history evidence (order, explains) = by_state (missing_state (doc_at x get.place) get.placed.entry.op get.placed.entry.hidden (doc_at x (suc get.place)) missing) where
  x : Explained
  x = explained_by conflicts events order evidence.doc history explains

  get : IsPlaced order g evidence.get.shard evidence.doc evidence.get.op Missing
  get = placed conflicts events order history explains evidence.get.called g evidence.get.shard evidence.replied evidence.doc evidence.get.op Missing evidence.get.call evidence.get.heard

  write : IsPlacedWith order w evidence.write.shard evidence.doc evidence.write.op evidence.pair
  write = placed_with conflicts events order history explains w evidence.doc evidence.pair evidence.write

  reads : IsEntry x get.place get.placed
  reads = record { at = get.at; doc = get.doc }

  writes : IsEntry x write.own.place write.own.placed
  writes = record { at = write.own.at; doc = write.own.doc }

  missing : DocStep (doc_at x get.place) get.placed.entry.op Missing get.placed.entry.hidden (doc_at x (suc get.place))
  missing = subst (λ r. DocStep (doc_at x get.place) get.placed.entry.op r get.placed.entry.hidden (doc_at x (suc get.place))) get.reply (step_at x get.place get.placed reads)

  first : write.own.place < get.place
  first = explains.respects write.own.place get.place write.own.placed get.placed write.own.at get.at
      (subst (λ n. Precedes events n get.placed.no) (sym write.own.number) (subst (λ n. Precedes events w n) (sym get.number) evidence.first))

  most : AtMost evidence.pair (doc_at x get.place)
  most = reached_after x write.own.place get.place write.own.placed evidence.pair first writes write.takes

  -- the delete that removed the document took a pair above that of the write
  above : (q : Pair) (c : Option Pair) (t : IsTaken x q) → t.placed.entry.op ≡ Delete c → (evidence.pair ≡ q) ⊎ IsBelow evidence.pair q → IsBelow evidence.pair q
  above q c t is (inr below) = below
  above q c t is (inl same) =
      let place : write.own.place ≡ t.place = same_place x write.own.place t.place write.own.placed t.placed q writes t.entry (write.takes ∙ ap (λ v. Some v) same) t.takes in
      let call : write.own.placed ≡ t.placed = same_some write.own.placed t.placed (sym write.own.at ∙ (ap (slice_get order) place ∙ t.entry.at)) in
      let op : evidence.write.op ≡ Delete c = sym write.own.operation ∙ (ap (λ (p : Placed). p.entry.op) call ∙ is) in
      absurd (none_is_not_some evidence.number (ap value_of (sym op) ∙ evidence.gives))

  by_taken : (q : Pair) → doc_at x get.place ≡ Gone q → IsTakenFor x get.place q → ⊥
  by_taken q gone taken =
      let t = taken.own in
      let performs = performs_at x t.place t.placed q t.entry t.takes in
      let left = leaves_it (doc_at x t.place) t.placed.entry.op q (doc_at x (suc t.place)) performs in
      let delete = deletes t.placed.entry.op q q (sym left.0 ∙ (taken.stays ∙ gone)) in
      let below = above q delete.0 t delete.1 (at_most_gone evidence.pair q (doc_at x get.place) gone most) in
      let of : IsOfCall events t.placed = explains.is_order.calls t.place t.placed t.entry.at in
      evidence.none of.0 (record {
        before = in_time conflicts events order explains evidence.replied g Missing
            (heard_is_reply events history evidence.get.called g evidence.get.shard evidence.doc evidence.get.op evidence.get.call evidence.replied Missing evidence.get.heard)
            t.place get.place t.placed get.placed t.entry.at get.at get.number taken.before of;
        number = t.placed.no;
        shard = t.placed.entry.shard;
        condition = delete.0;
        call = subst (λ o. IsCallAt events of.0 t.placed.no t.placed.entry.shard evidence.doc o) delete.1
            (subst (λ d. IsCallAt events of.0 t.placed.no t.placed.entry.shard d t.placed.entry.op) t.entry.doc of.1);
        takes = may_take_above conflicts (heard_of events t.placed.no) (doc_at x t.place) delete.0 t.placed.entry.reply t.placed.entry.hidden (doc_at x (suc t.place)) evidence.pair q
            (subst (λ o. DocStep (doc_at x t.place) o t.placed.entry.reply t.placed.entry.hidden (doc_at x (suc t.place))) delete.1 (step_at x t.place t.placed t.entry))
            t.takes below
            (λ is. explains.is_order.plain is t.place t.placed t.entry.at)
            (λ y r heard. replied_so conflicts events order history explains t.place t.placed t.entry.at of y r heard);
      })

  by_state : (doc_at x get.place ≡ Never) ⊎ ((q : Pair) × (doc_at x get.place ≡ Gone q)) → ⊥
  by_state (inl never) = subst (AtMost evidence.pair) never most
  by_state (inr (q, gone)) = by_taken q gone (taken_for x get.place q (ap last_pair gone))
