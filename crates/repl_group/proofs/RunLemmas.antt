-- An honest group is sound at each moment, so it gives no pair twice and holds what it acknowledged.
use Rattle.std.proofs.Common.{ℕ, zero, suc, ◌≡◌, ◌<◌, ◌+◌, ◌%◌, ◌⊎◌, inl, inr, List, [], ◌∷◌, length, refl, sym, ap, subst, ◌∙◌, arith, Option, Some, None, Bool, true, false, true≢false}
use Rattle.std.specs.Prelude.{◌==◌, ◌&&◌, ◌||◌, IfOk, OnErr, Result, Ok, Err, MatchBool, MatchOption, if◌then◌else◌, nat_lt, not, replicate, slice_get}
use Rattle.std.specs.List.{list_all}
use Rattle.std.specs.Map.{lookup}
use Rattle.std.specs.Option.{option_map_or}
use Rattle.std.proofs.lemmas.Bool.{eq-eqb, not-true, or_parts}
use Rattle.version_pair.specs.declared.pair.Pair.{Pair}
use Rattle.doc_register.specs.Register.{performed_reply, shown}
use Rattle.doc_register.specs.Run.{pair_taken}
use Rattle.doc_register.specs.declared.op.Op.{Op}
use Rattle.doc_register.specs.declared.op.Op.TheVariants.{Get, Index, Delete, Create}
use Rattle.doc_register.specs.declared.reply.Reply.{Reply}
use Rattle.doc_register.specs.declared.reply.Reply.TheVariants.{Conflict}
use Rattle.doc_register.specs.declared.state.DocState.{DocState}
use Rattle.repl_group.specs.declared.fault.Fault.{Fault}
use Rattle.repl_group.specs.declared.fault.Fault.TheVariants as fault
use Rattle.repl_group.specs.declared.held_write.HeldWrite.{HeldWrite}
use Rattle.repl_group.specs.declared.request.Request.{Request}
use Rattle.repl_group.specs.declared.request.Stage.{Stage}
use Rattle.repl_group.specs.declared.request.Stage.TheVariants.{Queued, InFlight, Answered, Lost}
use Rattle.repl_group.specs.Copies.{ShardCopy, document_in, holds, next_seq}
use Rattle.repl_group.specs.declared.step.Answer.{Answer}
use Rattle.repl_group.specs.declared.step.Step.{Step}
use Rattle.repl_group.specs.declared.step.Step.TheVariants as step
use Rattle.repl_group.specs.Faults.{is_dirty, is_early, is_same_term, is_stale}
use Rattle.repl_group.specs.Group.{Acknowledges, CopiesTo, Does, DoesWhere, GroupState, IsRun, Performs, Refuses, Serves, ServesGet, ServesWrite, Shows, Gives, Takes, Writes, answered, copy_with, document_at, greatest, healed, is_held, is_primary_cut, most_tickets, new_copy, promoted, start, with_copy, write_of, writes_at}
use Rattle.repl_group.specs.Honest.{HonestGroups, IsHonest, IsHonestUnlessFaulty, pair_acknowledged, pair_given}
use Rattle.repl_group.specs.Operations.{is_get}
use Rattle.repl_group.specs.Requests.{flight_of, is_busy, is_queued}
use Rattle.repl_group.specs.aids.Sound.{IsOwn, IsSound, IsSoundUnlessFaulty}
use Rattle.repl_group.proofs.HonestLemmas.{from_with_write, held_found, nothing_found, performed_sound, promoted_sound, recopied, restaged, with_request, with_write-more}
use Rattle.version_pair.proofs.ListLemmas.{same_some}
use Rattle.repl_group.proofs.ListLemmas.{all_pass, from_replicate}
use Rattle.doc_register.proofs.RunLemmas.{shown_takes_none}
use Rattle.version_pair.proofs.TruthLemmas.{both}
use Rattle.repl_group.proofs.RequestLemmas.{still_queued}

-- ---- which of two

by_test : {P Q R : Type 0} (b : Bool) → MatchBool b P Q → (b ≡ true → P → R) → (b ≡ false → Q → R) → R
by_test {P} {Q} {R} b chosen at_true at_false = by_cases b refl chosen where
  by_cases : (k : Bool) → b ≡ k → MatchBool k P Q → R
  by_cases true is p = at_true is p
  by_cases false is q = at_false is q

by_there : {X P R : Type 0} {Q : X → Type 0} (o : Option X) → MatchOption o P Q → (P → R) → ((x : X) → o ≡ Some x → Q x → R) → R
by_there {X} {P} {R} {Q} o chosen none some = by_cases o refl chosen where
  by_cases : (k : Option X) → o ≡ k → MatchOption k P Q → R
  by_cases None is p = none p
  by_cases (Some x) is q = some x is q

-- ---- sound groups

abbrev Sound : GroupState → Type 0
Sound w = IsSound w.term w.primary w.requests w.copies

unanswered : (s : Stage) (r : Reply) → is_queued s ≡ true → pair_taken r None ≡ None → pair_given (Answered r) ≡ pair_given s
unanswered s r is none = none ∙ sym (ap pair_given (still_queued s is))

-- the pair of a flight
flight_given : (s : Stage) (f : Pair × DocState) → flight_of s ≡ Some f → pair_given s ≡ Some f.0
flight_given Queued f is = nothing_found is
flight_given (InFlight q b) f is = ap (λ (k : Pair × DocState). Some k.0) (same_some _ _ is)
flight_given (Answered r) f is = nothing_found is
flight_given (Lost q) f is = nothing_found is

-- a queued operation is answered with no pair
answered_sound : (w : GroupState) (t : ℕ) (x : Request) (r : Reply) → Sound w → slice_get w.requests t ≡ Some x → is_queued x.stage ≡ true → pair_taken r None ≡ None → Sound (answered w t x r)
answered_sound w t x r sound at queued none =
    restaged w.term w.primary w.requests w.copies sound t x (Answered r) at (unanswered x.stage r queued none) refl (λ c y q there reported sync. nothing_found (sym none ∙ reported))

-- a step that is refused, and one that is done where it may be
module _ (w n : GroupState) (a : Answer) (sound : Sound w) where
  refused : {reason : Answer} → Refuses reason w a n → Sound n
  refused {reason} is = subst Sound (sym is.1) sound

  done : (after : GroupState) → Sound after → Does after a n → Sound n
  done after sound' is = subst Sound (sym is.1) sound'

  where_may : (may : Bool) (after : GroupState) → (may ≡ true → Sound after) → DoesWhere may after w a n → Sound n
  where_may may after sound' is = by_test may is (λ is' does. done after (sound' is') does) (λ other is'. refused is')

  -- ---- steps of tickets

  serves_get : (t : ℕ) (x : Request) → slice_get w.requests t ≡ Some x → is_queued x.stage ≡ true → ServesGet w t x a n → Sound n
  serves_get t x at queued serves =
      by_test (is_stale w.fault) serves (λ stale shows. shows_sound (t % length w.copies) shows)
      (λ fresh rest. by_test (is_primary_cut w) rest (λ cut is. refused is)
      (λ reached rest'. by_test (is_busy w.requests x.doc && not (is_dirty w.fault)) rest' (λ busy is. refused is) (λ free shows. shows_sound w.primary shows))) where
        shows_sound : (c : ℕ) → Shows w t x c a n → Sound n
        shows_sound c shows =
            done (answered w t x (shown (document_at w c x.doc))) (answered_sound w t x (shown (document_at w c x.doc)) sound at queued (shown_takes_none (document_at w c x.doc))) shows

  serves_write : (t : ℕ) (x : Request) → slice_get w.requests t ≡ Some x → is_queued x.stage ≡ true → is_get x.op ≡ false → ServesWrite w t x a n → Sound n
  serves_write t x at queued writes serves =
      by_there (slice_get w.copies w.primary) serves (λ is. refused is)
      (λ y lead rest. by_test y.is_cut rest (λ cut is. refused is)
      (λ reached rest'. by_test (is_busy w.requests x.doc) rest' (λ busy is. refused is) (λ free acts. acts_sound y lead acts))) where
        performs : (y : ShardCopy) → slice_get w.copies w.primary ≡ Some y → Performs w t x y a n → Sound n
        performs y lead acts =
            by_test (nat_lt greatest (next_seq y.writes)) acts (λ past is. refused is)
            (λ left gives. subst Sound (sym gives.3.1)
            (performed_sound w.term w.primary w.requests w.copies sound t x y gives.0 (document_in y.writes x.doc) at queued writes lead gives.1 gives.2))

        acts_sound : (y : ShardCopy) → slice_get w.copies w.primary ≡ Some y → Writes w t x y a n → Sound n
        acts_sound y lead (inl acts) = performs y lead acts.1
        acts_sound y lead (inr acts) = done (answered w t x Conflict) (answered_sound w t x Conflict sound at queued refl) acts.1

  serves : (t : ℕ) (x : Request) → slice_get w.requests t ≡ Some x → Serves w t x a n → Sound n
  serves t x at acts =
      by_test (is_queued x.stage) acts
      (λ queued rest. by_test (is_get x.op) rest (λ get rest'. serves_get t x at queued rest') (λ write rest'. serves_write t x at queued write rest'))
      (λ other is. refused is)

  copies_to : (t c : ℕ) (x : Request) (y : ShardCopy) → slice_get w.requests t ≡ Some x → slice_get w.copies c ≡ Some y → CopiesTo w t x c y a n → Sound n
  copies_to t c x y at there acts =
      by_there (flight_of x.stage) acts (λ is. refused is)
      (λ flight flies rest. where_may (y.is_in_sync && not y.is_cut && not (is_primary_cut w)) (with_copy w c (copy_with y t (write_of x flight.0)))
      (λ may. recopied w.term w.primary w.requests w.copies sound c y (copy_with y t (write_of x flight.0)) there
      (λ u write found. by_write u write flight flies (from_with_write y.writes t u (write_of x flight.0) write found))
      (λ here. in_sync may)
      (λ here u held. with_write-more y.writes t u (write_of x flight.0) held)
      (λ sync u z q found reported. with_write-more y.writes t u (write_of x flight.0) (sound.acknowledged u c z y q found there reported (in_sync may))))
      rest) where
        in_sync : (y.is_in_sync && not y.is_cut && not (is_primary_cut w)) ≡ true → y.is_in_sync ≡ true
        in_sync may = (both y.is_in_sync (not y.is_cut) (both (y.is_in_sync && not y.is_cut) (not (is_primary_cut w)) may).0).0

        by_write : (u : ℕ) (write : HeldWrite) (flight : Pair × DocState) → flight_of x.stage ≡ Some flight
            → ((lookup (◌==◌ u) y.writes ≡ Some write) ⊎ ((u ≡ t) × (write ≡ write_of x flight.0))) → IsOwn w.requests u write
        by_write u write flight flies (inl old) = sound.own c u y write there old
        by_write u write flight flies (inr new) = record {
          request = x;
          found = ap (slice_get w.requests) new.0 ∙ at;
          given = flight_given x.stage flight flies ∙ ap (λ (h : HeldWrite). Some h.pair) (sym new.1);
          same = new.1 ∙ ap (λ (h : HeldWrite). write_of x h.pair) (sym new.1);
        }

  acknowledges : (t : ℕ) (x : Request) → w.fault ≡ fault.None → slice_get w.requests t ≡ Some x → Acknowledges w t x a n → Sound n
  acknowledges t x honest at acts =
      by_there (flight_of x.stage) acts (λ is. refused is)
      (λ flight flies rest. where_may (not (is_primary_cut w) && is_held w t) (answered w t x (performed_reply flight.1 x.op flight.0))
      (λ may. restaged w.term w.primary w.requests w.copies sound t x (Answered (performed_reply flight.1 x.op flight.0)) at
      (reply_pair x.op flight.1 flight.0 (sound.writes t x flight.0 flight.1 at flies) ∙ sym (flight_given x.stage flight flies)) refl
      (λ c y q there reported sync. ap (λ b. not b || holds y.writes t) (sym sync) ∙ all_pass (λ z. not z.is_in_sync || holds z.writes t) w.copies c y (sym (ap (λ f. if is_early f then holds (writes_at w w.primary) t else list_all (λ z. not z.is_in_sync || holds z.writes t) w.copies) honest)
      ∙ (both (not (is_primary_cut w)) (is_held w t) may).1) there))
      rest) where
        reply_pair : (op : Op) (before : DocState) (q : Pair) → is_get op ≡ false → pair_taken (performed_reply before op q) None ≡ Some q
        reply_pair Get before q is = absurd (true≢false is)
        reply_pair (Index k c) before q is = refl
        reply_pair (Delete c) before q is = refl
        reply_pair (Create k) before q is = refl

  -- ---- steps of copies

  -- a copy that keeps its writes, and is in sync only where it was; the primary stays in sync
  rearranged : (c : ℕ) (y z : ShardCopy) → slice_get w.copies c ≡ Some y → z.writes ≡ y.writes → (z.is_in_sync ≡ true → y.is_in_sync ≡ true)
      → (c ≡ w.primary → y.is_in_sync ≡ true → z.is_in_sync ≡ true) → Sound (with_copy w c z)
  rearranged c y z there same was stays =
      recopied w.term w.primary w.requests w.copies sound c y z there
      (λ t write found. sound.own c t y write there (ap (λ ws. lookup (◌==◌ t) ws) (sym same) ∙ found))
      (λ here. stays here (subst (λ (k : ShardCopy). k.is_in_sync ≡ true) (same_some _ _ (sym sound.leads.1 ∙ (ap (slice_get w.copies) (sym here) ∙ there))) sound.leads.2))
      (λ here t held. ap (λ ws. holds ws t) same ∙ held)
      (λ sync t x q found reported. ap (λ ws. holds ws t) same ∙ sound.acknowledged t c x y q found there reported (was sync))

  heals : (c : ℕ) (y : ShardCopy) → slice_get w.copies c ≡ Some y → Does (healed w c y) a n → Sound n
  heals c y there acts = done (healed w c y) (by_place ((c == w.primary) || is_primary_cut w) refl) acts where
    lead : ShardCopy
    lead = sound.leads.0

    taken : writes_at w w.primary ≡ lead.writes
    taken = ap (λ o. option_map_or (λ (k : ShardCopy). k.writes) o []) sound.leads.1

    by_place : (b : Bool) → ((c == w.primary) || is_primary_cut w) ≡ b
        → Sound (with_copy w c (if b then record y { is_cut = false } else record { writes = writes_at w w.primary; is_cut = false; is_in_sync = true }))
    by_place true is = rearranged c y (record y { is_cut = false }) there refl (λ sync. sync) (λ here sync. sync)
    by_place false is =
        recopied w.term w.primary w.requests w.copies sound c y (record { writes = writes_at w w.primary; is_cut = false; is_in_sync = true }) there
        (λ t write found. sound.own w.primary t lead write sound.leads.1 (ap (λ ws. lookup (◌==◌ t) ws) (sym taken) ∙ found))
        (λ here. refl)
        (λ here. absurd (true≢false (sym (eq-eqb c w.primary here) ∙ (or_parts (c == w.primary) (is_primary_cut w) is).0)))
        (λ sync t x q found reported. ap (λ ws. holds ws t) taken ∙ sound.acknowledged t w.primary x lead q found sound.leads.1 reported sound.leads.2)

  drops : (c : ℕ) (y : ShardCopy) → slice_get w.copies c ≡ Some y
      → DoesWhere (y.is_in_sync && y.is_cut && not (c == w.primary) && not (is_primary_cut w)) (with_copy w c (record y { is_in_sync = false })) w a n → Sound n
  drops c y there acts =
      where_may (y.is_in_sync && y.is_cut && not (c == w.primary) && not (is_primary_cut w)) (with_copy w c (record y { is_in_sync = false }))
      (λ may. rearranged c y (record y { is_in_sync = false }) there refl (λ sync. absurd (true≢false (sym sync)))
      (λ here sync. absurd (true≢false (sym (eq-eqb c w.primary here) ∙ not-true (c == w.primary)
      (both (y.is_in_sync && y.is_cut) (not (c == w.primary)) (both (y.is_in_sync && y.is_cut && not (c == w.primary)) (not (is_primary_cut w)) may).0).1))))
      acts

  promotes : (c : ℕ) (y : ShardCopy) → w.fault ≡ fault.None → slice_get w.copies c ≡ Some y
      → DoesWhere (y.is_in_sync && not y.is_cut && not (c == w.primary) && nat_lt w.term greatest) (promoted w c y) w a n → Sound n
  promotes c y honest there acts =
      where_may (y.is_in_sync && not y.is_cut && not (c == w.primary) && nat_lt w.term greatest) (promoted w c y)
      (λ may. (let flags = both (y.is_in_sync && not y.is_cut) (not (c == w.primary)) (both (y.is_in_sync && not y.is_cut && not (c == w.primary)) (nat_lt w.term greatest) may).0 in
      let first = both y.is_in_sync (not y.is_cut) flags.0 in
      subst (λ term. IsSound term c (promoted w c y).requests (promoted w c y).copies) (sym (ap (λ f. if is_same_term f then w.term else w.term + 1) honest))
      (promoted_sound w.term w.primary w.requests w.copies sound c y there first.0 (not-true y.is_cut first.1))))
      acts

-- ---- any step

module _ (w n : GroupState) (a : Answer) where
  abbrev Kept : Type 0
  Kept = n.fault ≡ w.fault

  kept_refused : {reason : Answer} → Refuses reason w a n → Kept
  kept_refused {reason} is = ap (λ (g : GroupState). g.fault) is.1

  kept_done : (after : GroupState) → after.fault ≡ w.fault → Does after a n → Kept
  kept_done after same is = ap (λ (g : GroupState). g.fault) is.1 ∙ same

  kept_where : (may : Bool) (after : GroupState) → after.fault ≡ w.fault → DoesWhere may after w a n → Kept
  kept_where may after same is = by_test may is (λ is' does. kept_done after same does) (λ other is'. kept_refused is')

  kept_serves : (t : ℕ) (x : Request) → Serves w t x a n → Kept
  kept_serves t x acts =
      by_test (is_queued x.stage) acts
      (λ queued rest. by_test (is_get x.op) rest
      (λ get rest'. by_test (is_stale w.fault) rest' (λ stale shows. kept_done _ refl shows)
      (λ fresh rest''. by_test (is_primary_cut w) rest'' (λ cut is. kept_refused is)
      (λ reached rest'''. by_test (is_busy w.requests x.doc && not (is_dirty w.fault)) rest''' (λ busy is. kept_refused is) (λ free shows. kept_done _ refl shows))))
      (λ write rest'. by_there (slice_get w.copies w.primary) rest' (λ is. kept_refused is)
      (λ y lead rest''. by_test y.is_cut rest'' (λ cut is. kept_refused is)
      (λ reached rest'''. by_test (is_busy w.requests x.doc) rest''' (λ busy is. kept_refused is) (λ free acts'. kept_writes y acts')))))
      (λ other is. kept_refused is) where
        kept_writes : (y : ShardCopy) → Writes w t x y a n → Kept
        kept_writes y (inl acts') = by_test (nat_lt greatest (next_seq y.writes)) acts'.1 (λ past is. kept_refused is) (λ left gives. kept_done _ refl gives.3)
        kept_writes y (inr acts') = kept_done _ refl acts'.1

  kept_fault : (s : Step) → Gives w s a n → Kept
  kept_fault (step.Submit id op) takes =
      by_test (nat_lt (length w.requests) most_tickets) takes (λ room does. ap (λ (g : GroupState). g.fault) does.1) (λ full is. kept_refused is)
  kept_fault (step.Serve t) takes = by_there (slice_get w.requests t) takes (λ is. kept_refused is) (λ x at acts. kept_serves t x acts)
  kept_fault (step.Copy t c) takes =
      by_there (slice_get w.requests t) takes (λ is. kept_refused is)
      (λ x at acts. by_there (slice_get w.copies c) acts (λ is. kept_refused is)
      (λ y there acts'. by_there (flight_of x.stage) acts' (λ is. kept_refused is) (λ flight flies rest. kept_where _ _ refl rest)))
  kept_fault (step.Ack t) takes =
      by_there (slice_get w.requests t) takes (λ is. kept_refused is)
      (λ x at acts. by_there (flight_of x.stage) acts (λ is. kept_refused is) (λ flight flies rest. kept_where _ _ refl rest))
  kept_fault (step.Cut c) takes = by_there (slice_get w.copies c) takes (λ is. kept_refused is) (λ y there acts. kept_where _ _ refl acts)
  kept_fault (step.Heal c) takes = by_there (slice_get w.copies c) takes (λ is. kept_refused is) (λ y there acts. kept_done _ refl acts)
  kept_fault (step.Drop c) takes = by_there (slice_get w.copies c) takes (λ is. kept_refused is) (λ y there acts. kept_where _ _ refl acts)
  kept_fault (step.Promote c) takes = by_there (slice_get w.copies c) takes (λ is. kept_refused is) (λ y there acts. kept_where _ _ refl acts)

pub sound_after : (w n : GroupState) (s : Step) (a : Answer) → w.fault ≡ fault.None → Sound w → Gives w s a n → Sound n
sound_after w n (step.Submit id op) a honest sound takes =
    by_test (nat_lt (length w.requests) most_tickets) takes
    (λ room does. subst Sound (sym does.1) (with_request w.term w.primary w.requests w.copies sound _ refl)) (λ full is. refused w n a sound is)
sound_after w n (step.Serve t) a honest sound takes =
    by_there (slice_get w.requests t) takes (λ is. refused w n a sound is) (λ x at acts. serves w n a sound t x at acts)
sound_after w n (step.Copy t c) a honest sound takes =
    by_there (slice_get w.requests t) takes (λ is. refused w n a sound is)
    (λ x at acts. by_there (slice_get w.copies c) acts (λ is. refused w n a sound is) (λ y there acts'. copies_to w n a sound t c x y at there acts'))
sound_after w n (step.Ack t) a honest sound takes =
    by_there (slice_get w.requests t) takes (λ is. refused w n a sound is) (λ x at acts. acknowledges w n a sound t x honest at acts)
sound_after w n (step.Cut c) a honest sound takes =
    by_there (slice_get w.copies c) takes (λ is. refused w n a sound is)
    (λ y there acts. where_may w n a sound (not y.is_cut) (with_copy w c (record y { is_cut = true }))
    (λ may. rearranged w n a sound c y (record y { is_cut = true }) there refl (λ sync. sync) (λ here sync. sync)) acts)
sound_after w n (step.Heal c) a honest sound takes =
    by_there (slice_get w.copies c) takes (λ is. refused w n a sound is) (λ y there acts. heals w n a sound c y there acts)
sound_after w n (step.Drop c) a honest sound takes =
    by_there (slice_get w.copies c) takes (λ is. refused w n a sound is) (λ y there acts. drops w n a sound c y there acts)
sound_after w n (step.Promote c) a honest sound takes =
    by_there (slice_get w.copies c) takes (λ is. refused w n a sound is) (λ y there acts. promotes w n a sound c y honest there acts)

-- ---- from the start

start_sound : (count : ℕ) → 0 < count → IsSound 1 0 [] (replicate count new_copy)
start_sound zero some = absurd (omega (arith, some))
start_sound (suc count) some = record {
  leads = (new_copy, refl, refl);
  terms = λ t x q found given. nothing_found found;
  recent = λ t x q y found given now lead. nothing_found found;
  own = λ c t y write there found. nothing_found (ap (λ (k : ShardCopy). lookup (◌==◌ t) k.writes) (sym (from_replicate (suc count) new_copy c y there)) ∙ found);
  writes = λ t x q before found flies. nothing_found found;
  pairs = λ t u x y q found found' given given'. nothing_found found;
  acknowledged = λ t c x y q found there reported sync. nothing_found found;
}

pub sound_start : (f : Fault) (count : ℕ) → 0 < count → IsSoundUnlessFaulty (start f count)
sound_start f count some honest = start_sound count some

pub sound_step : (w n : GroupState) (s : Step) (a : Answer) → IsSoundUnlessFaulty w → Takes w s a n → IsSoundUnlessFaulty n
sound_step w n s a sound takes honest =
    let before : w.fault ≡ fault.None = sym (kept_fault w n a s takes.gives) ∙ honest in
    sound_after w n s a before (sound before) takes.gives

pub sound_result : {E : Type 0} (w n : GroupState) (s : Step) (r : Result Answer E) → IsSoundUnlessFaulty w → IfOk r (λ a. Gives w s a n) → OnErr r (n ≡ w) → IsSoundUnlessFaulty n
sound_result w n s (Ok a) sound gives same = sound_step w n s a sound (record { gives = gives })
sound_result w n s (Err e) sound gives same = subst IsSoundUnlessFaulty (sym same) sound

-- a sound group is honest
pub honest_from : (w : GroupState) → Sound w → IsHonest w
honest_from w sound = record {
  pairs = sound.pairs;
  acknowledged = λ t c x y q found there reported sync. held t c x y q found there reported (held_found y.writes t (sound.acknowledged t c x y q found there reported sync));
} where
  reported_given : (s : Stage) (q : Pair) → pair_acknowledged s ≡ Some q → pair_given s ≡ Some q
  reported_given Queued q reported = nothing_found reported
  reported_given (InFlight p b) q reported = nothing_found reported
  reported_given (Answered r) q reported = reported
  reported_given (Lost p) q reported = nothing_found reported

  held : (t c : ℕ) (x : Request) (y : ShardCopy) (q : Pair) → slice_get w.requests t ≡ Some x → slice_get w.copies c ≡ Some y → pair_acknowledged x.stage ≡ Some q
      → (write : HeldWrite) × (lookup (◌==◌ t) y.writes ≡ Some write) → lookup (◌==◌ t) y.writes ≡ Some (write_of x q)
  held t c x y q found there reported (write, at) =
      let own = sound.own c t y write there at in
      let is_x : own.request ≡ x = same_some _ _ (sym own.found ∙ found) in
      let pair : write.pair ≡ q = same_some _ _ (sym own.given ∙ (ap (λ (k : Request). pair_given k.stage) is_x ∙ reported_given x.stage q reported)) in
      at ∙ ap Some (own.same ∙ (ap (λ (k : Request). write_of k write.pair) is_x ∙ ap (write_of x) pair))

pub honest_unless_faulty : (w : GroupState) → IsSoundUnlessFaulty w → IsHonestUnlessFaulty w
honest_unless_faulty w sound honest = honest_from w (sound honest)

run_sound : (w n : GroupState) (steps : List Step) → IsSoundUnlessFaulty w → IsRun w steps n → IsSoundUnlessFaulty n
run_sound w n [] sound same = subst IsSoundUnlessFaulty (sym same) sound
run_sound w n (s ∷ ss) sound (m, a, takes, rest) = run_sound m n ss (sound_step w m s a sound takes) rest

run_fault : (w n : GroupState) (steps : List Step) → IsRun w steps n → n.fault ≡ w.fault
run_fault w n [] same = ap (λ (g : GroupState). g.fault) same
run_fault w n (s ∷ ss) (m, a, takes, rest) = run_fault m n ss rest ∙ kept_fault w m a s takes.gives

pub honest_groups : HonestGroups
honest_groups = record {
  always = λ count steps n some run.
      honest_from n (run_sound (start fault.None count) n steps (sound_start fault.None count some) run (run_fault (start fault.None count) n steps run));
}
