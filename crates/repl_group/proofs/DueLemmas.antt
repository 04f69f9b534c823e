-- Steps that the table lets a group take.
use Rattle.std.proofs.Common.{ℕ, ◌≡◌, ◌==◌, ◌∙◌, refl, sym, ap, subst, Bool, true, List, None, Some, Option, Result, Ok, Err}
use Rattle.std.specs.Prelude.{◌&&◌, MatchOption, OnErr, not, nat_lt, option_map, slice_get, slice_set}
use Rattle.version_pair.specs.declared.pair.Pair.{Pair}
use Rattle.doc_register.specs.declared.state.DocState.{DocState}
use Rattle.repl_group.specs.Copies.{ShardCopy, document_in, next_seq}
use Rattle.repl_group.specs.Group.{CopiesTo, Does, DoesWhere, GroupState, OnCopy, OnRequest, Performs, Refuses, copy_with, greatest, healed, is_primary_cut, promoted, with_copy, write_of}
use Rattle.repl_group.specs.Requests.{flight_of, with_stage}
use Rattle.repl_group.specs.aids.Keeping.{flags_of}
use Rattle.repl_group.specs.declared.request.Request.{Request}
use Rattle.repl_group.specs.declared.request.Stage.TheVariants.{InFlight}
use Rattle.repl_group.specs.declared.copy_flags.CopyFlags.{CopyFlags}
use Rattle.repl_group.specs.declared.step.Answer.TheVariants.{Done, NotNow}
use Rattle.repl_group.proofs.MachineLemmas.{performs_done}
use Rattle.version_pair.proofs.ListLemmas.{none_is_not_some, same_some}

pub OnErr-always : {A E : Type 0} {P : Type 0} (r : Result A E) → P → OnErr r P
OnErr-always (Ok a) p = tt
OnErr-always (Err e) p = p

-- a test that passes lets the step be done
does_where : (may : Bool) (after w : GroupState) → may ≡ true → DoesWhere may after w Done after
does_where may after w is = subst (λ b. DoesWhere b after w Done after) (sym is) (refl, refl)

-- the copy of a number, by where it stands
copy_there : (copies : List ShardCopy) (c : ℕ) (s : CopyFlags) → option_map flags_of (slice_get copies c) ≡ Some s
    → (y : ShardCopy) × (slice_get copies c ≡ Some y) × (flags_of y ≡ s)
copy_there copies c s found = by_copy (slice_get copies c) refl found where
  by_copy : (o : Option ShardCopy) → slice_get copies c ≡ o → option_map flags_of o ≡ Some s → (y : ShardCopy) × (slice_get copies c ≡ Some y) × (flags_of y ≡ s)
  by_copy None is there = absurd (none_is_not_some s there)
  by_copy (Some y) is there = (y, is, same_some (flags_of y) s there)

pub heal_due : (w : GroupState) (c : ℕ) (s : CopyFlags) → option_map flags_of (slice_get w.copies c) ≡ Some s
    → (n : GroupState) × OnCopy (λ y. Does (healed w c y)) w c Done n
heal_due w c s found =
    let y = copy_there w.copies c s found in
    (healed w c y.0, subst (λ o. MatchOption o (Refuses NotNow w Done (healed w c y.0)) (λ z. Does (healed w c z) Done (healed w c y.0))) (sym y.1) (refl, refl))

pub promote_due : (w : GroupState) (c : ℕ) (s : CopyFlags) → option_map flags_of (slice_get w.copies c) ≡ Some s
    → (s.is_in_sync && not s.is_cut && not (c == w.primary) && nat_lt w.term greatest) ≡ true
    → (n : GroupState) × OnCopy (λ y. DoesWhere (y.is_in_sync && not y.is_cut && not (c == w.primary) && nat_lt w.term greatest) (promoted w c y) w) w c Done n
promote_due w c s found may =
    let y = copy_there w.copies c s found in
    let test : CopyFlags → Bool = λ z. z.is_in_sync && not z.is_cut && not (c == w.primary) && nat_lt w.term greatest in (
      promoted w c y.0,
      subst (λ o. MatchOption o (Refuses NotNow w Done (promoted w c y.0))
          (λ z. DoesWhere (z.is_in_sync && not z.is_cut && not (c == w.primary) && nat_lt w.term greatest) (promoted w c z) w Done (promoted w c y.0))) (sym y.1)
          (does_where _ (promoted w c y.0) w (ap test y.2 ∙ may)),
    )

pub copy_due : (w : GroupState) (t c : ℕ) (x : Request) (s : CopyFlags) (flight : Pair × DocState) → slice_get w.requests t ≡ Some x
    → option_map flags_of (slice_get w.copies c) ≡ Some s → flight_of x.stage ≡ Some flight
    → (s.is_in_sync && not s.is_cut && not (is_primary_cut w)) ≡ true
    → (n : GroupState) × OnRequest (λ z. OnCopy (CopiesTo w t z c) w c) w t Done n
copy_due w t c x s flight asked found flies may =
    let y = copy_there w.copies c s found in
    let test : CopyFlags → Bool = λ z. z.is_in_sync && not z.is_cut && not (is_primary_cut w) in
    let after = with_copy w c (copy_with y.0 t (write_of x flight.0)) in
    let copies : CopiesTo w t x c y.0 Done after =
    subst (λ o. MatchOption o (Refuses NotNow w Done after)
    (λ f. DoesWhere (y.0.is_in_sync && not y.0.is_cut && not (is_primary_cut w)) (with_copy w c (copy_with y.0 t (write_of x f.0))) w Done after)) (sym flies)
    (does_where _ after w (ap test y.2 ∙ may)) in
    let on_copy : OnCopy (CopiesTo w t x c) w c Done after =
    subst (λ o. MatchOption o (Refuses NotNow w Done after) (λ z. CopiesTo w t x c z Done after)) (sym y.1) copies in
    (after, subst (λ o. MatchOption o (Refuses NotNow w Done after) (λ z. OnCopy (CopiesTo w t z c) w c Done after)) (sym asked) on_copy)

pub performs_due : (w v : GroupState) (t : ℕ) (x : Request) (y : ShardCopy) (q : Pair) → v ≡ w → q.term ≡ v.term → q.seq ≡ next_seq y.writes
    → (n : GroupState) × Performs w t x y Done n
performs_due w v t x y q same term seq =
    let requests = with_stage v.requests t x (InFlight q (document_in y.writes x.doc)) in
    let copies = slice_set v.copies v.primary (copy_with y t (write_of x q)) in
    (record v { requests = requests; copies = copies }, performs_done w v t x y q requests copies same term seq refl refl)
