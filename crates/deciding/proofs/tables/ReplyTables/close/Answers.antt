use Rattle.std.proofs.Common.{◌≡◌, ◌<◌, ◌≤◌, ℕ, List, length, Some, None, slice_get, ◌⊎◌, inl, inr, sym, ap, subst, ◌∙◌, arith}
use Rattle.std.specs.Prelude.{option_copied}
use Rattle.std.proofs.lemmas.Bool.{cases_lt}
use Rattle.std.proofs.lemmas.Option.{slice_get_within}
use Rattle.version_pair.proofs.ListLemmas.{get_within, none_is_not_some}
use Rattle.events.specs.declared.record.Rec.{Rec}
use Rattle.deciding.specs.aids.Candidates.{facts_of}
use Rattle.deciding.specs.declared.row.Row.{Row}
use Rattle.deciding.specs.aids.StepsOf.{ArePositioned}
use Rattle.deciding.specs.aids.TablesOf.{ArePlacedIn}
use Rattle.deciding.proofs.ItemLemmas.{copied_get}
use Rattle.deciding.proofs.TableLemmas.{closed_more, positions_kept, steps_met, tables_kept_on}
use Rattle.deciding.proofs.tables.ReplyTables.close.Goals as goal

pub loop-next-preserved : goal.loop-next-preserved
loop-next-preserved c d has made =
    let before = c.loop-next.invariant d has made in
    let positions = positions_kept records c.args.self.now c.loop-next.self before.0 in
    let steps = c.in_ok-rows-in-Some.ensures d (positions.waiting c.in-Some.row.now (c.loop-next.next, here)) made in
    let step = c.in_ok-place_all.ensures.ok d positions (subst (ArePositioned records) (sym c.deref-in-loop-next.ensures.value) steps.0) in (
      tables_kept_on records c.args.self.now c.loop-next.self c.place_all.new.self before.0 step.0,
      λ k row within at. closed_more (facts_of c.args.document.now) records c.args.moment.now.event c.args.number c.args.call c.loop-next.next c.in-Some.row.now c.loop-next.self c.place_all.new.self here before.1 step.0
          (steps_met (facts_of c.args.document.now) records c.args.moment.now.event c.args.number c.args.call c.in-Some.row.now c.in_ok-rows-in-Some.rows.items c.place_all.new.self steps.1
          (subst (ArePlacedIn c.args.document.now.conflicts records c.args.number c.args.call c.place_all.new.self) c.deref-in-loop-next.ensures.value step.1))
          k row (omega (arith, within)) at,
    ) where
      records : List Rec
      records = c.args.document.now.records.now

      here : slice_get c.loop-next.self.waiting.items c.loop-next.next ≡ Some c.in-Some.row.now
      here =
          sym (ap (λ (xs : List Row). slice_get xs c.loop-next.next) c.deref.ensures.value)
          ∙ (sym (copied_get c.deref.result.now c.loop-next.next c.get.result c.get.ensures.lookup) ∙ ap option_copied c.in-Some.is)

pub returns-in-None : goal.returns-in-None
returns-in-None c d has made =
    let done = c.loop-next.invariant d has made in
    (done.0, λ closed k row at. done.1 k row (by_order k row at (cases_lt k c.loop-next.next)) at) where
      none : slice_get c.loop-next.self.waiting.items c.loop-next.next ≡ None
      none =
          sym (ap (λ (xs : List Row). slice_get xs c.loop-next.next) c.deref.ensures.value)
          ∙ (sym (copied_get c.deref.result.now c.loop-next.next c.get.result c.get.ensures.lookup) ∙ ap option_copied c.in-None.is)

      by_order : (k : ℕ) (row : Row) → slice_get c.loop-next.self.waiting.items k ≡ Some row → ((k < c.loop-next.next) ⊎ (c.loop-next.next ≤ k)) → k < c.loop-next.next
      by_order k row at (inl first) = first
      by_order k row at (inr not) =
          let inside : k < length c.loop-next.self.waiting.items = slice_get_within c.loop-next.self.waiting.items k row at in
          let was = get_within c.loop-next.self.waiting.items c.loop-next.next (omega (arith, inside, not)) in
          absurd (none_is_not_some was.0 (sym none ∙ was.1))
