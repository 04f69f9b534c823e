use Rattle.std.proofs.Common.{◌∙◌, subst, sym, refl, true≢false}
use Rattle.doc_check.specs.NoOrders.{AreAllComplete}
use Rattle.doc_check.specs.Search.{IsAbout}
use Rattle.compose.proofs.CertaintyLemmas.{order_missing, records_without_order}
use Rattle.compose.proofs.certainty.is_without_order.Goals as goal

pub returns-then-not-is_complete : goal.returns-then-not-is_complete
returns-then-not-is_complete c = (
  λ never. absurd (true≢false (sym never)),
  λ without.
      let missing = order_missing c.args.conflicts c.args.history.now c.args.doc c.in_ok-records.records.items c.in_ok-records.ensures without in
      sym c.if-not-is_complete.true ∙ c.is_complete.ensures.1 (subst (AreAllComplete c.args.conflicts) (sym c.deref.ensures.value) missing.0),
)

pub returns-in-Found : goal.returns-in-Found
returns-in-Found c = (
  λ never. absurd (true≢false (sym never)),
  λ without.
      let records = c.in_ok-records.records.items in
      let missing = order_missing c.args.conflicts c.args.history.now c.args.doc records c.in_ok-records.ensures without in
      let about = subst (IsAbout c.in_ok-id.id records c.args.conflicts) c.in-Found.is c.in_ok-answer.ensures.about in
      absurd (c.complete_have_none.ensures c.args.conflicts records missing.0 missing.1 c.in-Found.field-0.places about.3),
)

pub returns : goal.returns
returns c = (
  λ _.
      let records = c.in_ok-records.records.items in
      let complete : AreAllComplete c.args.conflicts records = subst (AreAllComplete c.args.conflicts) c.deref.ensures.value (c.is_complete.ensures.0 c.if-not-is_complete.false) in
      let about = subst (IsAbout c.in_ok-id.id records c.args.conflicts) c.in-NotFound.is c.in_ok-answer.ensures.about in
      records_without_order c.args.conflicts c.args.history.now c.args.doc records c.in_ok-records.ensures complete about.3,
  λ _. refl,
)
