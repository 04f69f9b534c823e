use Rattle.std.proofs.Common.{refl, ◌≡◌, ◌∙◌, ◌++◌, ◌∷◌, [], Some, slice_get, sym, ap, subst, true≢false}
use Rattle.version_pair.proofs.ListLemmas.{same_some}
use Rattle.events.specs.declared.record.Rec.{Rec}
use Rattle.deciding.specs.aids.Candidates.{facts_of}
use Rattle.deciding.specs.Branches.{Covers}
use Rattle.deciding.specs.Steps.{MayPerform, performed}
use Rattle.deciding.specs.aids.Rows.{branch_of}
use Rattle.deciding.proofs.ItemLemmas.{copied_get}
use Rattle.deciding.proofs.StepLemmas.{last_row, more_rows, same_rows}
use Rattle.deciding.proofs.document.Document.push_step.Goals as goal

pub returns-in_ok-push : goal.returns-in_ok-push
returns-in_ok-push c = record {
  ok = λ d placed moment. (
      let next = c.in_ok-next.ensures records d.versions.known placed in (
        more_rows records c.args.rows.now.items c.push.new.self.items c.in_ok-next.next c.in_ok-push.ensures.items next.0,
        λ r may. (
          c.in_ok-next.next,
          last_row c.args.rows.now.items c.push.new.self.items c.in_ok-next.next c.in_ok-push.ensures.items,
          subst (λ (call : Rec). Covers records (branch_of c.in_ok-next.next) (performed records c.args.moment.now.event (branch_of c.args.row.now) c.args.number call c.args.pair)) (one r may.at) next.1,
        ),
      )
      );
} where
  records : Rattle.std.proofs.Common.List Rec
  records = c.args.self.now.records.now

  found : slice_get records c.args.number ≡ Some c.in-Some.call
  found = sym (copied_get records c.args.number c.get.result c.get.ensures.lookup) ∙ (sym c.copied.ensures ∙ c.in-Some.is)

  one : (r : Rec) → slice_get records c.args.number ≡ Some r → c.in-Some.call ≡ r
  one r at = same_some c.in-Some.call r (sym found ∙ at)

pub returns-else-may_perform : goal.returns-else-may_perform
returns-else-may_perform c = record {
  ok = λ d placed moment. (
    same_rows records c.args.rows.now.items,
    λ r may. absurd (true≢false (sym (c.may_perform.ensures (facts_of c.args.self.now) records refl d.versions placed moment.made
        (subst (λ (call : Rec). MayPerform (facts_of c.args.self.now) records c.args.moment.now.event (branch_of c.args.row.now) c.args.number call c.args.pair) (sym (one r may.at)) may)) ∙ c.if-may_perform.false)),
  );
} where
  records : Rattle.std.proofs.Common.List Rec
  records = c.args.self.now.records.now

  found : slice_get records c.args.number ≡ Some c.in-Some.call
  found = sym (copied_get records c.args.number c.get.result c.get.ensures.lookup) ∙ (sym c.copied.ensures ∙ c.in-Some.is)

  one : (r : Rec) → slice_get records c.args.number ≡ Some r → c.in-Some.call ≡ r
  one r at = same_some c.in-Some.call r (sym found ∙ at)
