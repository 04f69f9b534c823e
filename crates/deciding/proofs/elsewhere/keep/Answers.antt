use Rattle.std.proofs.Common.{sym, subst, Some, None}
use Rattle.std.proofs.lemmas.Result.{on_ok_weaker}
use Rattle.version_pair.proofs.ListLemmas.{none_is_not_some, same_some}
use Rattle.deciding.specs.Above.{IsLeastAbove}
use Rattle.deciding.specs.aids.Ends.{IsFreeFrom}
use Rattle.deciding.proofs.EndLemmas.{end_after, ends_too, kept_or_itself, kept_too, stays_kept}
use Rattle.deciding.proofs.elsewhere.keep.Goals.{in-Some, in-None}
use Rattle.deciding.proofs.elsewhere.keep.Goals as goal

pub returns-clause-kept : goal.returns-clause-kept
returns-clause-kept c =
    on_ok_weaker c.set_end.result (λ too q is. kept_or_itself c.args.ends.now c.set_end.new.ends c.args.pair c.match-least_above.end q too is)
    (kept_too c.set_end.result c.args.ends.now c.set_end.new.ends c.args.pair c.match-least_above.end c.set_end.ensures.own c.set_end.ensures.others)

pub returns-clause-stays : goal.returns-clause-stays
returns-clause-stays c =
    on_ok_weaker c.set_end.result (λ too q is. stays_kept c.args.ends.now c.set_end.new.ends c.args.pair c.match-least_above.end q too is)
    (kept_too c.set_end.result c.args.ends.now c.set_end.new.ends c.args.pair c.match-least_above.end c.set_end.ensures.own c.set_end.ensures.others)

pub returns-clause-ends : goal.returns-clause-ends
returns-clause-ends c = elim c.match-least_above.branch [
  | in-Some w ↦ on_ok_weaker c.set_end.result
      (λ too has above. ends_too c.args.ends.now c.set_end.new.ends c.args.pair c.match-least_above.end too has above
      (end_after c.args.ends.now c.set_end.new.ends c.args.pair c.match-least_above.end (Some w.in-Some.next) too (subst (IsLeastAbove (Some c.args.pair)) w.in-Some.is c.least_above.ensures)
      (λ n is. subst (IsFreeFrom c.args.ends.now n) (sym w.end-is) (subst (λ p. IsFreeFrom c.args.ends.now p w.free_from-end.result) (same_some w.in-Some.next n is) (w.free_from-end.ensures has)))
      (λ none. absurd (none_is_not_some w.in-Some.next (sym none)))))
      (kept_too c.set_end.result c.args.ends.now c.set_end.new.ends c.args.pair c.match-least_above.end c.set_end.ensures.own c.set_end.ensures.others)
  | in-None w ↦ on_ok_weaker c.set_end.result
      (λ too has above. ends_too c.args.ends.now c.set_end.new.ends c.args.pair c.match-least_above.end too has above
      (end_after c.args.ends.now c.set_end.new.ends c.args.pair c.match-least_above.end None too (subst (IsLeastAbove (Some c.args.pair)) w.in-None.is c.least_above.ensures)
      (λ n is. absurd (none_is_not_some n is)) (λ none. w.end-is)))
      (kept_too c.set_end.result c.args.ends.now c.set_end.new.ends c.args.pair c.match-least_above.end c.set_end.ensures.own c.set_end.ensures.others)
]
