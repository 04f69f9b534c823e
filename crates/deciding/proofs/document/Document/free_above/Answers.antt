use Rattle.std.proofs.Common.{refl, subst, sym, Some, None, ◌∙◌, true≢false}
use Rattle.version_pair.proofs.ListLemmas.{none_is_not_some, same_some}
use Rattle.version_pair.specs.PairOrder.{IsBelow}
use Rattle.deciding.specs.Above.{IsLeastAbove}
use Rattle.deciding.specs.aids.Candidates.{facts_of}
use Rattle.deciding.specs.aids.KnownPairs.{IsNextKnown}
use Rattle.deciding.proofs.BesideLemmas.{free_first, known_first}
use Rattle.deciding.proofs.document.Document.free_above.Goals as goal

pub returns-in-Some : goal.returns-in-Some
returns-in-Some c d =
    known_first (facts_of c.args.self.now) c.args.self.now.records.now c.args.self.now.elsewhere.now.ends c.args.lower c.in_ok-least_above.field-0 c.in_ok-free.free c.in-Some.next refl
    (subst (IsLeastAbove c.args.lower) c.in_ok-least_above.was c.least_above.ensures)
    c.in_ok-free.ensures
    (subst (IsNextKnown c.args.self.now.records.now c.args.lower) c.in-Some.is (c.next_known.ensures c.args.self.now.records.now d.versions.known))
    (λ below. true≢false (sym (c.is_below.ensures.1 below) ∙ c.if-not-is_below.true))

pub returns-in_default : goal.returns-in_default
returns-in_default c d =
    free_first (facts_of c.args.self.now) c.args.self.now.records.now c.args.self.now.elsewhere.now.ends c.args.lower c.in_ok-least_above.field-0 c.in_ok-free.free (Some c.in-Some.next) refl
    (subst (IsLeastAbove c.args.lower) c.in_ok-least_above.was c.least_above.ensures)
    c.in_ok-free.ensures
    (subst (IsNextKnown c.args.self.now.records.now c.args.lower) c.in-Some.is (c.next_known.ensures c.args.self.now.records.now d.versions.known))
    (λ v is. subst (IsBelow c.in_ok-free.free) (same_some c.in-Some.next v is) (c.is_below.ensures.0 c.if-not-is_below.false))

pub returns-in_default-2 : goal.returns-in_default-2
returns-in_default-2 c d =
    free_first (facts_of c.args.self.now) c.args.self.now.records.now c.args.self.now.elsewhere.now.ends c.args.lower c.in_ok-least_above.field-0 c.in_ok-free.free None refl
    (subst (IsLeastAbove c.args.lower) c.in_ok-least_above.was c.least_above.ensures)
    c.in_ok-free.ensures
    (subst (IsNextKnown c.args.self.now.records.now c.args.lower) c.in_default.is (c.next_known.ensures c.args.self.now.records.now d.versions.known))
    (λ v is. absurd (none_is_not_some v is))
