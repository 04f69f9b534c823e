use Rattle.std.proofs.Common.{subst, sym, ap, Some, None, ◌∙◌, ◌≡◌, slice_get}
use Rattle.deciding.specs.Above.{IsLeastAbove}
use Rattle.deciding.specs.aids.KnownPairs.{IsNextKnown}
use Rattle.deciding.proofs.BesideLemmas.{next_known, no_next}
use Rattle.deciding.proofs.ItemLemmas.{copied_get}
use Rattle.deciding.proofs.known.Known.next_known.Goals as goal

pub returns-in_err-least : goal.returns-in_err-least
returns-in_err-least c records known =
    let none : IsLeastAbove c.args.lower None = subst (IsLeastAbove c.args.lower) c.in_err-least.was c.least_above.ensures in
    subst (IsNextKnown records c.args.lower) (sym c.from_residual.ensures) (no_next records c.args.lower none)

pub returns : goal.returns
returns c records known =
    let p = c.in_ok-least.least in
    let vs = c.args.self.now.pairs.items in
    let least : IsLeastAbove c.args.lower (Some p) = subst (IsLeastAbove c.args.lower) c.in_ok-least.was c.least_above.ensures in
    let got : c.copied.result ≡ slice_get vs c.count_below.result = c.copied.ensures ∙ (copied_get c.deref.result.now c.count_below.result c.get.result c.get.ensures.lookup ∙ ap (λ xs. slice_get xs c.count_below.result) c.deref.ensures.value) in
    next_known records vs c.args.lower p c.copied.result known least (got ∙ ap (slice_get vs) (c.count_below.ensures.exact records known))
