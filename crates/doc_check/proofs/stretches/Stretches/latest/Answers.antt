use Rattle.std.proofs.Common.{subst, sym, ◌∙◌}
use Rattle.std.specs.Prelude.{IfSome, IfNone}
use Rattle.doc_check.specs.aids.Stretches.{FitsAs, HoldsNowhere, IsLatest}
use Rattle.doc_check.proofs.stretches.Stretches.latest.Goals as goal

pub returns-in-Some-clause-some : goal.returns-in-Some-clause-some
returns-in-Some-clause-some c =
    subst (λ d. IfSome c.of_write.result (IsLatest (FitsAs d c.args.self.now.chain.items c.args.self.now.states.items c.args.rec c.args.found.now) c.args.bound))
    (sym c.in-Some.is ∙ c.pair_taken.ensures) c.of_write.ensures.some

pub returns-in-Some-clause-none : goal.returns-in-Some-clause-none
returns-in-Some-clause-none c =
    subst (λ d. IfNone c.of_write.result (HoldsNowhere (FitsAs d c.args.self.now.chain.items c.args.self.now.states.items c.args.rec c.args.found.now) c.args.bound))
    (sym c.in-Some.is ∙ c.pair_taken.ensures) c.of_write.ensures.none
