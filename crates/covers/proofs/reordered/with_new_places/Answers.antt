use Rattle.std.proofs.Common.{◌∙◌, ◌++◌, ◌∷◌, [], subst, sym}
use Rattle.std.specs.Prelude.{IfSome}
use Rattle.covers.specs.aids.Searched.{AreAlike, IsAlike}
use Rattle.covers.proofs.FoundLemmas.{alike_snoc}
use Rattle.covers.proofs.Yielded.{all_given, next_given}
use Rattle.covers.proofs.reordered.with_new_places.Goals as goal

pub loop-witness-init : goal.loop-witness-init
loop-witness-init c = (
  tt,
  tt,
  c.into_iter-witness-iterator.ensures.into_iter_gives.0,
  subst (AreAlike []) (sym c.in_ok-others.ensures.items) tt,
)

pub loop-witness-preserved : goal.loop-witness-preserved
loop-witness-preserved c =
    let alike : IsAlike c.in-Some.witness c.in-Some-2.other = subst (λ o. IfSome o (IsAlike c.in-Some.witness)) c.in-Some-2.is c.in_ok-other.ensures in (
      tt,
      tt,
      next_given c.loop-witness.yielded c.loop-witness.witness-iterator.rest.items c.next.new.self.rest.items c.args.witnesses.items c.in-Some.witness c.in-Some.ensures.steps.0
          c.loop-witness.invariant.2,
      subst (AreAlike (c.loop-witness.yielded ++ c.in-Some.witness ∷ [])) (sym c.in_ok-push.ensures.items)
          (alike_snoc c.loop-witness.yielded c.loop-witness.others.items c.in-Some.witness c.in-Some-2.other c.loop-witness.invariant.3 alike),
    )

pub returns : goal.returns
returns c =
    subst (λ vs. AreAlike vs c.loop-witness.others.items)
    (all_given c.loop-witness.yielded c.loop-witness.witness-iterator.rest.items c.args.witnesses.items
    (sym c.loop-witness.witness-iterator.rest.ok.0 ∙ c.in-None.ensures.steps.0) c.loop-witness.invariant.2)
    c.loop-witness.invariant.3
