use Rattle.std.proofs.Common.{◌∙◌, ◌++◌, ◌∷◌, [], subst, sym}
use Rattle.covers.specs.aids.Searched.{AreKept}
use Rattle.covers.proofs.FoundLemmas.{kept_snoc}
use Rattle.covers.proofs.Yielded.{all_given, next_given}
use Rattle.covers.proofs.second_look.answers_again.Goals as goal

pub loop-answer-init : goal.loop-answer-init
loop-answer-init c = (
  tt,
  tt,
  c.into_iter-answer-iterator.ensures.into_iter_gives.0,
  subst (AreKept []) (sym c.in_ok-others.ensures.items) tt,
)

pub loop-answer-preserved : goal.loop-answer-preserved
loop-answer-preserved c = (
  tt,
  tt,
  next_given c.loop-answer.yielded c.loop-answer.answer-iterator.rest.items c.next.new.self.rest.items c.args.answers.items c.in-Some.answer c.in-Some.ensures.steps.0
      c.loop-answer.invariant.2,
  subst (AreKept (c.loop-answer.yielded ++ c.in-Some.answer ∷ [])) (sym c.in_ok-push.ensures.items)
      (kept_snoc c.loop-answer.yielded c.loop-answer.others.items c.in-Some.answer c.in_ok-answer_again.field-0 c.loop-answer.invariant.3 c.in_ok-answer_again.ensures),
)

pub returns : goal.returns
returns c =
    subst (λ vs. AreKept vs c.loop-answer.others.items)
    (all_given c.loop-answer.yielded c.loop-answer.answer-iterator.rest.items c.args.answers.items
    (sym c.loop-answer.answer-iterator.rest.ok.0 ∙ c.in-None.ensures.steps.0) c.loop-answer.invariant.2)
    c.loop-answer.invariant.3
