use Rattle.std.proofs.Common.{◌≡◌, [], ◌∷◌, ◌++◌, length, append-nil, append_assoc, sym, ap, ◌∙◌, arith}
use Rattle.std.proofs.lemmas.List.{length-set}
use Rattle.std.proofs.lemmas.Result.{IfErr-weaker, IfOk-weaker, err_from_is_err_and}
use Rattle.check_pool.proofs.Lists.{empty-from_length, written-back}
use Rattle.check_pool.proofs.SlotLemmas.{AreAnswers-from_full, AreFilled-snoc, AreFilled-start, IsFaultOf-from_empty, IsFaultOf-from_refused}
use Rattle.check_pool.proofs.collector.collect.Goals as goal

pub loop-message-init : goal.loop-message-init
loop-message-init c = record {
  came = c.into_iter-message-iterator.ensures.into_iter_gives.0;
  filled = AreFilled-start c.args.jobs.now c.in_ok-slots.slots.items (sym c.in_ok-slots.slots.ok.0 ∙ c.in_ok-slots.ensures.count) c.in_ok-slots.ensures.empty;
}

pub loop-message-preserved : goal.loop-message-preserved
loop-message-preserved c =
    let same : c.loop-message.slots.len ≡ length c.take.new.slots =
    c.loop-message.slots.ok.0 ∙ sym (ap length c.in_ok-take.ensures.slots ∙ (length-set _ _ _ ∙ ap length c.deref_mut.ensures.value)) in record {
      came = rw (append_assoc) (rw c.in-Some.ensures.steps.0 at c.loop-message.invariant.came);
      filled = rw (written-back c.loop-message.slots.len c.take.new.slots _ same, c.in_ok-take.ensures.slots, c.deref_mut.ensures.value)
          (AreFilled-snoc c.args.jobs.now c.loop-message.yielded c.loop-message.slots.items c.in-Some.message c.loop-message.invariant.filled
          c.in_ok-take.ensures.job (rw c.deref_mut.ensures.value at c.in_ok-take.ensures.free) c.in_ok-take.ensures.searched);
    }

pub returns-in_err-take-clause-fault : goal.returns-in_err-take-clause-fault
returns-in_err-take-clause-fault c =
    let p = err_from_is_err_and c.from_residual-in_err-take.result c.from_residual-in_err-take.ensures.1 in
    let came : c.loop-message.yielded ++ c.in-Some.message ∷ _ ≡ c.args.messages.items = rw c.in-Some.ensures.steps.0 at c.loop-message.invariant.came in
    rw (p.1, p.2, ← came)
    (IsFaultOf-from_refused c.args.jobs.now c.loop-message.yielded _ c.loop-message.slots.items c.in-Some.message c.args.starved c.in_err-take.field-0.0
    c.loop-message.invariant.filled (rw c.deref_mut.ensures.value at c.in_err-take.ensures.fault))

pub returns-clause-ok : goal.returns-clause-ok
returns-clause-ok c =
    IfOk-weaker c.answers_of.result _ _
    (λ answers all. AreAnswers-from_full c.args.jobs.now c.loop-message.yielded c.loop-message.slots.items answers.items c.loop-message.invariant.filled all)
    c.answers_of.ensures.ok

pub returns-clause-complete : goal.returns-clause-complete
returns-clause-complete c =
    let rest : c.loop-message.message-iterator.rest.items ≡ [] = empty-from_length _ (omega (arith, c.in-None.ensures.steps.0, c.loop-message.message-iterator.rest.ok.0)) in
    let came : c.loop-message.yielded ≡ c.args.messages.items = sym (append-nil _) ∙ (rw rest at c.loop-message.invariant.came) in
    IfOk-weaker c.answers_of.result _ _ (λ answers all. (c.if-starved.false, rw (← came) c.loop-message.invariant.filled.of_jobs)) c.answers_of.ensures.ok

pub returns-clause-fault : goal.returns-clause-fault
returns-clause-fault c =
    let rest : c.loop-message.message-iterator.rest.items ≡ [] = empty-from_length _ (omega (arith, c.in-None.ensures.steps.0, c.loop-message.message-iterator.rest.ok.0)) in
    let came : c.loop-message.yielded ≡ c.args.messages.items = sym (append-nil _) ∙ (rw rest at c.loop-message.invariant.came) in
    IfErr-weaker c.answers_of.result _ _
    (λ fault empty. rw (c.if-starved.false, ← came)
    (IsFaultOf-from_empty c.args.jobs.now c.loop-message.yielded c.loop-message.slots.items fault c.loop-message.invariant.filled empty))
    c.answers_of.ensures.fault
