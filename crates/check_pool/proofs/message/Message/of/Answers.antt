use Rattle.std.proofs.Common.{◌∙◌}
use Rattle.check_pool.specs.Answers.{IsSearchOf}
use Rattle.check_pool.proofs.MessageLemmas.{IsSearched-from_search}
use Rattle.check_pool.proofs.message.Message.of.Goals as goal

pub invariant_of-result : goal.invariant_of-result
invariant_of-result c =
    let s : IsSearchOf _ _ _ c.in_ok-answer.answer = record {
      about = c.in_ok-answer.ensures.about;
      replies = c.in_ok-answer.ensures.replies;
      complete = c.in_ok-answer.ensures.complete;
    } in IsSearched-from_search _ _ _ _ s

pub returns-clause-answer : goal.returns-clause-answer
returns-clause-answer c =
    rw (← c.in_ok-id.ensures, ← (c.in_ok-recs.ensures.items ∙ c.deref.ensures.value))
    (record {
      about = c.in_ok-answer.ensures.about;
      replies = c.in_ok-answer.ensures.replies;
      complete = c.in_ok-answer.ensures.complete;
    })
