use Rattle.std.proofs.Common.{◌≡◌, ◌++◌}
use Rattle.covers.specs.aids.Searched.{AreKept}
use Rattle.covers.proofs.second_look.answers_again.Given as goal

abbrev pub invariant-loop-answer : goal.invariant-loop-answer
invariant-loop-answer l =
    (goal.iterator-loop-answer).can_next l.answer-iterator × (goal.iterator-loop-answer).is_finite l.answer-iterator
    × (l.yielded ++ l.answer-iterator.rest.items ≡ l.fn.answers.items) × AreKept l.yielded l.others.items
