use Rattle.std.proofs.Common.{◌≡◌, ◌<◌, ◌++◌, All, drop, length}
use Rattle.write_chain.specs.AnsweredCalls.{answers_from}
use Rattle.write_chain.proofs.answers.answered_calls.Given as goal

abbrev pub invariant-loop-k : goal.invariant-loop-k
invariant-loop-k l = (l.answers.items ++ answers_from l.k (drop l.k l.records) ≡ answers_from 0 l.records)
    × All (λ answer. answer.rec < length l.records) l.answers.items
