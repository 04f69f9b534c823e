use Rattle.std.proofs.Common.{ℕ, ◌≤◌}
use Rattle.doc_register.specs.declared.reply.Reply.TheVariants.{Conflict}
use Rattle.doc_check.specs.aids.Stretches.{IsReadIn}
use Rattle.doc_check.proofs.stretches.Stretches.other_than_asked.Given as goal

abbrev pub invariant-loop-bound : goal.invariant-loop-bound
invariant-loop-bound l = (l.stretch ≤ l.bound) × ((j : ℕ) → j ≤ l.bound → IsReadIn l.self.states.items l.found.op Conflict j → j ≤ l.stretch)

abbrev pub decreases-loop-bound : goal.decreases-loop-bound
decreases-loop-bound l = l.stretch
