use Rattle.std.proofs.Common.{◌≡◌, ◌++◌}
use Rattle.std.specs.Prelude.{map}
use Rattle.std.specs.Vec.Iter.{into_iter_items}
use Rattle.doc_check.specs.declared.search.DocAnswer.TheVariants.{Found}
use Rattle.covers.proofs.joined.witnesses_of.Given as goal

-- the witnesses so far are those of the answers that were passed
abbrev pub invariant-loop-answer : goal.invariant-loop-answer
invariant-loop-answer l = map Found l.witnesses.items ++ into_iter_items l.answer-iterator ≡ l.fn.answers.items
