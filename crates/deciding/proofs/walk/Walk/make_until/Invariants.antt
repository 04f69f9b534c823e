use Rattle.deciding.specs.aids.Candidates.{IsDocument}
use Rattle.deciding.specs.aids.Walks.{IsPassedTo}
use Rattle.deciding.proofs.walk.Walk.make_until.Given as goal

abbrev pub invariant-loop-number : goal.invariant-loop-number
invariant-loop-number l = IsDocument l.document → IsPassedTo l.document l.from l.event l.initial.self → IsPassedTo l.document l.number l.event l.self
