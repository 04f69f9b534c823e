use Rattle.std.proofs.Common.{length}
use Rattle.api_lines.specs.aids.BulkReading.{so_far}
use Rattle.api_lines.proofs.BulkLemmas.{IsTakenUpTo}
use Rattle.api_lines.proofs.bulk.read_bulk.Given as goal

abbrev pub invariant-loop-rest : goal.invariant-loop-rest
invariant-loop-rest l = IsTakenUpTo l.body l.rest l.number (so_far l.bulk)

abbrev pub decreases-loop-rest : goal.decreases-loop-rest
decreases-loop-rest l = length l.rest
