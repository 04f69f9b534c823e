use Rattle.std.proofs.Common.{vec_len, ◌++◌, ◌≡◌}
use Rattle.std.specs.List.{enumerate_from}
use Rattle.std.specs.Vec.Iter.{into_iter_items}
use Rattle.workload.proofs.running.with_client_numbers.Given as goal

-- the pens so far have their numbers
abbrev pub invariant-loop-pen : goal.invariant-loop-pen
invariant-loop-pen g l = l.jobs.items ++ enumerate_from (vec_len l.jobs) (into_iter_items l.pen-iterator) ≡ enumerate_from 0 l.fn.pens.items
