use Rattle.stream_io.proofs.PieceLemmas.{kept_appends}
use Rattle.stream_io.proofs.output.write_some.Goals as goal

pub returns-in-Err-clause-none : goal.returns-in-Err-clause-none
returns-in-Err-clause-none g c = kept_appends _ _ c.in-Err.ensures.bytes
