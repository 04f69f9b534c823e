-- What is taken from a reader that nobody asked.
use Rattle.std.proofs.Common.{List, Option, [], ℕ}
use Rattle.api_lines.proofs.InputLemmas.{none_taken}
use Rattle.stream_io.specs.Taken.{TakesHistory, TakesWitness}
use Rattle.history.specs.Reading.{takes_value as takes_event}
use Rattle.witness.specs.Text.{takes_value as takes_place}

pub witness_unasked : (input : Option (List ℕ)) → TakesWitness input input
witness_unasked input = none_taken takes_place [] input
