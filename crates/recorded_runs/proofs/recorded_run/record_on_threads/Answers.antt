use denote.Param.Send.{sendable}
use Rattle.std.proofs.Common.{◌∙◌, ap}
use Rattle.std.specs.Prelude.{replicate}
use Rattle.recorder.specs.Clock.{pen_states}
use Rattle.recorder.specs.Pens.{new_pen}
use Rattle.recorder.proofs.SharedLemmas.{clock_recorder_sync}
use Rattle.recorder.specs.Recordings.{lists_of}
use lib.LanesLaws.{map-replicate}
use Rattle.recorded_runs.proofs.recorded_run.record_on_threads.Goals as goal

pub run_clients-requires-sync-X : goal.run_clients-requires-sync-X
run_clients-requires-sync-X g c κs within = search (sendable, clock_recorder_sync) depth 20

pub returns-in-Ok-close-clause-run : goal.returns-in-Ok-close-clause-run
returns-in-Ok-close-clause-run g c = record {
  lists = lists_of (pen_states c.in-Ok-run_clients.pens.items);
  runs = c.in-Ok-run_clients.ensures.of_new_pens
      (ap (λ pens. pen_states pens) c.in-Ok.ensures.ok.1 ∙ map-replicate (λ pen. pen.pen) _ _ ∙ ap (λ count. replicate count new_pen) c.clients.ensures.count);
  recording = c.in-Ok-close.ensures.recording;
}
