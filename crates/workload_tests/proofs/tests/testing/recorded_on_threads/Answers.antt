use denote.Param.Send.{sendable}
use Rattle.recorder.proofs.SharedLemmas.{clock_recorder_sync}
use Rattle.workload_tests.proofs.tests.testing.recorded_on_threads.Goals as goal

pub run_clients-requires-sync-X : goal.run_clients-requires-sync-X
run_clients-requires-sync-X g c κs within = search (sendable, clock_recorder_sync) depth 20
