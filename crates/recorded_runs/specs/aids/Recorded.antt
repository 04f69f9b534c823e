-- The reasons why there is no recording of a run.
use Rattle.std.specs.Prelude.{Bool, false, true, Result, Ok, Err}
use Rattle.recorder.specs.declared.fault.RecFault.TheVariants as recording
use Rattle.events.specs.declared.fault.HistFault.TheVariants as refused
use Rattle.workload.specs.declared.play_fault.PlayFault.{PlayFault}
use Rattle.workload.specs.declared.play_fault.PlayFault.TheVariants as play
use Rattle.workload.specs.declared.run_fault.RunFault.{RunFault}
use Rattle.workload.specs.declared.run_fault.RunFault.TheVariants as run
use Rattle.workload.specs.declared.target.TargetFault.TheVariants as target
use Rattle.repl_group.specs.declared.fault.CoreFault.{CoreFault}
use Rattle.repl_group.specs.declared.fault.CoreFault.TheVariants.{Copies}
use Rattle.repl_group.specs.declared.fault.CoreFault.TheVariants as core
use Rattle.stream_io.specs.declared.stream_fault.StreamFault.{StreamFault}
use Rattle.stream_io.specs.declared.stream_fault.StreamFault.TheVariants.{Read, Write, NoMemory, Worker, Recording, Setting}

-- a fault of a run of clients: that memory was refused, wherever it was, or that something was refused
abbrev pub stream_fault_of : RunFault → StreamFault
stream_fault_of (run.Record recording.NotMine) = Recording
stream_fault_of (run.Record recording.Ended) = Recording
stream_fault_of (run.Record recording.Kind) = Recording
stream_fault_of (run.Record recording.Full) = Recording
stream_fault_of (run.Record recording.NoMemory) = NoMemory
stream_fault_of (run.Record (recording.Rewound n)) = Recording
stream_fault_of (run.Target target.Full) = Recording
stream_fault_of (run.Target target.NoMemory) = NoMemory
stream_fault_of run.NoMemory = NoMemory

-- a fault of clients that are played, likewise
abbrev pub stream_fault_of_play : PlayFault → StreamFault
stream_fault_of_play (play.Event refused.SecondCall) = Recording
stream_fault_of_play (play.Event refused.NoCall) = Recording
stream_fault_of_play (play.Event refused.Ended) = Recording
stream_fault_of_play (play.Event refused.Kind) = Recording
stream_fault_of_play (play.Event refused.Full) = Recording
stream_fault_of_play (play.Event refused.NoMemory) = NoMemory
stream_fault_of_play (play.Event refused.ShardMoved) = Recording
stream_fault_of_play (play.Target target.Full) = Recording
stream_fault_of_play (play.Target target.NoMemory) = NoMemory
stream_fault_of_play play.NoMemory = NoMemory

-- the fault comes from recording, and not from the setting
abbrev pub IsOfRecording : StreamFault → Type 0
IsOfRecording Read = ⊥
IsOfRecording Write = ⊥
IsOfRecording NoMemory = Unit {0}
IsOfRecording (Worker doc) = ⊥
IsOfRecording Recording = Unit {0}
IsOfRecording Setting = ⊥

-- the result is that the number of copies is refused
abbrev pub reports_copies : {X : Type 0} → Result X CoreFault → Bool
reports_copies (Ok x) = false
reports_copies (Err Copies) = true
reports_copies (Err core.NoMemory) = false
