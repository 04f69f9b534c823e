-- Which faults the commands return.
use Rattle.command_line.specs.declared.request.Request.{Request}
use Rattle.command_line.specs.declared.request.Request.TheVariants as request
use Rattle.recorded_runs.specs.Runs.{IsRunFault}
use Rattle.stream_io.specs.Faults.{IsStreamFault, IsWorkedFault}
use Rattle.stream_io.specs.declared.stream_fault.StreamFault.{StreamFault}

-- the fault is one that the stream of the command may return: `IsWorkedFault` of a check, explained or not,
-- `IsRunFault` of a run or a search, `IsStreamFault` of any other
-- Source: profile.
abbrev pub MayFail : Request → StreamFault → Type 0
MayFail (request.Check file reading workers ruling least) fault = IsWorkedFault fault
MayFail (request.CheckEach files form reading workers ruling least) fault = IsWorkedFault fault
MayFail (request.Witness file form reading ruling) fault = IsStreamFault fault
MayFail (request.Verify history witness form reading) fault = IsStreamFault fault
MayFail (request.Bulk body reply first) fault = IsStreamFault fault
MayFail (request.Run setting manner) fault = IsRunFault fault
MayFail (request.Search seeds setting disturbance) fault = IsRunFault fault
MayFail (request.Explain file form reading workers ruling page) fault = IsWorkedFault fault
