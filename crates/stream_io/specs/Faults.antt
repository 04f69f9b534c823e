-- Which faults a stream returns.
use Rattle.std.specs.Prelude.{◌⊎◌, ◌≡◌}
use Rattle.api_lines.specs.declared.line_input.InputFault.{InputFault}
use Rattle.api_lines.specs.declared.line_input.InputFault.TheVariants as input
use Rattle.stream_io.specs.declared.stream_fault.StreamFault.{StreamFault}
use Rattle.stream_io.specs.declared.stream_fault.StreamFault.TheVariants.{Read, Write, NoMemory, Worker, Recording, Setting}

-- a fault of the input as one of a stream, of the same name
abbrev pub input_fault : InputFault → StreamFault
input_fault input.Read = Read
input_fault input.NoMemory = NoMemory

-- the reader failed, or memory was refused: Read or NoMemory
abbrev pub IsReadingFault : StreamFault → Type 0
IsReadingFault Read = Unit {0}
IsReadingFault Write = ⊥
IsReadingFault NoMemory = Unit {0}
IsReadingFault (Worker doc) = ⊥
IsReadingFault Recording = ⊥
IsReadingFault Setting = ⊥

-- the same, or a worker was lost: Read, NoMemory or Worker
abbrev pub IsCheckFault : StreamFault → Type 0
IsCheckFault Read = Unit {0}
IsCheckFault Write = ⊥
IsCheckFault NoMemory = Unit {0}
IsCheckFault (Worker doc) = Unit {0}
IsCheckFault Recording = ⊥
IsCheckFault Setting = ⊥

-- a fault of a stream that reads, judges with this thread alone, and writes: Read, NoMemory or Write
-- Source: profile.
abbrev pub IsStreamFault : StreamFault → Type 0
IsStreamFault fault = IsReadingFault fault ⊎ (fault ≡ Write)

-- a fault of a stream that has workers: Read, NoMemory, Worker or Write
-- Source: profile.
abbrev pub IsWorkedFault : StreamFault → Type 0
IsWorkedFault fault = IsCheckFault fault ⊎ (fault ≡ Write)
