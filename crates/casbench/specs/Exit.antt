-- The exit statuses.
use Rattle.std.specs.Prelude.{ℕ, if◌then◌else◌, nat_lt}
use Rattle.casbench.specs.declared.outcome.Outcome.{Outcome}
use Rattle.casbench.specs.declared.outcome.Outcome.TheVariants.{Answered, TooFew}
use Rattle.clap.specs.declared.error.kind.ErrorKind.{ErrorKind}
use Rattle.clap.specs.declared.error.kind.ErrorKind.TheVariants.{DisplayHelp, DisplayVersion, OutOfMemory}
use Rattle.stream_io.specs.declared.status.Status.{Status}
use Rattle.stream_io.specs.declared.status.Status.TheVariants.{Yes, No, Refuted, Refused}
use Rattle.stream_io.specs.declared.stream_fault.StreamFault.{StreamFault}
use Rattle.stream_io.specs.declared.stream_fault.StreamFault.TheVariants.{Read, Write, NoMemory, Worker, Recording, Setting}

-- the exit status for an answer: 0 for Yes, 1 for No and Refuted, 2 for Refused
-- Source: profile.
abbrev pub code_of_status : Status → ℕ
code_of_status Yes = 0
code_of_status No = 1
code_of_status Refuted = 1
code_of_status Refused = 2

-- the exit status for what a command came to: that of the answer, or 6 for TooFew
-- Source: profile.
abbrev pub code_of_outcome : Outcome → ℕ
code_of_outcome (Answered status) = code_of_status status
code_of_outcome TooFew = 6

-- How bad the outcome of a text is among those of several: that an order is missing counts more than that a text is
-- refused, this more than too few calls, and these more than a yes.
-- Source: profile.
abbrev pub severity_of : Outcome → ℕ
severity_of (Answered Yes) = 0
severity_of TooFew = 1
severity_of (Answered Refused) = 2
severity_of (Answered No) = 3
severity_of (Answered Refuted) = 3

-- the worse outcome, and the first of two that are equally bad
-- Source: profile.
abbrev pub worse_outcome : Outcome → Outcome → Outcome
worse_outcome first second = if nat_lt (severity_of first) (severity_of second) then second else first

-- the exit status for a fault: 3 for NoMemory, 4 for Read and Write, 5 for Worker and Recording, 64 for
-- Setting
-- Source: profile.
abbrev pub code_of_fault : StreamFault → ℕ
code_of_fault NoMemory = 3
code_of_fault Read = 4
code_of_fault Write = 4
code_of_fault (Worker doc) = 5
code_of_fault Recording = 5
code_of_fault Setting = 64

-- the exit status for arguments that ask for no answer, by the kind of `clap`'s error: 0 for help and the
-- version, 3 if out of memory, otherwise 64
-- Source: profile.
abbrev pub code_of_arguments : ErrorKind → ℕ
code_of_arguments DisplayHelp = 0
code_of_arguments DisplayVersion = 0
code_of_arguments OutOfMemory = 3
code_of_arguments _ = 64
