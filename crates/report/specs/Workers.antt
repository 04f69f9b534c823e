-- How many workers may search, and which documents a fault of a stream names.
use Rattle.std.specs.Prelude.{◌<◌, ◌≤◌, ℕ, List, Option, IfSome, length}
use Rattle.events.specs.declared.event.Event.{Event}
use Rattle.events.specs.Events.{documents_of}
use Rattle.history.specs.Text.{IsHistoryText}
use Rattle.stream_io.specs.declared.stream_fault.StreamFault.{StreamFault}
use Rattle.stream_io.specs.declared.stream_fault.StreamFault.TheVariants.{Read, Write, NoMemory, Worker, Recording, Setting}

-- that many workers may search: 1 to 16
-- Source: profile.
abbrev pub AreWorkers : ℕ → Type 0
AreWorkers count = (1 ≤ count) × (count ≤ 16)

-- if the fault is Worker with a number, the history has a document of that number
abbrev pub HasDocument : List Event → StreamFault → Type 0
HasDocument events Read = Unit {0}
HasDocument events Write = Unit {0}
HasDocument events NoMemory = Unit {0}
HasDocument events (Worker doc) = doc < length (documents_of events)
HasDocument events Recording = Unit {0}
HasDocument events Setting = Unit {0}

-- if the fault is Worker with a number, the bytes are a text of a history that has a document of that number
-- Source: profile.
abbrev pub NamesDocument : List ℕ → StreamFault → Type 0
NamesDocument bytes Read = Unit {0}
NamesDocument bytes Write = Unit {0}
NamesDocument bytes NoMemory = Unit {0}
NamesDocument bytes (Worker doc) = (events : List Event) × IsHistoryText bytes events × (doc < length (documents_of events))
NamesDocument bytes Recording = Unit {0}
NamesDocument bytes Setting = Unit {0}

-- the same for the bytes of a reader, if they are known
abbrev pub NamesOwnDocument : Option (List ℕ) → StreamFault → Type 0
NamesOwnDocument input fault = IfSome input (λ bytes. NamesDocument bytes fault)
