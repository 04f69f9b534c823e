-- What the locked recording refuses to append.
use Rattle.std.specs.Prelude.{ℕ, List, length, Option, Some, None, Result, Ok, Err, nat_lt, if◌then◌else◌}
use Rattle.events.specs.declared.event.Event.{Event}
use Rattle.events.specs.Refusal.{most_events}
use Rattle.recorder.specs.declared.fault.RecFault.{RecFault}
use Rattle.recorder.specs.declared.fault.RecFault.TheVariants.{NotMine, Ended, Kind, Full, NoMemory, Rewound}

-- the recording has the most events that it can have
abbrev pub when_full : List Event → Option RecFault
when_full events = if nat_lt (length events) most_events then None else Some Full

-- the first reason to refuse an event of a pen with this last number
abbrev pub append_refusal : List Event → Option ℕ → Option RecFault
append_refusal events None = when_full events
append_refusal events (Some last) = if nat_lt last (length events) then when_full events else Some (Rewound (length events))

-- the reason that an answer reports; being out of memory is none
abbrev pub append_reported : Result ℕ RecFault → Option RecFault
append_reported (Ok n) = None
append_reported (Err NotMine) = Some NotMine
append_reported (Err Ended) = Some Ended
append_reported (Err Kind) = Some Kind
append_reported (Err Full) = Some Full
append_reported (Err NoMemory) = None
append_reported (Err (Rewound n)) = Some (Rewound n)
