-- Plans: the turns of each client, and which lists of turns are not a plan.
use Rattle.std.specs.Prelude.{ℕ, ◌==◌, ◌||◌, Bool, List, Option, Some, None, Result, Ok, Err, if◌then◌else◌, length, nat_le, nat_lt, option_and_then, slice_get, sum_by}
use Rattle.std.specs.List.{list_any}
use Rattle.workload.specs.declared.plan_fault.PlanFault.{PlanFault}
use Rattle.workload.specs.declared.plan_fault.PlanFault.TheVariants.{Zero, TooMany, NoMemory}
use Rattle.workload.specs.declared.turn.Turn.{Turn}

-- the greatest number of clients of a plan: 8
-- Source: profile.
abbrev pub most_clients : ℕ
most_clients = 8

-- the greatest number of turns of all clients of a plan together: 524,288
-- Source: profile.
abbrev pub most_turns : ℕ
most_turns = 524288

-- the greatest number of documents of a plan: 1,024
-- Source: profile.
abbrev pub most_docs : ℕ
most_docs = 1024

-- a client without turns
-- Source: profile.
abbrev pub is_idle : List Turn → Bool
is_idle turns = length turns == 0

-- a turn of a document number of 1,024 or more
-- Source: profile.
abbrev pub is_far : Turn → Bool
is_far turn = nat_le most_docs turn.doc

-- the number of turns that all clients have together
abbrev pub turn_count : List (List Turn) → ℕ
turn_count clients = sum_by length clients

-- there is no client, or one without turns
-- Source: profile.
abbrev pub lacks_turns : List (List Turn) → Bool
lacks_turns clients = length clients == 0 || list_any is_idle clients

-- there are more than 8 clients, more than 524,288 turns, or a turn of a document number of 1,024 or more
-- Source: profile.
abbrev pub is_too_large : List (List Turn) → Bool
is_too_large clients =
    nat_lt most_clients (length clients) || nat_lt most_turns (turn_count clients) || list_any (list_any is_far) clients

-- the first reason to refuse these turns, each list being those of a client: Zero if they lack turns, TooMany
-- if they are too large
-- Source: profile.
abbrev pub refusal_of : List (List Turn) → Option PlanFault
refusal_of clients = if lacks_turns clients then Some Zero else (if is_too_large clients then Some TooMany else None)

-- the reason that an answer reports; being out of memory is none
abbrev pub refusal_reported : {X : Type 0} → Result X PlanFault → Option PlanFault
refusal_reported (Ok x) = None
refusal_reported (Err Zero) = Some Zero
refusal_reported (Err TooMany) = Some TooMany
refusal_reported (Err NoMemory) = None

-- the turn of a client at an index; none after the last
abbrev pub turn_at : List (List Turn) → ℕ → ℕ → Option Turn
turn_at clients client i = option_and_then (λ turns. slice_get turns i) (slice_get clients client)
