-- What an incident and a poll do to a group.
use Rattle.std.specs.Prelude.{◌≡◌, ℕ, ◌+◌, ◌-◌, ◌%◌, ◌^◌, List, [], ◌∷◌, Ok, Result, if◌then◌else◌, length, nat_lt}
use Rattle.rand_pcg.specs.Lcg.{Lcg}
use Rattle.doc_register.specs.declared.op.Op.{Op}
use Rattle.repl_group.specs.Group.{GroupState, IsRun, start}
use Rattle.repl_group.specs.Polling.{Polls, Submits, generator_of}
use Rattle.repl_group.specs.declared.fault.Fault.{Fault}
use Rattle.repl_group.specs.declared.step.Step.{Step}
use Rattle.repl_group.specs.declared.step.Step.TheVariants.{Cut, Heal, Promote}
use Rattle.workload.specs.declared.target.Progress.{Progress}
use Rattle.workload.specs.declared.target.TargetFault.{TargetFault}
use Rattle.workload.specs.declared.target.Ticket.{Ticket}
use Rattle.disturbances.specs.Schedules.{incident_before, schedule_drawn}
use Rattle.disturbances.specs.declared.disturbance.Disturbance.{Disturbance}
use Rattle.disturbances.specs.declared.incident.Incident.{Incident}
use Rattle.disturbances.specs.declared.incident.Incident.TheVariants.{Quiet, CutOff, Reach, TakeOver}

-- The copy of this number beside the primary, of two copies or more: the next one after the primary has the
-- number 0, and numbers above the last start again with the first copy.
-- Source: profile.
abbrev pub other_copy : ℕ → ℕ → ℕ → ℕ
other_copy primary copies number = (primary + 1 + number % (copies - 1)) % copies

-- The steps of an incident, if this is the primary of two copies or more: `Cut`, or `Heal`, of the copy of
-- its number; or, of TakeOver, `Cut` of the primary, `Heal` and `Promote` of that copy, and `Heal` of the old
-- primary.
-- Source: profile.
abbrev pub steps_among : Incident → ℕ → ℕ → List Step
steps_among Quiet primary copies = []
steps_among (CutOff number) primary copies = Cut (other_copy primary copies number) ∷ []
steps_among (Reach number) primary copies = Heal (other_copy primary copies number) ∷ []
steps_among (TakeOver number) primary copies =
    Cut primary ∷ Heal (other_copy primary copies number) ∷ Promote (other_copy primary copies number) ∷ Heal primary ∷ []

-- The steps of an incident; none if the primary is the only copy.
-- Source: profile.
abbrev pub steps_of : Incident → ℕ → ℕ → List Step
steps_of incident primary copies = if nat_lt copies 2 then [] else steps_among incident primary copies

-- The group takes the steps of the incident, one after the other, whatever the answer to each.
-- Source: profile.
abbrev pub IsDisturbed : GroupState → Incident → GroupState → Type 0
IsDisturbed w incident n = IsRun w (steps_of incident w.primary (length w.copies)) n

-- The poll of that number: first the incident that the schedule has before it, followed by the poll
-- (`Polls`).
-- Source: profile.
abbrev pub PollsDisturbed : List Incident → ℕ → GroupState → Lcg → ℕ → Result Progress TargetFault → GroupState → Lcg → Type 0
PollsDisturbed schedule number w random t reported n random' =
    (m : GroupState) × IsDisturbed w (incident_before schedule number) m × Polls m random t reported n random'

-- ---- a group that one caller owns

-- A group that one caller owns.
pub record CountedState : Type 0 where
  -- the group
  pub core : GroupState
  -- the generator from which its steps are drawn
  pub random : Lcg
  -- the number of polls so far
  pub polls : ℕ

-- A group that one caller owns, and that is disturbed.
pub record DisturbedState : Type 0 where
  -- the group
  pub core : GroupState
  -- the generator from which its steps are drawn
  pub random : Lcg
  -- the number of polls so far
  pub polls : ℕ
  -- the incidents of the schedule by which it is disturbed
  pub schedule : List Incident

-- the group, disturbed by the schedule
abbrev pub with_schedule : CountedState → List Incident → DisturbedState
with_schedule counted schedule = record { core = counted.core; random = counted.random; polls = counted.polls; schedule = schedule }

-- a group at the start with this fault, with that many copies (`start`) and the generator of the seed,
-- before any poll
-- Source: profile.
abbrev pub counted_from : Fault → ℕ → ℕ → CountedState
counted_from fault copies seed = record { core = start fault copies; random = generator_of seed; polls = 0 }

-- the same, with the schedule that the seed draws
-- Source: profile.
abbrev pub disturbed_from : Fault → ℕ → ℕ → Disturbance → ℕ → DisturbedState
disturbed_from fault copies seed disturbance count = with_schedule (counted_from fault copies seed) (schedule_drawn disturbance seed count)

-- submitting op on id returns the ticket, and leads from old to new
-- Source: profile.
pub record SubmitsTicket (old : DisturbedState) (id : List ℕ) (op : Op) (ticket : Ticket) (new : DisturbedState) : Type 0 where
  -- the group takes the step Submit (`Submits`)
  pub submits : Submits old.core id op (Ok ticket) new.core
  -- the rest stays as it was
  pub rest_stays : new ≡ record old { core = new.core }

-- A poll that reports on a ticket.
-- Source: profile.
pub record ReportsProgress (old : DisturbedState) (ticket : Ticket) (progress : Progress) (new : DisturbedState) : Type 0 where
  -- it does what the poll of its number does (`PollsDisturbed`)
  pub polls : PollsDisturbed old.schedule old.polls old.core old.random ticket.0 (Ok progress) new.core new.random
  -- it is counted, modulo 2^64
  pub counted : new.polls ≡ (old.polls + 1) % 2 ^ 64
  -- the schedule stays as it was
  pub schedule_stays : new.schedule ≡ old.schedule
