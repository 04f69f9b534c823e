-- What is written of a run. A run is made with a setting (`RunSetting`), and goes in a manner: on threads or
-- in turns, with a disturbance of the group.
use Rattle.std.specs.Prelude.{ℕ, ◌*◌, ◌==◌, ◌||◌, Bool, List, is_some, nat_lt}
use Rattle.doc_register.specs.declared.op.Op.{Op}
use Rattle.events.specs.declared.event.Event.{Event}
use Rattle.history.specs.Text.{IsHistoryText}
use Rattle.workload.specs.ClientRuns.{AreOfClients}
use Rattle.workload.specs.Playing.{ArePlayed}
use Rattle.workload.specs.Drawing.{draw_refusal, plan_drawn}
use Rattle.workload.specs.declared.target.Progress.{Progress}
use Rattle.workload.specs.declared.target.Ticket.{Ticket}
use Rattle.workload.specs.declared.turn.Turn.{Turn}
use Rattle.disturbances.specs.Disturbed.{DisturbedState, SubmitsTicket, ReportsProgress, disturbed_from}
use Rattle.disturbances.specs.declared.disturbance.Disturbance.{Disturbance}
use Rattle.recorded_runs.specs.declared.run_setting.RunSetting.{RunSetting}
use Rattle.stream_io.specs.declared.stream_fault.StreamFault.{StreamFault}
use Rattle.stream_io.specs.declared.stream_fault.StreamFault.TheVariants.{Read, Write, NoMemory, Worker, Recording, Setting}

-- the greatest number of times that a client of a run polls a call: 1,000
-- Source: profile.
abbrev pub run_polls : ℕ
run_polls = 1000

-- the number of copies is not 1 to 5
-- Source: profile.
abbrev pub are_refused : ℕ → Bool
are_refused copies = copies == 0 || nat_lt 5 copies

-- a number of the plan or of the group is outside its range
-- Source: profile.
abbrev pub is_refused : RunSetting → Bool
is_refused setting = is_some (draw_refusal setting.clients setting.calls setting.docs) || are_refused setting.copies

-- the plan that the setting draws
abbrev pub plan_of : RunSetting → List (List Turn)
plan_of setting = plan_drawn setting.seed setting.clients setting.calls setting.docs

-- The group of the setting at its start: its copies, its fault, and the generator of its seed, with no poll
-- made; and the schedule that the seed draws for the disturbance: one incident for each call of all clients
-- (`disturbed_from`).
-- Source: profile.
abbrev pub group_at_start : RunSetting → Disturbance → DisturbedState
group_at_start setting disturbance = disturbed_from setting.fault setting.copies setting.seed disturbance (setting.clients * setting.calls)

-- ---- whatever the manner

-- What the target issued tickets for, and what it gave when they were polled.
module _ (issued : Ticket → List ℕ → Op → Type 0) (gave : Ticket → Progress → Type 0) where
  -- The events are those of a run, whatever its manner: the recording of pens, one for each client of the
  -- plan, and the list of each pen is the run of its client, which polls a call at most 1,000 times.
  -- Source: profile.
  abbrev pub IsRunOf : List (List Turn) → List Event → Type 0
  IsRunOf clients events = AreOfClients issued gave run_polls clients events

  -- the text is a text of such a history, of the clients that the setting draws
  -- Source: profile.
  pub record IsRunText (setting : RunSetting) (text : List ℕ) : Type 0 where
    pub events : List Event
    -- the events are those of a run of the clients that the setting draws
    pub run : IsRunOf (plan_of setting) events
    -- the text is a text of them
    pub is_text : IsHistoryText text events

-- ---- in turns

-- The events are what the clients of the setting's plan record when they are played in turns against its
-- group, from its start on and under this disturbance. The seed, the fault, the copies and the disturbance
-- are those of the setting and no others; a poll that waits is one after which the steps of this group left
-- the ticket without a reply.
-- Source: profile.
pub record IsRunInTurns (setting : RunSetting) (disturbance : Disturbance) (events : List Event) : Type 0 where
  -- the group after the run
  pub after : DisturbedState
  -- the clients are played against the group from its start on (`ArePlayed`)
  pub played : ArePlayed SubmitsTicket ReportsProgress run_polls (plan_of setting) (group_at_start setting disturbance) after events

-- the text is a text of that history
-- Source: profile.
pub record IsTextInTurns (setting : RunSetting) (disturbance : Disturbance) (text : List ℕ) : Type 0 where
  pub events : List Event
  -- the events are those of the run in turns
  pub run : IsRunInTurns setting disturbance events
  -- the text is a text of them
  pub is_text : IsHistoryText text events

-- ---- faults

-- how a run ends: with Write, NoMemory, Recording or Setting; it reads nothing, and has no workers
-- Source: profile.
abbrev pub IsRunFault : StreamFault → Type 0
IsRunFault Read = ⊥
IsRunFault Write = Unit {0}
IsRunFault NoMemory = Unit {0}
IsRunFault (Worker doc) = ⊥
IsRunFault Recording = Unit {0}
IsRunFault Setting = Unit {0}

-- the same for a run of which nothing is written: NoMemory, Recording or Setting
abbrev pub IsOfRun : StreamFault → Type 0
IsOfRun Read = ⊥
IsOfRun Write = ⊥
IsOfRun NoMemory = Unit {0}
IsOfRun (Worker doc) = ⊥
IsOfRun Recording = Unit {0}
IsOfRun Setting = Unit {0}
