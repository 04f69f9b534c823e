-- Runs that are tried seed by seed.
use Rattle.std.specs.Prelude.{◌≡◌, ◌≢◌, ℕ, ◌+◌, ◌<◌, ◌≤◌, List, Option}
use Rattle.std.specs.Io.KnownBytes.{Keeps}
use Rattle.doc_register.specs.declared.op.Op.{Op}
use Rattle.evidence.specs.declared.ruling_out.RulingOut.TheVariants.{On}
use Rattle.disturbances.specs.declared.disturbance.Disturbance.{Disturbance}
use Rattle.recorded_runs.specs.Runs.{IsRunText, IsTextInTurns}
use Rattle.recorded_runs.specs.declared.run_setting.RunSetting.{RunSetting}
use Rattle.readings.specs.Reading.{strict_reading}
use Rattle.report.specs.Verdict.{IsAnswer}
use Rattle.stream_io.specs.Written.{HasAnswer}
use Rattle.stream_io.specs.declared.status.Status.{Status}
use Rattle.stream_io.specs.declared.status.Status.TheVariants.{Yes, No, Refuted, Refused}
use Rattle.workload.specs.declared.target.Progress.{Progress}
use Rattle.workload.specs.declared.target.Ticket.{Ticket}

-- the setting with another seed
abbrev pub with_seed : RunSetting → ℕ → RunSetting
with_seed setting seed = record setting { seed = seed }

-- What the target issued tickets for, and what it gave when they were polled; and how the group is disturbed.
module _ (issued : Ticket → List ℕ → Op → Type 0) (gave : Ticket → Progress → Type 0) (disturbance : Disturbance) where
  -- The text is that of the run of the setting in turns, and the line answers it, by the strict reading
  -- and with documents checked for being ruled out.
  pub record IsJudgedRun (setting : RunSetting) (text : List ℕ) (status : Status) (line : List ℕ) : Type 0 where
    -- the lists of the run are runs of its clients (`IsRunText`)
    pub is_run : IsRunText issued gave setting text
    -- the text is that of the run in turns, under the disturbance (`IsTextInTurns`)
    pub in_turns : IsTextInTurns setting disturbance text
    -- the line answers it (`IsAnswer`)
    pub answer : IsAnswer On strict_reading text status line

  -- the run of the setting in turns gets `yes`: an order explains it
  abbrev pub IsCleared : RunSetting → Type 0
  IsCleared setting = (text : List ℕ) × (line : List ℕ) × IsJudgedRun setting text Yes line

  -- the run with each seed from the first on, below the end, gets `yes`
  abbrev pub AreCleared : RunSetting → ℕ → ℕ → Type 0
  AreCleared setting first end = (seed : ℕ) → first ≤ seed → seed < end → IsCleared (with_seed setting seed)

  -- A run that is found: it is the first of the range that does not get `yes`.
  -- Source: profile.
  pub record IsFoundRun (setting : RunSetting) (first last seed : ℕ) (text : List ℕ) (status : Status) (line : List ℕ) : Type 0 where
    -- its seed is not below the first
    pub from : first ≤ seed
    -- its seed is not above the last
    pub to : seed ≤ last
    -- the line answers the text of the run with this seed
    pub judged : IsJudgedRun (with_seed setting seed) text status line
    -- the answer is not yes
    pub not_yes : status ≢ Yes
    -- the runs with all seeds before it get `yes`
    pub before : AreCleared setting first seed

  -- the text is that of such a run, with some seed of the range
  abbrev pub IsFoundText : RunSetting → ℕ → ℕ → List ℕ → Type 0
  IsFoundText setting first last text = (seed : ℕ) × (status : Status) × (line : List ℕ) × IsFoundRun setting first last seed text status line

  -- Yes: the writer holds, after what it held, the text of a run that was found. No: it holds what it held,
  -- and the runs with all seeds get `yes`. There is no other status.
  -- Source: profile.
  abbrev pub IsSearched : RunSetting → ℕ → ℕ → Option (List ℕ) → Option (List ℕ) → Status → Type 0
  IsSearched setting first last old new Yes = HasAnswer (IsFoundText setting first last) old new
  IsSearched setting first last old new No = Keeps old new × AreCleared setting first (last + 1)
  IsSearched setting first last old new Refuted = ⊥
  IsSearched setting first last old new Refused = ⊥
