-- How an object names a reading.
use Rattle.std.specs.Prelude.{◌≡◌, ℕ, List, Option, None, Some, codes, false, true}
use Rattle.history.specs.declared.text_rules.Failed.{Failed}
use Rattle.history.specs.declared.text_rules.Failed.TheVariants as failed
use Rattle.history.specs.declared.text_rules.Writes.{Writes}
use Rattle.history.specs.declared.text_rules.Writes.TheVariants as writes
use Rattle.readings.specs.Reading.{leaves_events}
use Rattle.readings.specs.declared.reading.ConflictReading.{ConflictReading}
use Rattle.readings.specs.declared.reading.ConflictReading.TheVariants as conflict
use Rattle.readings.specs.declared.reading.Gets.{Gets}
use Rattle.readings.specs.declared.reading.Gets.TheVariants as gets
use Rattle.readings.specs.declared.reading.Reading.{Reading}
use Rattle.result_lines.specs.declared.facts.NamedReading.{NamedReading}

-- the value of `--gets`
-- Source: profile.
abbrev pub gets_name : Gets → List ℕ
gets_name gets.Last = codes "last"
gets_name gets.Any = codes "any"

-- the value of `--conflicts`
-- Source: profile.
abbrev pub conflicts_name : ConflictReading → List ℕ
conflicts_name conflict.Plain = codes "plain"
conflicts_name conflict.Maybe = codes "maybe"
conflicts_name conflict.Unknown = codes "unknown"

-- the value of `--writes`
-- Source: profile.
abbrev pub writes_name : Writes → List ℕ
writes_name writes.Once = codes "once"
writes_name writes.Repeated = codes "repeated"

-- the value of `--failed`
-- Source: profile.
abbrev pub failed_name : Failed → List ℕ
failed_name failed.Lost = codes "lost"
failed_name failed.Trusted = codes "trusted"

-- these are the values of its options
-- Source: profile.
pub record AreNamesOf (reading : Reading) (named : NamedReading) : Type 0 where
  pub gets : named.gets.now ≡ gets_name reading.gets
  pub conflicts : named.conflicts.now ≡ conflicts_name reading.conflicts
  pub writes : named.writes.now ≡ writes_name reading.writes
  pub failed : named.failed.now ≡ failed_name reading.failed

-- The reading is named by the values of its options, unless it leaves each event as it is.
-- Source: profile.
abbrev pub IsNamedReading : Reading → Option NamedReading → Type 0
IsNamedReading reading None = leaves_events reading ≡ true
IsNamedReading reading (Some named) = (leaves_events reading ≡ false) × AreNamesOf reading named
