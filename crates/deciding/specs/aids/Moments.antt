-- What is known of the calls before an event, as the code keeps it.
use Rattle.std.specs.Prelude.{◌≤◌, ℕ, List}
use Rattle.doc_register.specs.declared.state.Conflicts.{Conflicts}
use Rattle.events.specs.declared.record.Rec.{Rec}
use Rattle.deciding.specs.declared.made.Made.{Made}
use Rattle.deciding.specs.declared.moment.Moment.{Moment}
use Rattle.deciding.specs.Steps.{count_of, is_lost_delete, is_lost_make, is_made_before}
use Rattle.deciding.specs.aids.Candidates.{AreOpen}

-- no more of the writes without a reply and without a condition were made before the event
pub record HasMade (records : List Rec) (event : ℕ) (made : Made) : Type 0 where
  pub deletes : count_of (is_made_before is_lost_delete event) records ≤ made.deletes
  pub makes : count_of (is_made_before is_lost_make event) records ≤ made.makes

-- the moment is that before its event
pub record IsMoment (conflicts : Conflicts) (records : List Rec) (moment : Moment) : Type 0 where
  pub open_ones : AreOpen conflicts records moment.event moment.pending.now
  pub made : HasMade records moment.event moment.made
