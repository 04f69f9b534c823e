-- What a verdict on a history keeps.
use Rattle.std.specs.Prelude.{◌≡◌, ◌+◌, ◌-◌, ℕ, List, filter, length, map}
use Rattle.doc_register.specs.declared.state.Conflicts.{Conflicts}
use Rattle.events.specs.declared.event.Event.{Event}
use Rattle.events.specs.Events.{documents_of}
use Rattle.events.specs.Order.{Explains, IsLinearizable, IsLegalInResponseOrder, Placed}
use Rattle.places.specs.Documents.{DocPlaces, witness_places}
use Rattle.places.specs.Witness.{Witness}
use Rattle.compose.specs.Counts.{calls_counted, calls_of, is_counted}
use Rattle.compose.specs.declared.counts.CallNumbers.{CallNumbers}
use Rattle.covers.specs.Covers.{HasNoUnpairedCover}
use Rattle.compose.specs.Laws.{IsComplete, places_in, places_numbered}

-- How contracts see a `Proof`: a history with the witnesses of its documents, and how a conflict is read. The
-- type of the code keeps that the events are a history and that the witnesses cover it (`AreWitnesses`).
pub record Proven : Type 0 where
  pub events : List Event
  pub witnesses : List Witness
  pub conflicts : Conflicts

-- How contracts see a `Case`: a history for which no order was found, and how a conflict is read. The type of
-- the code keeps that the events are a history that no entries without a given pair cover.
pub record Unproven : Type 0 where
  pub events : List Event
  pub conflicts : Conflicts

-- the number of calls of the history that are in no place of the witnesses
abbrev pub left_out_of : Proven → ℕ
left_out_of p = calls_of p.events - places_in (map witness_places p.witnesses)

-- what is counted of a history and its entries: the documents, the calls, and those of the calls that are in
-- no place of the entries
-- Source: profile.
pub record AreCounts (events : List Event) (entries : List DocPlaces) (docs calls left_out : ℕ) : Type 0 where
  -- the history has that many documents
  pub documents : length (documents_of events) ≡ docs
  -- it has that many calls
  pub all_calls : calls_of events ≡ calls
  -- that many of them are in no place of the entries
  pub the_rest : places_in entries + left_out ≡ calls

-- What a `yes` rests on once the text is read: an order that explains the history, and the numbers.
-- Source: Herlihy and Wing, section 2 (`explains`); profile (the counts).
pub record HasOrder (conflicts : Conflicts) (events : List Event) (docs calls left_out : ℕ) : Type 0 where
  -- the history has that many documents
  pub documents : length (documents_of events) ≡ docs
  -- it has that many calls
  pub all_calls : calls_of events ≡ calls
  pub order : List Placed
  -- the order explains it in this reading of conflicts
  pub explains : Explains conflicts events order
  -- that many calls are not in the order
  pub the_rest : length order + left_out ≡ calls

-- Some order explains the history, and of the calls that are counted that many are not in it, as in no place of the
-- witnesses.
-- Source: Herlihy and Wing, section 2 (`explains`); profile (the count).
pub record LeavesOut (which : CallNumbers) (p : Proven) (left_out : ℕ) : Type 0 where
  pub order : List Placed
  -- the order explains it in this reading of conflicts
  pub explains : Explains p.conflicts p.events order
  -- that many of the calls that are counted are not in the order
  pub the_rest : length (filter (λ q. is_counted which q.no) order) + left_out ≡ calls_counted which p.events
  -- that many are in no place
  pub placed : places_numbered (is_counted which) p.events (map witness_places p.witnesses) + left_out ≡ calls_counted which p.events

-- What a `no` rests on.
-- Source: profile.
pub record HasNoOrderFound (conflicts : Conflicts) (events : List Event) : Type 0 where
  -- no entries without a given pair cover the history
  pub uncovered : HasNoUnpairedCover conflicts events
  -- it is not legal in response order
  pub not_right : ¬ IsLegalInResponseOrder events
  -- if it is complete, no order explains it
  pub complete : IsComplete conflicts events → ¬ IsLinearizable conflicts events
