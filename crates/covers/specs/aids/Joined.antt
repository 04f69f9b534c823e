-- What the witnesses of the documents of a history are together.
use Rattle.std.specs.Prelude.{◌≡◌, Bool, false, true, List}
use Rattle.doc_register.specs.declared.state.Conflicts.{Conflicts}
use Rattle.events.specs.declared.event.Event.{Event}
use Rattle.events.specs.Events.{documents_of}
use Rattle.covers.specs.Covers.{AreWitnesses, HasNoUnpairedCover}
use Rattle.covers.specs.aids.Searched.{AreSearched}
use Rattle.covers.specs.declared.joined.Joined.{Joined}
use Rattle.covers.specs.declared.joined.Joined.TheVariants.{Cover, Short, Spent}

-- Witnesses that cover the history. If there are none, and the witnesses before were the first that the
-- search gave, no entries without a given pair cover it. Witnesses that are handed back are still about the
-- documents.
abbrev pub IsJoined : Conflicts → List Event → Bool → Joined → Type 0
IsJoined conflicts events first (Cover ws) = AreWitnesses conflicts events ws.items
IsJoined conflicts events first (Short ws shortage) =
    AreSearched conflicts events false (documents_of events) ws.items × (first ≡ true → HasNoUnpairedCover conflicts events)
IsJoined conflicts events first Spent = first ≡ true → HasNoUnpairedCover conflicts events
