-- What is found of a history over all its documents.
use Rattle.std.proofs.Common.{◌≡◌, Bool, true, false, List}
use Rattle.doc_register.specs.declared.state.Conflicts.{Conflicts}
use Rattle.events.specs.declared.event.Event.{Event}
use Rattle.covers.specs.Covers.{HasNoUnpairedCover}
use Rattle.covers.specs.declared.covering.Covering.{Covering}
use Rattle.covers.specs.declared.covering.Covering.TheVariants.{Found, NotFound}
use Rattle.covers.specs.Answered.{IsCovered}

-- what other looks find covers the history, or nothing does
pub covered_first : (conflicts : Conflicts) (events : List Event) (first : Bool) (found : Covering) → (first ≡ true → HasNoUnpairedCover conflicts events) → IsCovered conflicts events false found
    → IsCovered conflicts events first found
covered_first conflicts events first (Found ws) none is = is
covered_first conflicts events first (NotFound why) none is = none
