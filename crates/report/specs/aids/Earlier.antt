-- What is found of a prefix of a history that provably has no order by itself.
use Rattle.std.specs.Prelude.{◌≡◌, ◌≤◌, ℕ, suc, List, Option, None, Some}
use Rattle.compose.specs.Certainties.{Says}
use Rattle.compose.specs.Verdicts.{Unproven}
use Rattle.compose.specs.declared.offence.Offence.{Offence}
use Rattle.events.specs.Events.{prefix}
use Rattle.events.specs.Order.{IsLinearizable}
use Rattle.events.specs.declared.event.Event.{Event}
use Rattle.evidence.specs.declared.certainty.Certainty.{Certainty}
use Rattle.evidence.specs.declared.refuted.Refuted.{Refuted}
use Rattle.report.specs.declared.earlier.Earlier.{Earlier}

-- the events are a prefix that ends with the event at this position, or earlier
abbrev pub IsPrefixTo : List Event → ℕ → List Event → Type 0
IsPrefixTo whole event part = (n : ℕ) × (n ≤ suc event) × (part ≡ prefix whole n)

-- what is found is said of a prefix that ends with the broken reply, in the reading of conflicts of the whole; and
-- the whole is not linearizable
pub record IsEarlier (whole : Unproven) (offence : Offence) (earlier : Earlier) : Type 0 where
  pub conflicts : earlier.case.conflicts ≡ whole.conflicts
  pub part : IsPrefixTo whole.events offence.event earlier.case.events
  pub says : Says earlier.case.conflicts earlier.case.events earlier.failing.evidence offence.call earlier.certainty
  pub no_order : ¬ IsLinearizable whole.conflicts whole.events

-- what an explanation rests on: a history, the evidence against it, and how much is said of it
pub record Grounds : Type 0 where
  pub events : List Event
  pub evidence : Option Refuted
  pub certainty : Certainty

pub grounds_by : List Event → Option Refuted → Certainty → Grounds
grounds_by events evidence certainty = record { events = events; evidence = evidence; certainty = certainty }

-- those of the earlier reasons, if there are some, and else those of the whole history
unfoldable pub grounds : Unproven → Option Refuted → Certainty → Option Earlier → Grounds
grounds whole evidence certainty None = grounds_by whole.events evidence certainty
grounds whole evidence certainty (Some earlier) = grounds_by earlier.case.events earlier.failing.evidence earlier.certainty
