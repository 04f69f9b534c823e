-- What is found of a text that was read.
use Rattle.std.specs.Prelude.{◌≡◌, List, Option, Some, None, IfSome}
use Rattle.doc_register.specs.declared.state.Conflicts.{Conflicts}
use Rattle.events.specs.declared.event.Event.{Event}
use Rattle.evidence.specs.Evidence.{Holds, IsReported}
use Rattle.evidence.specs.declared.ruling_out.RulingOut.{RulingOut}
use Rattle.compose.specs.Offences.{IsOffence}
use Rattle.compose.specs.declared.finding.Failing.{Failing}
use Rattle.compose.specs.declared.finding.Finding.{Finding}
use Rattle.compose.specs.declared.finding.Finding.TheVariants.{Explained, Unexplained}
use Rattle.history.specs.declared.text_read.TextRead.{TextRead}
use Rattle.readings.specs.Reading.{conflicts_as}
use Rattle.readings.specs.WayBack.{IsKept}
use Rattle.readings.specs.declared.reading.Reading.{Reading}
use Rattle.readings.specs.declared.unexplained.UnexplainedGet.{UnexplainedGet}
use Rattle.report.specs.Verdict.{HasGetsExplained, IsOfGet, judged}
use Rattle.report.specs.declared.text_finding.TextFinding.{TextFinding}

-- the history that was judged
abbrev pub events_of : Finding → List Event
events_of (Explained proof) = proof.events
events_of (Unexplained case failing) = case.events

-- how its conflicts were read
abbrev pub conflicts_of : Finding → Conflicts
conflicts_of (Explained proof) = proof.conflicts
conflicts_of (Unexplained case failing) = case.conflicts

-- what was found of gets that are judged by themselves: one that nothing explains, or that there is none
abbrev pub IsFoundOfGets : Reading → TextRead → Option UnexplainedGet → Type 0
IsFoundOfGets reading read None = HasGetsExplained reading read
IsFoundOfGets reading read (Some get) = IsOfGet reading read get.evidence

-- What was found if there is no order: evidence that holds and may be reported; or nothing of the kind, and then what
-- was found of the gets.
abbrev pub IsFoundWithout : RulingOut → Reading → TextRead → List Event → Failing → Option UnexplainedGet → Type 0
IsFoundWithout ruling reading read events failing get =
    IsOffence (conflicts_as reading.conflicts) events failing.offence
    × IfSome failing.evidence (Holds (conflicts_as reading.conflicts) events)
    × IfSome failing.evidence (IsReported ruling)
    × (failing.evidence ≡ None → IsFoundOfGets reading read get)

-- what was found, if it is an order, and if it is none
abbrev pub IsFoundBy : RulingOut → Reading → TextRead → Finding → Option UnexplainedGet → Type 0
IsFoundBy ruling reading read (Explained proof) get = IsFoundOfGets reading read get
IsFoundBy ruling reading read (Unexplained case failing) get = IsFoundWithout ruling reading read case.events failing get

-- This was found of a text that was read so.
-- Source: profile.
pub record IsFoundOf (ruling : RulingOut) (reading : Reading) (read : TextRead) (found : TextFinding) : Type 0 where
  -- what was judged is what the reading makes of the text's events
  pub events : events_of found.finding ≡ judged reading read
  -- conflicts were read as the reading reads them
  pub conflicts : conflicts_of found.finding ≡ conflicts_as reading.conflicts
  -- what was read of the text is kept, unless it is what was judged
  pub kept : IsKept reading read (events_of found.finding) found.text
  -- what was found
  pub outcome : IsFoundBy ruling reading read found.finding found.get

-- the evidence that was found, if any, holds in the history that was judged
abbrev pub HasItsEvidence : Finding → Type 0
HasItsEvidence (Explained proof) = Unit {0}
HasItsEvidence (Unexplained case failing) = IfSome failing.evidence (Holds case.conflicts case.events)
