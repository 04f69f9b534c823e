-- What is found of a text, as its parts found it.
use Rattle.std.proofs.Common.{ℕ, ◌≡◌, ◌<◌, ◌≤◌, ap, length, None, Some, Ok, Err, Option, List, subst, sym}
use Rattle.std.specs.Prelude.{IfOk, IfSome, MatchOption, Result}
use Rattle.std.specs.declared.alloc.AllocError.{AllocError}
use Rattle.doc_register.specs.declared.state.Conflicts.{Conflicts}
use Rattle.events.specs.Events.{documents_of}
use Rattle.events.specs.declared.event.Event.{Event}
use Rattle.evidence.specs.Evidence.{Holds, IsReported}
use Rattle.evidence.specs.declared.ruling_out.RulingOut.{RulingOut}
use Rattle.compose.specs.Checked.{IsVerdictOn}
use Rattle.compose.specs.Offences.{IsOffence}
use Rattle.compose.specs.Verdicts.{Proven, Unproven}
use Rattle.compose.specs.declared.checking.Verdict.{Verdict}
use Rattle.compose.specs.declared.checking.Verdict.TheVariants.{Yes, No}
use Rattle.compose.specs.declared.finding.Failing.{Failing}
use Rattle.compose.specs.declared.finding.Finding.TheVariants.{Explained, Unexplained}
use Rattle.api_lines.specs.Texts.{IsReadTo, SoFar}
use Rattle.events.specs.Refusal.{most_events}
use Rattle.history.specs.ByRules.{TextState, read_of, room_taken, start_by, takes_value_by}
use Rattle.history.specs.Laws.{AreLost, TextsAreReadByRules}
use Rattle.history.specs.declared.text_rules.TextRules.{TextRules}
use Rattle.history.specs.declared.text_read.TextRead.{TextRead}
use Rattle.readings.specs.Gets.{AreGetsExplained, IsUnexplainedGet}
use Rattle.readings.specs.Reading.{conflicts_as}
use Rattle.readings.specs.WayBack.{IsKept}
use Rattle.readings.specs.declared.reading.Gets.TheVariants.{Any}
use Rattle.readings.specs.declared.reading.Reading.{Reading}
use Rattle.readings.specs.declared.unexplained.UnexplainedGet.{UnexplainedGet}
use Rattle.report.specs.declared.finding.Against.{Against}
use Rattle.stream_io.specs.declared.stream_fault.StreamFault.{StreamFault}
use Rattle.stream_io.specs.declared.stream_fault.StreamFault.TheVariants as fault
use Rattle.report.specs.Workers.{HasDocument}
use Rattle.report.specs.declared.text_finding.TextFinding.{TextFinding}
use Rattle.report.specs.Findings.{IsFoundOf, IsFoundOfGets}
use Rattle.report.specs.Verdict.{heeded, judged}

-- what is found of the gets of the text that is kept is found of that which was read
pub gets_found : (reading : Reading) (read kept : TextRead) (found : Result (Option UnexplainedGet) AllocError) → kept ≡ read → reading.gets ≡ Any
    → IfOk found (λ it. MatchOption it (AreGetsExplained reading (heeded reading kept)) (λ get. IsUnexplainedGet reading (heeded reading kept) get.evidence))
    → IfOk found (IsFoundOfGets reading read)
gets_found reading read kept (Err e) same any is = tt
gets_found reading read kept (Ok None) same any is = λ _. subst (λ r. AreGetsExplained reading (heeded reading r)) same is
gets_found reading read kept (Ok (Some get)) same any is = record { any = any; unexplained = subst (λ r. IsUnexplainedGet reading (heeded reading r) get.evidence) same is }

-- what is kept of a text has its void calls
pub lost_kept : (reading : Reading) (read : TextRead) (events : List Event) (text : Option TextRead) → AreLost read.history read.voids → IsKept reading read events text
    → IfSome text (λ t. AreLost t.history t.voids)
lost_kept reading read events None lost kept = tt
lost_kept reading read events (Some t) lost kept = subst (λ r. AreLost r.history r.voids) (sym kept) lost

-- ---- by the verdict

-- what is found of a text that is explained
pub found_explained : (ruling : RulingOut) (reading : Reading) (read : TextRead) (proof : Proven) (get : Option UnexplainedGet) (text : Option TextRead)
    → IsVerdictOn (conflicts_as reading.conflicts) (judged reading read) (Yes proof) → IsKept reading read (judged reading read) text → IsFoundOfGets reading read get
    → IsFoundOf ruling reading read (record { finding = Explained proof; get = get; text = text })
found_explained ruling reading read proof get text verdict kept gets = record {
  events = verdict.0;
  conflicts = verdict.1;
  kept = subst (λ H. IsKept reading read H text) (sym verdict.0) kept;
  outcome = gets;
}

-- and of one for which no order is found
pub found_unexplained : (ruling : RulingOut) (reading : Reading) (read : TextRead) (case : Unproven) (failing : Failing) (get : Option UnexplainedGet) (text : Option TextRead)
    → IsVerdictOn (conflicts_as reading.conflicts) (judged reading read) (No case) → IsKept reading read (judged reading read) text
    → IsOffence case.conflicts case.events failing.offence
    → IfSome failing.evidence (Holds case.conflicts case.events) → IfSome failing.evidence (IsReported ruling)
    → (failing.evidence ≡ None → IsFoundOfGets reading read get)
    → IsFoundOf ruling reading read (record { finding = Unexplained case failing; get = get; text = text })
found_unexplained ruling reading read case failing get text verdict kept offence holds reportable gets = record {
  events = verdict.0;
  conflicts = verdict.1;
  kept = subst (λ H. IsKept reading read H text) (sym verdict.0) kept;
  outcome = (
    subst (λ c. IsOffence c case.events failing.offence) verdict.1 offence,
    subst (λ c. IfSome failing.evidence (Holds c case.events)) verdict.1 holds,
    reportable,
    gets,
  );
}

-- what is found of the gets is found if there is no evidence
pub gets_if_none : (reading : Reading) (read : TextRead) (found : Result Against AllocError) → IfOk found (λ it. IsFoundOfGets reading read it.get)
    → IfOk found (λ it. it.evidence ≡ None → IsFoundOfGets reading read it.get)
gets_if_none reading read (Err e) is = tt
gets_if_none reading read (Ok it) is = λ _. is

-- what is found by a verdict on what is judged is found of the text
pub found_of_judged : (ruling : RulingOut) (reading : Reading) (read : TextRead) (events : List Event) (text : Option TextRead) (verdict : Verdict) (conflicts : Conflicts)
    → events ≡ judged reading read → IsKept reading read events text → IsVerdictOn conflicts events verdict → (found : TextFinding) → conflicts ≡ conflicts_as reading.conflicts
    → ((r : TextRead) → IsVerdictOn (conflicts_as reading.conflicts) (judged reading r) verdict → IsKept reading r (judged reading r) text → IsFoundOf ruling reading r found)
    → IsFoundOf ruling reading read found
found_of_judged ruling reading read events text verdict conflicts same kept on found way by =
    by read (subst (λ c. IsVerdictOn c (judged reading read) verdict) way (subst (λ H. IsVerdictOn conflicts H verdict) same on))
    (subst (λ H. IsKept reading read H text) same kept)

-- a document of what is judged is one of the text
pub has_document : (judged text : List Event) (fault : StreamFault) → documents_of judged ≡ documents_of text → HasDocument judged fault → HasDocument text fault
has_document judged text fault.Read same has = tt
has_document judged text fault.Write same has = tt
has_document judged text fault.NoMemory same has = tt
has_document judged text (fault.Worker doc) same has = subst (λ ids. doc < length ids) same has
has_document judged text fault.Recording same has = tt
has_document judged text fault.Setting same has = tt

-- ---- what was read line by line

-- the lines of some text were taken by these rules, and this was read of it
abbrev pub AreSomeLines : TextRules → SoFar TextState → Type 0
AreSomeLines rules r = (text : List ℕ) × IsReadTo takes_value_by (start_by rules) text r

pub voids_by_rules : (rules : TextRules) (r : SoFar TextState) (read : TextRead) → TextsAreReadByRules → AreSomeLines rules r → read ≡ r.state.read → AreLost read.history read.voids
voids_by_rules rules r read laws some is = subst (λ q. AreLost q.history q.voids) (sym is) (laws.voids rules some.0 r.state.read (ap read_of some.1.read))

pub room_by_rules : (rules : TextRules) (r : SoFar TextState) (read : TextRead) → TextsAreReadByRules → AreSomeLines rules r → read ≡ r.state.read
    → room_taken rules.writes read.history ≤ most_events
room_by_rules rules r read laws some is = subst (λ q. room_taken rules.writes q.history ≤ most_events) (sym is) (laws.room rules some.0 r.state.read (ap read_of some.1.read))
