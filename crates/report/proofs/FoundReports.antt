-- What is reported of a text, by what was found of it.
use Rattle.std.proofs.Common.{◌≡◌, None, Some, Option, List, Bool, true, ap, subst, sym, ◌∙◌}
use Rattle.std.specs.Prelude.{IfSome, IsTrue, ◌↔◌}
use Rattle.doc_register.specs.declared.state.Conflicts.{Conflicts}
use Rattle.events.specs.declared.event.Event.{Event}
use Rattle.events.specs.Events.{IsHistory}
use Rattle.events.specs.Order.{IsLinearizable}
use Rattle.evidence.specs.Evidence.{EvidenceRefutes, Holds, IsReported}
use Rattle.evidence.specs.declared.refuted.Refuted.{Refuted as Evidence}
use Rattle.evidence.specs.declared.ruling_out.RulingOut.{RulingOut}
use Rattle.evidence.specs.declared.ruling_out.RulingOut.TheVariants.{On}
use Rattle.compose.specs.Laws.{IsComplete}
use Rattle.compose.specs.Offences.{IsOffence}
use Rattle.compose.specs.Verdicts.{HasNoOrderFound, Proven, Unproven}
use Rattle.compose.specs.declared.finding.Failing.{Failing}
use Rattle.compose.specs.declared.finding.Finding.TheVariants.{Explained, Unexplained}
use Rattle.compose.specs.declared.offence.Offence.{Offence}
use Rattle.history.specs.declared.text_read.TextRead.{TextRead}
use Rattle.readings.specs.Laws.{EvidenceRefutesReadings}
use Rattle.readings.specs.Reading.{conflicts_as}
use Rattle.readings.specs.WayBack.{evidence_in_text}
use Rattle.readings.specs.declared.reading.Reading.{Reading}
use Rattle.readings.specs.declared.unexplained.UnexplainedGet.{UnexplainedGet}
use Rattle.result_lines.specs.declared.reported.Reported.TheVariants as reported
use Rattle.result_lines.specs.declared.text_counts.TextCounts.{TextCounts}
use Rattle.report.specs.Findings.{IsFoundBy, IsFoundOf, IsFoundOfGets, conflicts_of, events_of}
use Rattle.report.specs.Verdict.{get_offence, judged, offence_in_text}
use Rattle.report.specs.aids.Counting.{AreCountsOf}
use Rattle.report.specs.aids.Reports.{IsReportOn}
use Rattle.report.specs.declared.text_finding.TextFinding.{TextFinding}
use Rattle.report.proofs.AnswerLemmas.{evidence_report, get_report, get_report_without, no_report, yes_report}

-- ---- with an order

pub found_yes : (ruling : RulingOut) (reading : Reading) (read : TextRead) (found : TextFinding) (proof : Proven) (text : List Event) (counts : TextCounts)
    → found.finding ≡ Explained proof → found.get ≡ None → text ≡ read.history → AreCountsOf reading proof text counts → IsFoundOf ruling reading read found
    → IsReportOn ruling reading read (reported.Yes counts) (Some true)
found_yes ruling reading read found proof text counts is none own are of =
    yes_report ruling reading read proof counts (subst (λ f. events_of f ≡ judged reading read) is of.events)
    (subst (λ f. conflicts_of f ≡ conflicts_as reading.conflicts) is of.conflicts)
    (subst (λ H. AreCountsOf reading proof H counts) own are)
    (subst (IsFoundOfGets reading read) none (subst (λ f. IsFoundBy ruling reading read f found.get) is of.outcome))

pub found_get : (ruling : RulingOut) (reading : Reading) (read : TextRead) (found : TextFinding) (proof : Proven) (text : List Event) (get : UnexplainedGet) (o : Offence)
    → EvidenceRefutesReadings → found.finding ≡ Explained proof → found.get ≡ Some get → text ≡ read.history → o ≡ get_offence text get.evidence
    → IsLinearizable proof.conflicts proof.events → IsFoundOf ruling reading read found
    → IsReportOn ruling reading read (reported.Refuted get.evidence o) (Some true)
found_get ruling reading read found proof text get o laws is some own o_is order of =
    subst (λ x. IsReportOn ruling reading read (reported.Refuted get.evidence x) (Some true)) (sym (o_is ∙ ap (λ H. get_offence H get.evidence) own))
    (get_report ruling reading read get.evidence laws
    (subst (IsFoundOfGets reading read) some (subst (λ f. IsFoundBy ruling reading read f found.get) is of.outcome))
    (subst (λ c. IsLinearizable c (judged reading read)) (subst (λ f. conflicts_of f ≡ conflicts_as reading.conflicts) is of.conflicts)
    (subst (IsLinearizable proof.conflicts) (subst (λ f. events_of f ≡ judged reading read) is of.events) order)))

-- ---- without one

-- what was found, and what is judged
record IsWithout (ruling : RulingOut) (reading : Reading) (read : TextRead) (failing : Failing) (get : Option UnexplainedGet) : Type 0 where
  history : IsHistory (judged reading read)
  none_found : HasNoOrderFound (conflicts_as reading.conflicts) (judged reading read)
  offence : IsOffence (conflicts_as reading.conflicts) (judged reading read) failing.offence
  holds : IfSome failing.evidence (Holds (conflicts_as reading.conflicts) (judged reading read))
  reportable : IfSome failing.evidence (IsReported ruling)
  gets : failing.evidence ≡ None → IsFoundOfGets reading read get

is_without : (ruling : RulingOut) (reading : Reading) (read : TextRead) (found : TextFinding) (case : Unproven) (failing : Failing)
    → found.finding ≡ Unexplained case failing → IsHistory case.events → HasNoOrderFound case.conflicts case.events → IsFoundOf ruling reading read found
    → IsWithout ruling reading read failing found.get
is_without ruling reading read found case failing is history none of =
    let same = subst (λ f. events_of f ≡ judged reading read) is of.events in
    let way = subst (λ f. conflicts_of f ≡ conflicts_as reading.conflicts) is of.conflicts in
    let out = subst (λ f. IsFoundBy ruling reading read f found.get) is of.outcome in
    let c = conflicts_as reading.conflicts in
    record {
      history = subst IsHistory same history;
      none_found = subst (λ k. HasNoOrderFound k (judged reading read)) way (subst (HasNoOrderFound case.conflicts) same none);
      offence = subst (λ H. IsOffence c H failing.offence) same out.0;
      holds = subst (λ H. IfSome failing.evidence (Holds c H)) same out.1;
      reportable = out.2;
      gets = out.3;
    }

-- the offence by the text
own_offence : (reading : Reading) (read : TextRead) (text : List Event) (own o : Offence) → text ≡ read.history → o ≡ offence_in_text reading.writes text own
    → offence_in_text reading.writes read.history own ≡ o
own_offence reading read text own o same is = sym (is ∙ ap (λ H. offence_in_text reading.writes H own) same)

pub found_evidence : (ruling : RulingOut) (reading : Reading) (read : TextRead) (found : TextFinding) (case : Unproven) (failing : Failing) (text : List Event) (o : Offence) (e said : Evidence)
    → EvidenceRefutes → found.finding ≡ Unexplained case failing → IsHistory case.events → HasNoOrderFound case.conflicts case.events → text ≡ read.history
    → o ≡ offence_in_text reading.writes text failing.offence → failing.evidence ≡ Some e → said ≡ evidence_in_text reading.writes text e → IsFoundOf ruling reading read found
    → IsReportOn ruling reading read (reported.Refuted said o) (Some true)
found_evidence ruling reading read found case failing text o e said law is history none own o_is e_is said_is of =
    let w = is_without ruling reading read found case failing is history none of in
    let c = conflicts_as reading.conflicts in
    subst (λ s. IsReportOn ruling reading read (reported.Refuted s o) (Some true)) (sym (said_is ∙ ap (λ H. evidence_in_text reading.writes H e) own))
    (subst (λ x. IsReportOn ruling reading read (reported.Refuted (evidence_in_text reading.writes read.history e) x) (Some true)) (own_offence reading read text failing.offence o own o_is)
    (evidence_report ruling reading read failing.offence e law w.history w.none_found w.offence (subst (λ f. IfSome f (Holds c (judged reading read))) e_is w.holds)
    (subst (λ f. IfSome f (IsReported ruling)) e_is w.reportable)))

pub found_get_without : (ruling : RulingOut) (reading : Reading) (read : TextRead) (found : TextFinding) (case : Unproven) (failing : Failing) (text : List Event) (o : Offence) (get : UnexplainedGet)
    → EvidenceRefutesReadings → found.finding ≡ Unexplained case failing → IsHistory case.events → HasNoOrderFound case.conflicts case.events → text ≡ read.history
    → o ≡ offence_in_text reading.writes text failing.offence → failing.evidence ≡ None → found.get ≡ Some get → IsFoundOf ruling reading read found
    → IsReportOn ruling reading read (reported.Refuted get.evidence o) (Some true)
found_get_without ruling reading read found case failing text o get laws is history none own o_is e_is some of =
    let w = is_without ruling reading read found case failing is history none of in
    subst (λ x. IsReportOn ruling reading read (reported.Refuted get.evidence x) (Some true)) (own_offence reading read text failing.offence o own o_is)
    (get_report_without ruling reading read failing.offence get.evidence laws w.none_found w.offence (subst (IsFoundOfGets reading read) some (w.gets e_is)))

pub found_no : (ruling : RulingOut) (reading : Reading) (read : TextRead) (found : TextFinding) (case : Unproven) (failing : Failing) (text : List Event) (o : Offence) (proved : Bool)
    → found.finding ≡ Unexplained case failing → IsHistory case.events → HasNoOrderFound case.conflicts case.events → text ≡ read.history
    → o ≡ offence_in_text reading.writes text failing.offence → failing.evidence ≡ None → found.get ≡ None → (IsTrue proved ↔ IsComplete case.conflicts case.events)
    → (IsTrue proved → ¬ IsLinearizable case.conflicts case.events) → IsFoundOf ruling reading read found
    → IsReportOn ruling reading read (reported.No o) (Some proved)
found_no ruling reading read found case failing text o proved is history none own o_is e_is no_get complete no_order of =
    let w = is_without ruling reading read found case failing is history none of in
    let same = subst (λ f. events_of f ≡ judged reading read) is of.events in
    let way = subst (λ f. conflicts_of f ≡ conflicts_as reading.conflicts) is of.conflicts in
    subst (λ x. IsReportOn ruling reading read (reported.No x) (Some proved)) (own_offence reading read text failing.offence o own o_is)
    (no_report ruling reading read failing.offence proved w.none_found w.offence (subst (IsFoundOfGets reading read) no_get (w.gets e_is))
    (subst (λ k. IsTrue proved ↔ IsComplete k (judged reading read)) way (subst (λ H. IsTrue proved ↔ IsComplete case.conflicts H) same complete))
    (subst (λ k. IsTrue proved → ¬ IsLinearizable k (judged reading read)) way (subst (λ H. IsTrue proved → ¬ IsLinearizable case.conflicts H) same no_order)))
