-- What the lines and texts that are written say of the inputs.
use Rattle.std.proofs.Common.{◌++◌, ℕ, suc, ◌≡◌, ◌≢◌, ◌+◌, ◌-◌, ◌≤◌, None, List, ap, map, refl, sym, subst, ◌∙◌, Option, Some, Ok, Err, inl, inr, codes, Vec, Global, Bool, true, length, unwrap_or, ◌⊎◌}
use Rattle.std.specs.Prelude.{IfOk, IfSome, IsTrue, Result, ◌↔◌}
use Rattle.std.specs.declared.alloc.AllocError.{AllocError}
use Rattle.doc_register.specs.declared.state.Conflicts.{Conflicts}
use Rattle.events.specs.declared.event.Event.{Event}
use Rattle.api_lines.specs.declared.text_fault.TextFault.{TextFault}
use Rattle.events.specs.Events.{IsHistory, prefix}
use Rattle.events.specs.Laws.{PrefixesStay}
use Rattle.events.specs.Order.{Explains, IsLinearizable, Placed}
use Rattle.history.specs.ByRules.{history_text_by}
use Rattle.history.specs.Laws.{TextsAreReadByRules}
use Rattle.history.specs.Text.{IsHistoryText}
use Rattle.history.specs.declared.text_read.TextRead.{TextRead}
use Rattle.history.specs.declared.text_rules.TextRules.{TextRules}
use Rattle.readings.specs.Gets.{IsExplained}
use Rattle.readings.specs.Laws.{EvidenceRefutesReadings}
use Rattle.readings.specs.Reading.{conflicts_as, rules_of}
use Rattle.readings.specs.WayBack.{evidence_in_text}
use Rattle.readings.specs.declared.reading.Reading.{Reading}
use Rattle.evidence.specs.Evidence.{EvidenceRefutes, Holds, IsOfCalls, IsReported}
use Rattle.evidence.specs.declared.refuted.Refuted.{Refuted as Evidence}
use Rattle.evidence.specs.declared.refuted.Refuted.TheVariants as evidence
use Rattle.evidence.specs.declared.certainty.Certainty.{Certainty}
use Rattle.evidence.specs.declared.ruling_out.RulingOut.{RulingOut}
use Rattle.compose.specs.Certainties.{Says as SaysOf}
use Rattle.compose.specs.Counts.{calls_counted, calls_of, is_counted}
use Rattle.compose.specs.Laws.{IsComplete, places_numbered}
use Rattle.covers.specs.Covers.{AreCover}
use Rattle.places.specs.Documents.{DocPlaces}
use Rattle.witness.specs.Text.{witness_text}
use Rattle.compose.specs.Verdicts.{HasNoOrderFound, Proven, Unproven}
use Rattle.compose.specs.Offences.{IsOffence}
use Rattle.compose.specs.declared.offence.Offence.{Offence}
use Rattle.stream_io.specs.declared.status.Status.{Status}
use Rattle.stream_io.specs.declared.status.Status.TheVariants.{Yes, No, Refuted, Refused}
use Rattle.result_lines.specs.Lines.{refused_line}
use Rattle.result_lines.specs.Objects.{line_of}
use Rattle.result_lines.specs.declared.reported.Reported.{Reported}
use Rattle.result_lines.specs.declared.reported.Reported.TheVariants as reported
use Rattle.result_lines.specs.declared.text_counts.TextCounts.{TextCounts}
use Rattle.report.specs.Bulk.{AnswersBulk, IsBulkAnswer}
use Rattle.report.specs.Calls.{CountsCalls}
use Rattle.report.specs.Details.{IsProvedOf, calls_reported, status_of}
use Rattle.report.specs.aids.Counting.{AreCountsOf}
use Rattle.report.specs.aids.Earlier.{IsEarlier, grounds, grounds_by}
use Rattle.report.specs.aids.Reports.{CountsText, IsProvedFor, IsReportOn}
use Rattle.report.specs.declared.earlier.Earlier.{Earlier}
use Rattle.report.specs.Verdict.{AnswersInput, HasGetsExplained, IsAnswer, IsExplainedWith, IsOfGet, IsOfJudged, IsReadBy, IsRefutedBy, IsUndecided, IsUnexplained, IsVerified, IsWitnessAnswer, Says, get_offence, judged, offence_in_text, own_numbers}
use Rattle.report.specs.Witnessed.{MayFollow}
use Rattle.stream_io.proofs.WrittenLemmas.{nothing_follows}
use Rattle.report.proofs.OwnCalls.{own_calls}

-- ---- from what was read to the bytes

-- by the law of texts the bytes are read so
pub read_by : (reading : Reading) (input : List ℕ) (read : TextRead) → TextsAreReadByRules → history_text_by (rules_of reading) input ≡ Ok read → IsReadBy reading input read
read_by reading input read laws is = record { is_text = laws.read (rules_of reading) input read is; is_read = is }

pub is_answer : (ruling : RulingOut) (reading : Reading) (input : List ℕ) (read : TextRead) (status : Status) (line : List ℕ) → IsReadBy reading input read
    → Says ruling reading read status line → IsAnswer ruling reading input status line
is_answer ruling reading input read Yes line by says = (read, by, says)
is_answer ruling reading input read No line by says = (read, by, says)
is_answer ruling reading input read Refuted line by says = (read, by, says)
is_answer ruling reading input read Refused line by says = absurd says

-- a line that is not yes, with a certificate after it if it says that the history is refuted
pub is_witness_answer : (ruling : RulingOut) (reading : Reading) (input : List ℕ) (status : Status) (line certificate : List ℕ) → status ≢ Yes
    → MayFollow status certificate → IsAnswer ruling reading input status line → IsWitnessAnswer ruling reading input status (line ++ certificate)
is_witness_answer ruling reading input Yes line certificate other none is = absurd (other refl)
is_witness_answer ruling reading input No line certificate other none is = subst (IsAnswer ruling reading input No) (sym (nothing_follows line certificate none)) is
is_witness_answer ruling reading input Refuted line certificate other none is = (line, certificate, refl, is)
is_witness_answer ruling reading input Refused line certificate other none is = subst (IsAnswer ruling reading input Refused) (sym (nothing_follows line certificate none)) is

pub is_proved : (reading : Reading) (input : List ℕ) (read : TextRead) (said : Reported) (proved : Option Bool) → IsReadBy reading input read
    → IsProvedFor reading read said proved → IsProvedOf reading input said proved
is_proved reading input read (reported.Yes c) proved by is = is
is_proved reading input read (reported.No o) proved by is = (read, by, is)
is_proved reading input read (reported.Refuted e o) proved by is = (is.0, (read, by, is.1))
is_proved reading input read (reported.Refused f) proved by is = absurd is
is_proved reading input read (reported.Verified c) proved by is = absurd is
is_proved reading input read (reported.RefusedHistory f) proved by is = absurd is
is_proved reading input read (reported.RefusedWitness f) proved by is = absurd is
is_proved reading input read (reported.Broken f) proved by is = absurd is
is_proved reading input read (reported.BrokenGet e) proved by is = absurd is

counts_calls : (reading : Reading) (input : List ℕ) (read : TextRead) (status : Status) (calls : Option ℕ) → IsReadBy reading input read
    → CountsText read status calls → CountsCalls input status calls
counts_calls reading input read status None by counts = counts
counts_calls reading input read status (Some n) by counts = (counts.0, (read.history, by.is_text, counts.1))

-- ---- what is said of all bytes of a reader

pub if_any : {P : List ℕ → Type 0} (input : Option (List ℕ)) → ((bytes : List ℕ) → P bytes) → IfSome input P
if_any None all = tt
if_any (Some bytes) all = all bytes

pub if_read : {P : List ℕ → Type 0} (reading : Reading) (read : TextRead) (input : Option (List ℕ)) → TextsAreReadByRules
    → IfSome input (λ text. history_text_by (rules_of reading) text ≡ Ok read) → ((bytes : List ℕ) → IsReadBy reading bytes read → P bytes) → IfSome input P
if_read reading read None laws is all = tt
if_read reading read (Some bytes) laws is all = all bytes (read_by reading bytes read laws is)

-- a report on what was read answers the bytes of the reader
pub report_answers : (ruling : RulingOut) (reading : Reading) (read : TextRead) (input : Option (List ℕ)) (said : Reported) (proved : Option Bool) → TextsAreReadByRules
    → IfSome input (λ text. history_text_by (rules_of reading) text ≡ Ok read) → IsReportOn ruling reading read said proved
    → AnswersInput ruling reading input (status_of said) (line_of said)
report_answers ruling reading read input said proved laws is report =
    if_read reading read input laws is (λ bytes by. is_answer ruling reading bytes read (status_of said) (line_of said) by report.says)

pub report_counts : (ruling : RulingOut) (reading : Reading) (read : TextRead) (input : Option (List ℕ)) (said : Reported) (proved : Option Bool) → TextsAreReadByRules
    → IfSome input (λ text. history_text_by (rules_of reading) text ≡ Ok read) → IsReportOn ruling reading read said proved
    → IfSome input (λ bytes. CountsCalls bytes (status_of said) (calls_reported said))
report_counts ruling reading read input said proved laws is report =
    if_read reading read input laws is (λ bytes by. counts_calls reading bytes read (status_of said) (calls_reported said) by report.calls)

pub report_proves : (ruling : RulingOut) (reading : Reading) (read : TextRead) (input : Option (List ℕ)) (said : Reported) (proved : Option Bool) → TextsAreReadByRules
    → IfSome input (λ text. history_text_by (rules_of reading) text ≡ Ok read) → IsReportOn ruling reading read said proved
    → IfSome input (λ bytes. IsProvedOf reading bytes said proved)
report_proves ruling reading read input said proved laws is report =
    if_read reading read input laws is (λ bytes by. is_proved reading bytes read said proved by report.proof)

-- a refused line answers them
pub refusal_answers : (ruling : RulingOut) (reading : Reading) (input : Option (List ℕ)) (fault : TextFault)
    → IfSome input (λ text. history_text_by (rules_of reading) text ≡ Err fault) → AnswersInput ruling reading input Refused (refused_line fault.line fault.cause)
refusal_answers ruling reading None fault is = tt
refusal_answers ruling reading (Some bytes) fault is = (fault, refl, is)

-- ---- what was found

-- evidence of calls may always be reported
pub calls_reportable : (ruling : RulingOut) (found : Option Evidence) → IfSome found IsOfCalls → IfSome found (IsReported ruling)
calls_reportable ruling None calls = tt
calls_reportable ruling (Some (evidence.PairTwice a b)) calls = tt
calls_reportable ruling (Some (evidence.NoWriter g)) calls = tt
calls_reportable ruling (Some (evidence.StaleGet g w)) calls = tt
calls_reportable ruling (Some (evidence.MissedWrite g w)) calls = tt
calls_reportable ruling (Some (evidence.StaleSwap a b)) calls = tt
calls_reportable ruling (Some (evidence.RuledOut n)) calls = absurd calls

-- ---- reports on what was read

-- the counts of a text that is explained
pub explained_with : (reading : Reading) (read : TextRead) (proof : Proven) (counts : TextCounts) → proof.events ≡ judged reading read
    → proof.conflicts ≡ conflicts_as reading.conflicts → AreCountsOf reading proof read.history counts → HasGetsExplained reading read → IsExplainedWith reading read counts
explained_with reading read proof counts same way are gets = record {
  documents = are.documents;
  all_calls = are.all_calls;
  order = are.placed.order;
  explains = subst (λ c. Explains c (judged reading read) are.placed.order) way (subst (λ H. Explains proof.conflicts H are.placed.order) same are.placed.explains);
  unplaced = are.unplaced;
  the_rest =
      are.placed.the_rest
      ∙ (ap (λ H. calls_counted (own_numbers reading.writes) H) same ∙ (own_calls reading read ∙ are.all_calls));
  gets = are.gets;
  left_out = are.left_out;
  explained = gets;
}

-- the entries of a witness that cover what is judged, and the counts of the text
pub verified_with : (reading : Reading) (read : TextRead) (proof : Proven) (counts : TextCounts) (entries : List DocPlaces) (witness : List ℕ) → proof.events ≡ judged reading read
    → proof.conflicts ≡ conflicts_as reading.conflicts → (are : AreCountsOf reading proof read.history counts) → HasGetsExplained reading read → witness_text witness ≡ Ok entries
    → AreCover (conflicts_as reading.conflicts) (judged reading read) entries
    → places_numbered (is_counted (own_numbers reading.writes)) (judged reading read) entries + are.unplaced ≡ counts.calls → IsVerified reading read witness counts
unfolding explained_with
verified_with reading read proof counts entries witness same way are gets reads cover placed = record {
  entries = entries;
  reads = reads;
  cover = cover;
  explained = explained_with reading read proof counts same way are gets;
  placed = placed;
}

pub yes_report : (ruling : RulingOut) (reading : Reading) (read : TextRead) (proof : Proven) (counts : TextCounts) → proof.events ≡ judged reading read
    → proof.conflicts ≡ conflicts_as reading.conflicts → AreCountsOf reading proof read.history counts → HasGetsExplained reading read
    → IsReportOn ruling reading read (reported.Yes counts) (Some true)
yes_report ruling reading read proof counts same way are gets = record {
  says = (counts, refl, explained_with reading read proof counts same way are gets);
  proof = refl;
  calls = (refl, are.all_calls);
}

-- a get that nothing explains refutes the text
pub get_refutes : (reading : Reading) (read : TextRead) (e : Evidence) → EvidenceRefutesReadings → IsOfGet reading read e → ¬ IsExplained reading read.voids read.history
get_refutes reading read e laws get = laws.gets reading read.voids read.history e get.any get.unexplained

pub get_report : (ruling : RulingOut) (reading : Reading) (read : TextRead) (e : Evidence) → EvidenceRefutesReadings → IsOfGet reading read e
    → IsLinearizable (conflicts_as reading.conflicts) (judged reading read)
    → IsReportOn ruling reading read (reported.Refuted e (get_offence read.history e)) (Some true)
get_report ruling reading read e laws get order = record {
  says = (
    e,
    get_offence read.history e,
    refl,
    record {
      evidence = inr get;
      offence = inr (get, order, refl);
      no_order = get_refutes reading read e laws get;
    },
  );
  proof = (refl, get_refutes reading read e laws get);
  calls = λ yes. absurd (cc);
}

-- what was found without an order
unexplained : (reading : Reading) (read : TextRead) (own : Offence) → HasNoOrderFound (conflicts_as reading.conflicts) (judged reading read)
    → IsOffence (conflicts_as reading.conflicts) (judged reading read) own → IsUnexplained reading read (offence_in_text reading.writes read.history own)
unexplained reading read own none offence = record { none_found = none; own = own; offence = offence; in_text = refl }

pub get_report_without : (ruling : RulingOut) (reading : Reading) (read : TextRead) (own : Offence) (e : Evidence) → EvidenceRefutesReadings
    → HasNoOrderFound (conflicts_as reading.conflicts) (judged reading read) → IsOffence (conflicts_as reading.conflicts) (judged reading read) own → IsOfGet reading read e
    → IsReportOn ruling reading read (reported.Refuted e (offence_in_text reading.writes read.history own)) (Some true)
get_report_without ruling reading read own e laws none offence get = record {
  says = (
    e,
    offence_in_text reading.writes read.history own,
    refl,
    record {
      evidence = inr get;
      offence = inl (unexplained reading read own none offence);
      no_order = get_refutes reading read e laws get;
    },
  );
  proof = (refl, get_refutes reading read e laws get);
  calls = λ yes. absurd (cc);
}

-- evidence in what is judged refutes the text
judged_refutes : (reading : Reading) (read : TextRead) (own : Evidence) → EvidenceRefutes → IsHistory (judged reading read)
    → Holds (conflicts_as reading.conflicts) (judged reading read) own → ¬ IsExplained reading read.voids read.history
judged_refutes reading read own law history holds explained = law (conflicts_as reading.conflicts) (judged reading read) own history holds explained.linearizable

pub evidence_report : (ruling : RulingOut) (reading : Reading) (read : TextRead) (own : Offence) (e : Evidence) → EvidenceRefutes → IsHistory (judged reading read)
    → HasNoOrderFound (conflicts_as reading.conflicts) (judged reading read) → IsOffence (conflicts_as reading.conflicts) (judged reading read) own
    → Holds (conflicts_as reading.conflicts) (judged reading read) e → IsReported ruling e
    → IsReportOn ruling reading read (reported.Refuted (evidence_in_text reading.writes read.history e) (offence_in_text reading.writes read.history own)) (Some true)
evidence_report ruling reading read own e law history none offence holds reportable = record {
  says = (
    evidence_in_text reading.writes read.history e,
    offence_in_text reading.writes read.history own,
    refl,
    record {
      evidence = inl (record { own = e; holds = holds; reportable = reportable; in_text = refl });
      offence = inl (unexplained reading read own none offence);
      no_order = judged_refutes reading read e law history holds;
    },
  );
  proof = (refl, judged_refutes reading read e law history holds);
  calls = λ yes. absurd (cc);
}

pub no_report : (ruling : RulingOut) (reading : Reading) (read : TextRead) (own : Offence) (proved : Bool) → HasNoOrderFound (conflicts_as reading.conflicts) (judged reading read)
    → IsOffence (conflicts_as reading.conflicts) (judged reading read) own → HasGetsExplained reading read
    → (IsTrue proved ↔ IsComplete (conflicts_as reading.conflicts) (judged reading read))
    → (IsTrue proved → ¬ IsLinearizable (conflicts_as reading.conflicts) (judged reading read))
    → IsReportOn ruling reading read (reported.No (offence_in_text reading.writes read.history own)) (Some proved)
no_report ruling reading read own proved none offence gets complete no_order = record {
  says = (
    offence_in_text reading.writes read.history own,
    refl,
    record {
      unexplained = unexplained reading read own none offence;
      gets = gets;
    },
  );
  proof = (proved, refl, complete, λ yes explained. no_order yes explained.linearizable);
  calls = λ yes. absurd (cc);
}

-- ---- a bulk

-- what is written of all bytes of the body and the reply is written of what the readers had
pub bulk_of_inputs : (first : ℕ) (b r bytes others : List ℕ) (body reply : Option (List ℕ)) (status : Status) (text : List ℕ) → b ≡ bytes → r ≡ others
    → IfSome body (λ input. bytes ≡ input) → IfSome reply (λ input. others ≡ input) → IsBulkAnswer first b r status text → AnswersBulk first body reply status text
bulk_of_inputs first b r bytes others None reply status text is_b is_r all_body all_reply is = tt
bulk_of_inputs first b r bytes others (Some x) None status text is_b is_r all_body all_reply is = tt
bulk_of_inputs first b r bytes others (Some x) (Some y) status text is_b is_r all_body all_reply is =
    subst (λ xs. IsBulkAnswer first xs y status text) (is_b ∙ all_body) (subst (λ ys. IsBulkAnswer first b ys status text) (is_r ∙ all_reply) is)

-- ---- prefixes

-- a history that has a prefix without an order has none
pub prefix_refutes : (c d : Conflicts) (whole part : List Event) (n : ℕ) → PrefixesStay → c ≡ d → part ≡ prefix whole n
    → ¬ IsLinearizable c part → ¬ IsLinearizable d whole
prefix_refutes c d whole part n stay same is none order =
    none (subst (IsLinearizable c) (sym is) (stay.linearizable c whole n (subst (λ x. IsLinearizable x whole) (sym same) order)))

-- what is found of a prefix without an order is found of the whole
found_earlier : (whole part : Unproven) (o : Offence) (n : ℕ) (found : Option Earlier) → PrefixesStay → n ≤ suc o.event → part.events ≡ prefix whole.events n → part.conflicts ≡ whole.conflicts
    → IfSome found (λ e. e.case ≡ part) → IfSome found (λ e. SaysOf part.conflicts part.events e.failing.evidence o.call e.certainty)
    → IfSome found (λ _. ¬ IsLinearizable part.conflicts part.events) → IfSome found (IsEarlier whole o)
found_earlier whole part o n None stay few is same case says none = tt
found_earlier whole part o n (Some e) stay few is same case says none = record {
  conflicts = ap (λ (c : Unproven). c.conflicts) case ∙ same;
  part = (n, few, ap (λ (c : Unproven). c.events) case ∙ is);
  says = subst (λ (c : Unproven). SaysOf c.conflicts c.events e.failing.evidence o.call e.certainty) (sym case) says;
  no_order = prefix_refutes part.conflicts whole.conflicts whole.events part.events n stay same is none;
}

-- the same if memory may be refused
pub earlier_found : (whole part : Unproven) (o : Offence) (n : ℕ) (found : Result (Option Earlier) AllocError) → PrefixesStay → n ≤ suc o.event
    → part.events ≡ prefix whole.events n → part.conflicts ≡ whole.conflicts → IfOk found (λ it. IfSome it (λ e. e.case ≡ part))
    → IfOk found (λ it. IfSome it (λ e. SaysOf part.conflicts part.events e.failing.evidence o.call e.certainty))
    → IfOk found (λ it. IfSome it (λ _. ¬ IsLinearizable part.conflicts part.events)) → IfOk found (λ it. IfSome it (IsEarlier whole o))
earlier_found whole part o n (Err e) stay few is same case says none = tt
earlier_found whole part o n (Ok found) stay few is same case says none = found_earlier whole part o n found stay few is same case says none

-- an explanation rests on what was found of the prefix, if something was; and else on what was found of the whole
pub earlier_grounds : (whole : Unproven) (evidence : Option Evidence) (certainty : Certainty) (found : Option Earlier) (e : Earlier) (H : List Event) → found ≡ Some e
    → H ≡ e.case.events → grounds whole evidence certainty found ≡ grounds_by H e.failing.evidence e.certainty
unfolding grounds
earlier_grounds whole evidence certainty found e H is same =
    subst (λ f. grounds whole evidence certainty f ≡ grounds_by H e.failing.evidence e.certainty) (sym is)
    (ap (λ x. grounds_by x e.failing.evidence e.certainty) (sym same))

pub whole_grounds : (whole : Unproven) (evidence : Option Evidence) (certainty : Certainty) (found : Option Earlier) (H : List Event) → found ≡ None
    → H ≡ whole.events → grounds whole evidence certainty found ≡ grounds_by H evidence certainty
unfolding grounds
whole_grounds whole evidence certainty found H is same =
    subst (λ f. grounds whole evidence certainty f ≡ grounds_by H evidence certainty) (sym is) (ap (λ x. grounds_by x evidence certainty) (sym same))
