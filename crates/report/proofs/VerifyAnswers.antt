-- What is reported of a witness answers both inputs.
use Rattle.std.proofs.Common.{ℕ, ◌≡◌, ◌+◌, List, Option, None, Some, Ok, Err, ap, inl, inr, map, refl, subst, sym, ◌∙◌}
use Rattle.std.specs.Prelude.{IfOk, IfSome, Result}
use Rattle.std.specs.declared.alloc.AllocError.{AllocError}
use Rattle.api_lines.specs.declared.text_fault.TextFault.{TextFault}
use Rattle.compose.specs.Counts.{calls_counted, is_counted}
use Rattle.compose.specs.Laws.{places_numbered}
use Rattle.compose.specs.VerifyFaults.{IsFirstVerifyFault}
use Rattle.compose.specs.Verdicts.{Proven}
use Rattle.compose.specs.declared.verify_fault.VerifyFault.{VerifyFault}
use Rattle.covers.specs.Covers.{AreCover}
use Rattle.doc_register.specs.declared.state.Conflicts.{Conflicts}
use Rattle.events.specs.declared.event.Event.{Event}
use Rattle.history.specs.ByRules.{history_text_by}
use Rattle.history.specs.Laws.{TextsAreReadByRules}
use Rattle.history.specs.declared.text_read.TextRead.{TextRead}
use Rattle.places.specs.Documents.{DocPlaces, witness_places}
use Rattle.readings.specs.Laws.{EvidenceRefutesReadings}
use Rattle.readings.specs.Reading.{conflicts_as, rules_of}
use Rattle.readings.specs.declared.reading.Reading.{Reading}
use Rattle.result_lines.specs.Objects.{line_of}
use Rattle.result_lines.specs.declared.reported.Reported.{Reported}
use Rattle.result_lines.specs.declared.reported.Reported.TheVariants as reported
use Rattle.witness.specs.Text.{witness_text}
use Rattle.report.specs.Details.{IsOfVerify, status_of}
use Rattle.report.specs.Verdict.{IsReadBy, IsVerifyAnswer, VerifiesInputs, judged, own_numbers}
use Rattle.report.specs.aids.Counting.{AreCountsOf, IsOfCovered}
use Rattle.report.proofs.AnswerLemmas.{get_refutes, verified_with, if_any, if_read}
use Rattle.report.proofs.InputAnswers.{IsReadAs, IsRefusedAs}
use Rattle.report.proofs.OwnCalls.{own_calls}

-- the entries cover what is judged, and are those of the proof
pub record IsOfEntries (reading : Reading) (read : TextRead) (proof : Proven) (entries : List DocPlaces) : Type 0 where
  pub same : proof.events ≡ judged reading read
  pub way : proof.conflicts ≡ conflicts_as reading.conflicts
  pub places : map witness_places proof.witnesses ≡ entries
  pub cover : AreCover (conflicts_as reading.conflicts) (judged reading read) entries

pub entries_of : (reading : Reading) (read : TextRead) (proof : Proven) (entries : List DocPlaces) (events : List Event) (conflicts : Conflicts) → events ≡ judged reading read
    → conflicts ≡ conflicts_as reading.conflicts → proof.events ≡ events → proof.conflicts ≡ conflicts → map witness_places proof.witnesses ≡ entries → AreCover conflicts events entries
    → IsOfEntries reading read proof entries
entries_of reading read proof entries events conflicts judges way same conflicts_same places cover = record {
  same = same ∙ judges;
  way = conflicts_same ∙ way;
  places = places;
  cover = subst (λ H. AreCover (conflicts_as reading.conflicts) H entries) judges (subst (λ k. AreCover k events entries) way cover);
}

-- so many of the text's calls are in no place
places_counted : (reading : Reading) (read : TextRead) (proof : Proven) (entries : List DocPlaces) (unplaced calls : ℕ) → IsOfEntries reading read proof entries
    → places_numbered (is_counted (own_numbers reading.writes)) proof.events (map witness_places proof.witnesses) + unplaced ≡ calls
    → places_numbered (is_counted (own_numbers reading.writes)) (judged reading read) entries + unplaced ≡ calls
places_counted reading read proof entries unplaced calls of is =
    subst (λ H. places_numbered (is_counted (own_numbers reading.writes)) H entries + unplaced ≡ calls) of.same
    (subst (λ es. places_numbered (is_counted (own_numbers reading.writes)) proof.events es + unplaced ≡ calls) of.places is)

covered : (reading : Reading) (read : TextRead) (proof : Proven) (entries : List DocPlaces) (said : Reported) → EvidenceRefutesReadings → IsOfEntries reading read proof entries
    → IsOfCovered reading read proof said → (input witness : List ℕ) → IsReadBy reading input read → witness_text witness ≡ Ok entries
    → IsVerifyAnswer reading input witness (status_of said) (line_of said)
covered reading read proof entries (reported.Yes c) laws of is input witness by reads = absurd is
covered reading read proof entries (reported.No o) laws of is input witness by reads = absurd is
covered reading read proof entries (reported.Refuted e o) laws of is input witness by reads = absurd is
covered reading read proof entries (reported.Refused f) laws of is input witness by reads = absurd is
covered reading read proof entries (reported.Verified c) laws of is input witness by reads = (
  c,
  refl,
  (
    read,
    by,
    verified_with reading read proof c entries witness of.same of.way is.0 is.1 reads of.cover
        (places_counted reading read proof entries is.0.unplaced c.calls of
        (is.0.placed.placed ∙ (ap (λ H. calls_counted (own_numbers reading.writes) H) of.same ∙ (own_calls reading read ∙ is.0.all_calls)))),
  ),
)
covered reading read proof entries (reported.RefusedHistory f) laws of is input witness by reads = absurd is
covered reading read proof entries (reported.RefusedWitness f) laws of is input witness by reads = absurd is
covered reading read proof entries (reported.Broken f) laws of is input witness by reads = absurd is
covered reading read proof entries (reported.BrokenGet e) laws of is input witness by reads = inr (
  e,
  refl,
  (
    read,
    by,
    record {
      entries = entries;
      reads = reads;
      cover = of.cover;
      get = is;
      no_order = get_refutes reading read e laws is;
    },
  ),
)

pub made_covered : (reading : Reading) (read : TextRead) (proof : Proven) (entries : List DocPlaces) (made : Result Reported AllocError) → EvidenceRefutesReadings → IsOfEntries reading read proof entries
    → IfOk made (IsOfCovered reading read proof)
    → IfOk made (λ said. (input witness : List ℕ) → IsReadBy reading input read → witness_text witness ≡ Ok entries → IsVerifyAnswer reading input witness (status_of said) (line_of said))
made_covered reading read proof entries (Err e) laws of is = tt
made_covered reading read proof entries (Ok said) laws of is = covered reading read proof entries said laws of is

covered_kind : (reading : Reading) (read : TextRead) (proof : Proven) (said : Reported) → IsOfCovered reading read proof said → IsOfVerify said
covered_kind reading read proof (reported.Yes c) is = absurd is
covered_kind reading read proof (reported.No o) is = absurd is
covered_kind reading read proof (reported.Refuted e o) is = absurd is
covered_kind reading read proof (reported.Refused f) is = absurd is
covered_kind reading read proof (reported.Verified c) is = tt
covered_kind reading read proof (reported.RefusedHistory f) is = absurd is
covered_kind reading read proof (reported.RefusedWitness f) is = absurd is
covered_kind reading read proof (reported.Broken f) is = absurd is
covered_kind reading read proof (reported.BrokenGet e) is = tt

pub made_kind : (reading : Reading) (read : TextRead) (proof : Proven) (made : Result Reported AllocError) → IfOk made (IsOfCovered reading read proof) → IfOk made IsOfVerify
made_kind reading read proof (Err e) is = tt
made_kind reading read proof (Ok said) is = covered_kind reading read proof said is

-- a first fault
pub verify_broken : (reading : Reading) (read : TextRead) (conflicts : Conflicts) (events : List Event) (entries : List DocPlaces) (fault : VerifyFault) → events ≡ judged reading read
    → conflicts ≡ conflicts_as reading.conflicts → IsFirstVerifyFault conflicts events entries fault → ¬ AreCover conflicts events entries → (input witness : List ℕ)
    → IsReadBy reading input read → witness_text witness ≡ Ok entries → IsVerifyAnswer reading input witness (status_of (reported.Broken fault)) (line_of (reported.Broken fault))
verify_broken reading read conflicts events entries fault same way first none input witness by reads =
    let c = conflicts_as reading.conflicts in
    inl (
      fault,
      refl,
      (
        read,
        by,
        record {
          entries = entries;
          reads = reads;
          first = subst (λ H. IsFirstVerifyFault c H entries fault) same (subst (λ k. IsFirstVerifyFault k events entries fault) way first);
          no_cover = subst (λ H. ¬ AreCover c H entries) same (subst (λ k. ¬ AreCover k events entries) way none);
        },
      ),
    )

-- a witness text that is refused
pub witness_refused : (reading : Reading) (read : TextRead) (fault : TextFault) (input witness : List ℕ) → IsReadBy reading input read → witness_text witness ≡ Err fault
    → IsVerifyAnswer reading input witness (status_of (reported.RefusedWitness fault)) (line_of (reported.RefusedWitness fault))
witness_refused reading read fault input witness by refused = inr (fault, refl, (read, by, refused))

-- ---- both inputs

pub made_verifies : {E : Type 0} (reading : Reading) (read : TextRead) (input witness : Option (List ℕ)) (made : Result Reported E) → TextsAreReadByRules → IsReadAs reading input read
    → IfOk made (λ said. (h : List ℕ) → IsReadBy reading h read → IfSome witness (λ w. IsVerifyAnswer reading h w (status_of said) (line_of said)))
    → IfOk made (λ said. VerifiesInputs reading input witness (status_of said) (line_of said))
made_verifies reading read input witness (Err e) laws is each = tt
made_verifies reading read input witness (Ok said) laws is each = if_read reading read input laws is each

pub history_refused : (reading : Reading) (input witness : Option (List ℕ)) (fault : TextFault) → IsRefusedAs reading input fault
    → VerifiesInputs reading input witness (status_of (reported.RefusedHistory fault)) (line_of (reported.RefusedHistory fault))
history_refused reading None witness fault is = tt
history_refused reading (Some h) witness fault is = if_any witness (λ w. inl (fault, refl, is))
