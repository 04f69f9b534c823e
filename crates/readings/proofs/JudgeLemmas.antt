-- Gets that are judged by the greatest pair that was acknowledged before they were called.
use Rattle.std.proofs.Common.{ℕ, ◌≡◌, ◌<◌, ◌≤◌, ◌⊎◌, inl, inr, List, refl, sym, ap, subst, ◌∙◌, arith, Option, Some, None, length, slice_get}
use Rattle.std.proofs.lemmas.Bool.{cases_lt}
use Rattle.std.proofs.lemmas.Option.{slice_get_within}
use Rattle.version_pair.specs.declared.pair.Pair.{Pair}
use Rattle.version_pair.specs.PairOrder.{IsBelow}
use Rattle.version_pair.proofs.ListLemmas.{none_is_not_some, same_some}
use Rattle.doc_register.specs.declared.reply.Reply.{Reply as Answer}
use Rattle.doc_register.specs.declared.reply.Reply.TheVariants.{Indexed, Deleted, Found, Missing, Conflict}
use Rattle.doc_register.specs.declared.state.Conflicts.{Conflicts}
use Rattle.events.specs.declared.record.Rec.{Rec}
use Rattle.evidence.specs.Evidence.{MayTakeAbove}
use Rattle.write_chain.specs.AnsweredCalls.{AreAnsweredCalls, answer_of}
use Rattle.write_chain.specs.declared.answers.AnsweredRec.{AnsweredRec}
use Rattle.write_chain.proofs.AnsweredCallLemmas.{heard_entry}
use Rattle.readings.specs.declared.peaks.Changes.{Changes}
use Rattle.readings.specs.declared.peaks.Changes.TheVariants.{All, Makes}
use Rattle.readings.specs.declared.reading.Reading.{Reading}
use Rattle.history.specs.declared.text_rules.Writes.TheVariants.{Repeated}
use Rattle.readings.specs.Reading.{conflicts_as}
use Rattle.readings.specs.aids.Peaks.{IsAcknowledged, IsPeakBefore, pair_at}
use Rattle.readings.specs.aids.Records.{AreExplained, HasRemover, IsJudged, IsRemover}
use Rattle.readings.proofs.PeakLemmas.{pair_there}

-- ---- pairs

-- what is below a pair is below any that isn't below that
pub below_up : (p q t : Pair) → ¬ IsBelow t q → IsBelow p q → IsBelow p t
below_up p q t not (inl less) = elim (cases_lt t.term q.term) as (λ _. IsBelow p t) [ inl lower ↦ absurd (not (inl lower)) | inr up ↦ inl (omega arith) ]
below_up p q t not (inr less) =
    let same : p.term ≡ q.term = less.0 in
    let under : p.seq < q.seq = less.1 in
    elim (cases_lt t.term q.term) as (λ _. IsBelow p t) [
      | inl lower ↦ absurd (not (inl lower))
      | inr up ↦ elim (cases_lt q.term t.term) as (λ _. IsBelow p t) [
        | inl higher ↦ inl (omega arith)
        | inr level ↦ elim (cases_lt t.seq q.seq) as (λ _. IsBelow p t) [
          | inl low ↦ absurd (not (inr ((omega arith), low)))
          | inr high ↦ inr ((omega arith), (omega arith))
        ]
      ]
    ]

-- and what is above a pair is above any that it isn't below
pub above_down : (p q t : Pair) → ¬ IsBelow t q → IsBelow t p → IsBelow q p
above_down p q t not (inl less) = elim (cases_lt t.term q.term) as (λ _. IsBelow q p) [ inl lower ↦ absurd (not (inl lower)) | inr up ↦ inl (omega arith) ]
above_down p q t not (inr less) =
    let same : t.term ≡ p.term = less.0 in
    let under : t.seq < p.seq = less.1 in
    elim (cases_lt t.term q.term) as (λ _. IsBelow q p) [
      | inl lower ↦ absurd (not (inl lower))
      | inr up ↦ elim (cases_lt q.term t.term) as (λ _. IsBelow q p) [
        | inl higher ↦ inl (omega arith)
        | inr level ↦ elim (cases_lt t.seq q.seq) as (λ _. IsBelow q p) [
          | inl low ↦ absurd (not (inr ((omega arith), low)))
          | inr high ↦ inr ((omega arith), (omega arith))
        ]
      ]
    ]

-- the pair of an acknowledged write
pub acknowledged_pair : (changes : Changes) (records : List Rec) (c w : ℕ) (q p : Pair) → IsAcknowledged changes records c w q → pair_at changes records w ≡ Some p → q ≡ p
acknowledged_pair changes records c w q p a is = same_some q p (sym (pair_there changes records w a.own a.at ∙ a.pair) ∙ is)

-- ---- removers

above_heard : (conflicts : Conflicts) (heard : Option (ℕ × Answer)) (t q : Pair) → ¬ IsBelow t q → MayTakeAbove conflicts heard t → MayTakeAbove conflicts heard q
above_heard conflicts None t q not may = may
above_heard conflicts (Some (at, Indexed p created)) t q not may = may
above_heard conflicts (Some (at, Deleted p found)) t q not may = above_down p q t not may
above_heard conflicts (Some (at, Found p k)) t q not may = may
above_heard conflicts (Some (at, Missing)) t q not may = may
above_heard conflicts (Some (at, Conflict)) t q not may = may

-- what may have removed a change may have removed an earlier one
pub removes_earlier : (reading : Reading) (records : List Rec) (at : ℕ) (t q : Pair) → ¬ IsBelow t q → HasRemover reading records at t → HasRemover reading records at q
removes_earlier reading records at t q not (j, r, there, remover) = (
  j,
  r,
  there,
  record {
    before = remover.before;
    condition = remover.condition;
    deletes = remover.deletes;
    takes = elim remover.takes as (λ _. MayTakeAbove (conflicts_as reading.conflicts) r.heard q ⊎ ((reading.writes ≡ Repeated) × (remover.condition ≡ None))) [
      | inl may ↦ inl (above_heard (conflicts_as reading.conflicts) r.heard t q not may)
      | inr again ↦ inr again
    ];
  },
)

-- ---- all records

-- if each answered call is explained, each record is
pub explained_all : (reading : Reading) (records : List Rec) (answers : List AnsweredRec) → AreAnsweredCalls records answers
    → ((m : ℕ) (a : AnsweredRec) (r : Rec) → m < length answers → slice_get answers m ≡ Some a → slice_get records a.rec ≡ Some r → IsJudged reading records r.call_at r.heard None)
    → AreExplained reading records
explained_all reading records answers are judged j r at = by_heard r.heard refl where
  by_heard : (h : Option (ℕ × Answer)) → r.heard ≡ h → IsJudged reading records r.call_at r.heard None
  by_heard None is = subst (λ h. IsJudged reading records r.call_at h None) (sym is) refl
  by_heard (Some (y, reply)) is =
      let m = heard_entry records answers j r y reply are at is in
      let a : AnsweredRec = answer_of y j in
      judged m.0 a r (slice_get_within answers m.0 a m.1) m.1 at
