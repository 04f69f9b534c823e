-- What the records of a document say of a get that any copy may answer.
use Rattle.std.specs.Prelude.{◌≡◌, ◌<◌, ◌⊎◌, ℕ, List, Option, Some, None, slice_get}
use Rattle.version_pair.specs.declared.pair.Pair.{Pair}
use Rattle.version_pair.specs.PairOrder.{IsBelow}
use Rattle.doc_register.specs.declared.op.Op.TheVariants.{Delete}
use Rattle.doc_register.specs.declared.reply.Reply.{Reply as Answer}
use Rattle.doc_register.specs.declared.reply.Reply.TheVariants.{Indexed, Deleted, Found, Missing, Conflict}
use Rattle.doc_register.specs.Register.{value_of}
use Rattle.events.specs.declared.record.Rec.{Rec}
use Rattle.evidence.specs.Evidence.{MayTake, MayTakeAbove}
use Rattle.readings.specs.Reading.{conflicts_as}
use Rattle.readings.specs.aids.Peaks.{IsAcknowledged}
use Rattle.readings.specs.declared.document.Offence.{Offence}
use Rattle.readings.specs.declared.document.Offence.TheVariants.{NoWriter, StaleGet, MissedWrite}
use Rattle.readings.specs.declared.peaks.Changes.TheVariants.{All, Makes}
use Rattle.readings.specs.declared.reading.Reading.{Reading}
use Rattle.history.specs.declared.text_rules.Writes.TheVariants.{Repeated}

-- the call may have given the document the number k with the pair p before the position
pub record IsSource (reading : Reading) (r : Rec) (at : ℕ) (p : Pair) (k : ℕ) : Type 0 where
  pub before : r.call_at < at
  pub gives : value_of r.op ≡ Some k
  pub takes : MayTake (conflicts_as reading.conflicts) r.heard p ⊎ (reading.writes ≡ Repeated)

-- the call may have removed the document after its change with the pair q, before the position
pub record IsRemover (reading : Reading) (r : Rec) (at : ℕ) (q : Pair) : Type 0 where
  pub before : r.call_at < at
  pub condition : Option Pair
  pub deletes : r.op ≡ Delete condition
  pub takes : MayTakeAbove (conflicts_as reading.conflicts) r.heard q ⊎ ((reading.writes ≡ Repeated) × (condition ≡ None))

-- one of the records is such a call
abbrev pub HasSource : Reading → List Rec → ℕ → Pair → ℕ → Type 0
HasSource reading records at p k = (j : ℕ) × (r : Rec) × (slice_get records j ≡ Some r) × IsSource reading r at p k

abbrev pub HasRemover : Reading → List Rec → ℕ → Pair → Type 0
HasRemover reading records at q = (j : ℕ) × (r : Rec) × (slice_get records j ≡ Some r) × IsRemover reading r at q

-- a get called at the position c, whose reply at the position at found the pair p with the number k, is judged so
abbrev pub IsFoundJudged : Reading → List Rec → (c at : ℕ) → Pair → ℕ → Option Offence → Type 0
IsFoundJudged reading records c at p k None =
    HasSource reading records at p k × ((j : ℕ) (q : Pair) → IsAcknowledged All records c j q → ¬ IsBelow p q)
IsFoundJudged reading records c at p k (Some NoWriter) = ¬ HasSource reading records at p k
IsFoundJudged reading records c at p k (Some (StaleGet w)) = (q : Pair) × IsAcknowledged All records c w q × IsBelow p q
IsFoundJudged reading records c at p k (Some (MissedWrite w)) = ⊥

-- a get called at the position c, whose reply at the position at found nothing, is judged so
abbrev pub IsMissingJudged : Reading → List Rec → (c at : ℕ) → Option Offence → Type 0
IsMissingJudged reading records c at None = (j : ℕ) (q : Pair) → IsAcknowledged Makes records c j q → HasRemover reading records at q
IsMissingJudged reading records c at (Some NoWriter) = ⊥
IsMissingJudged reading records c at (Some (StaleGet w)) = ⊥
IsMissingJudged reading records c at (Some (MissedWrite w)) = (q : Pair) × IsAcknowledged Makes records c w q × (¬ HasRemover reading records at q)

-- a call of which this was heard is judged so; of a call that is no answered get there is nothing to judge
abbrev pub IsJudged : Reading → List Rec → ℕ → Option (ℕ × Answer) → Option Offence → Type 0
IsJudged reading records c None offence = offence ≡ None
IsJudged reading records c (Some (at, Indexed q created)) offence = offence ≡ None
IsJudged reading records c (Some (at, Deleted q found)) offence = offence ≡ None
IsJudged reading records c (Some (at, Found p k)) offence = IsFoundJudged reading records c at p k offence
IsJudged reading records c (Some (at, Missing)) offence = IsMissingJudged reading records c at offence
IsJudged reading records c (Some (at, Conflict)) offence = offence ≡ None

-- each record is judged to be explained
abbrev pub AreExplained : Reading → List Rec → Type 0
AreExplained reading records = (j : ℕ) (r : Rec) → slice_get records j ≡ Some r → IsJudged reading records r.call_at r.heard None

-- the record is judged to offend so
pub record Offends (reading : Reading) (records : List Rec) (rec : ℕ) (offence : Offence) : Type 0 where
  pub own : Rec
  pub at : slice_get records rec ≡ Some own
  pub judged : IsJudged reading records own.call_at own.heard (Some offence)
