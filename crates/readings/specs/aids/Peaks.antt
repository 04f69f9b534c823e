-- The greatest pair that was acknowledged for a document before a position.
use Rattle.std.specs.Prelude.{◌≡◌, ◌<◌, ◌+◌, ℕ, List, Option, Some, None, length, option_and_then, slice_get, take}
use Rattle.version_pair.specs.declared.pair.Pair.{Pair}
use Rattle.version_pair.specs.PairOrder.{IsBelow}
use Rattle.doc_register.specs.declared.reply.Reply.{Reply as Answer}
use Rattle.doc_register.specs.Register.{value_of}
use Rattle.events.specs.Heard.{pair_of}
use Rattle.events.specs.declared.record.Rec.{Rec}
use Rattle.write_chain.specs.declared.answers.AnsweredRec.{AnsweredRec}
use Rattle.readings.specs.declared.peaks.Changes.{Changes}
use Rattle.readings.specs.declared.peaks.Changes.TheVariants.{All, Makes}

-- the pair with which an index or a create was performed
abbrev pub pair_made : Option ℕ → Option Pair → Option Pair
pair_made None pair = None
pair_made (Some k) pair = pair

-- the pair with which a write was performed that counts
abbrev pub counted_pair : Changes → Rec → Option Pair
counted_pair All r = pair_of r.heard
counted_pair Makes r = pair_made (value_of r.op) (pair_of r.heard)

-- the pair of the write that a number of a record names
abbrev pub pair_at : Changes → List Rec → ℕ → Option Pair
pair_at changes records k = option_and_then (counted_pair changes) (slice_get records k)

-- the record has the greatest pair that these answered calls have, if one of them has a pair that counts
abbrev pub IsPeakOf : Changes → List Rec → List AnsweredRec → Option ℕ → Type 0
IsPeakOf changes records answers None = (m : ℕ) (a : AnsweredRec) → slice_get answers m ≡ Some a → pair_at changes records a.rec ≡ None
IsPeakOf changes records answers (Some w) = (q : Pair) × (pair_at changes records w ≡ Some q)
    × ((n : ℕ) × (b : AnsweredRec) × (slice_get answers n ≡ Some b) × (b.rec ≡ w))
    × ((m : ℕ) (a : AnsweredRec) (p : Pair) → slice_get answers m ≡ Some a → pair_at changes records a.rec ≡ Some p → ¬ IsBelow q p)

-- for each number of answered calls, their peak
pub record ArePeaks (changes : Changes) (records : List Rec) (answers : List AnsweredRec) (peaks : List (Option ℕ)) : Type 0 where
  pub count : length peaks ≡ length answers + 1
  pub each : (k : ℕ) (peak : Option ℕ) → slice_get peaks k ≡ Some peak → IsPeakOf changes records (take k answers) peak

-- the same so far: for each number of answered calls up to this one
pub record ArePeaksSoFar (changes : Changes) (records : List Rec) (answers : List AnsweredRec) (peaks : List (Option ℕ)) (k : ℕ) (peak : Option ℕ) : Type 0 where
  pub count : length peaks ≡ k + 1
  pub each : (j : ℕ) (own : Option ℕ) → slice_get peaks j ≡ Some own → IsPeakOf changes records (take j answers) own
  pub last : IsPeakOf changes records (take k answers) peak

-- the record is of a write that counts, was performed with the pair q, and was answered before the position c
pub record IsAcknowledged (changes : Changes) (records : List Rec) (c j : ℕ) (q : Pair) : Type 0 where
  pub own : Rec
  pub at : slice_get records j ≡ Some own
  pub replied : ℕ
  pub reply : Answer
  pub heard : own.heard ≡ Some (replied, reply)
  pub before : replied < c
  pub pair : counted_pair changes own ≡ Some q

-- the record has the greatest pair that was acknowledged before the position, if one was
abbrev pub IsPeakBefore : Changes → List Rec → ℕ → Option ℕ → Type 0
IsPeakBefore changes records c None = (j : ℕ) (q : Pair) → ¬ IsAcknowledged changes records c j q
IsPeakBefore changes records c (Some w) = (q : Pair) × IsAcknowledged changes records c w q
    × ((j : ℕ) (p : Pair) → IsAcknowledged changes records c j p → ¬ IsBelow q p)
