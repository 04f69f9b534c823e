-- Gets that any copy may answer, which are judged one by one; and what it means that a history is explained under a
-- reading.
use Rattle.std.specs.Prelude.{◌≡◌, ◌<◌, ℕ, List, Option, Some, None}
use Rattle.version_pair.specs.declared.pair.Pair.{Pair}
use Rattle.doc_register.specs.declared.op.Op.{Op}
use Rattle.doc_register.specs.declared.op.Op.TheVariants.{Delete}
use Rattle.doc_register.specs.Register.{value_of}
use Rattle.events.specs.declared.event.Event.{Event}
use Rattle.events.specs.Events.{IsCallAt}
use Rattle.events.specs.Order.{IsLinearizable}
use Rattle.evidence.specs.Evidence.{Holds, IsFound, IsMissing}
use Rattle.evidence.specs.declared.refuted.Refuted.{Refuted}
use Rattle.evidence.specs.declared.refuted.Refuted.TheVariants as evidence
use Rattle.readings.specs.Reading.{conflicts_as, heeded_events, read_as}
use Rattle.readings.specs.declared.reading.Gets.TheVariants.{Any}
use Rattle.readings.specs.declared.reading.Reading.{Reading}
use Rattle.history.specs.declared.text_rules.Writes.TheVariants.{Repeated}

-- ---- writes that the store may have performed a second time

-- The call at the position j is an index or a create of the number that the get found, on its document, and was
-- called before the get's reply. If writes may be repeated, an attempt that no reply reports may have given the
-- document the pair that the get found. It needn't be a write without a condition: the attempt may have been on a
-- primary whose changes were rolled back.
-- Source: OpenSearch: dirty reads; profile.
pub record IsOtherWriter (events : List Event) (g j : ℕ) : Type 0 where
  pub doc : List ℕ
  pub replied : ℕ
  pub pair : Pair
  pub number : ℕ
  -- the get found the pair with the number
  pub get : IsFound events g doc replied pair number
  -- the call is before its reply
  pub before : j < replied
  pub writer : ℕ
  pub shard : ℕ
  pub op : Op
  -- it is on the document
  pub call : IsCallAt events j writer shard doc op
  -- it is an index or a create with the number
  pub gives : value_of op ≡ Some number

-- The call at the position j is a delete without a condition of the document that the get did not find, and was
-- called before the get's reply.
-- Source: OpenSearch: the coordinating node sends a write again; profile.
pub record IsOtherRemover (events : List Event) (g j : ℕ) : Type 0 where
  pub doc : List ℕ
  pub replied : ℕ
  -- the get found nothing
  pub get : IsMissing events g doc replied
  -- the call is before its reply
  pub before : j < replied
  pub remover : ℕ
  pub shard : ℕ
  -- it is a delete of the document, without a condition
  pub call : IsCallAt events j remover shard doc (Delete None)

-- the call at the position j may explain the get of the evidence by an attempt that no reply reports
abbrev pub IsOtherAttempt : List Event → Refuted → ℕ → Type 0
IsOtherAttempt events (evidence.PairTwice a b) j = ⊥
IsOtherAttempt events (evidence.NoWriter g) j = IsOtherWriter events g j
IsOtherAttempt events (evidence.StaleGet g w) j = ⊥
IsOtherAttempt events (evidence.MissedWrite g w) j = IsOtherRemover events g j
IsOtherAttempt events (evidence.StaleSwap a b) j = ⊥
IsOtherAttempt events (evidence.RuledOut n) j = ⊥

-- ---- gets that nothing explains

-- the evidence is of a get: it found what nobody wrote, or it found an older version, or nothing, although a write
-- of its document was answered before it was called
abbrev pub IsOfGet : Refuted → Type 0
IsOfGet (evidence.PairTwice a b) = ⊥
IsOfGet (evidence.NoWriter g) = Unit {0}
IsOfGet (evidence.StaleGet g w) = Unit {0}
IsOfGet (evidence.MissedWrite g w) = Unit {0}
IsOfGet (evidence.StaleSwap a b) = ⊥
IsOfGet (evidence.RuledOut n) = ⊥

-- The evidence is of a get that nothing explains, whatever copy answered it: it holds in the history (`Holds`), and
-- if writes may be repeated, no call explains it by another attempt.
-- Source: OpenSearch, get document; profile.
pub record IsUnexplainedGet (reading : Reading) (events : List Event) (e : Refuted) : Type 0 where
  -- it is of a get
  pub of_get : IsOfGet e
  -- it holds, if a conflict may hide a write unless conflicts are plain
  pub holds : Holds (conflicts_as reading.conflicts) events e
  -- no write that was performed a second time explains it
  pub no_other : reading.writes ≡ Repeated → (j : ℕ) → ¬ IsOtherAttempt events e j

-- no evidence is of a get that nothing explains
abbrev pub AreGetsExplained : Reading → List Event → Type 0
AreGetsExplained reading events = (e : Refuted) → ¬ IsUnexplainedGet reading events e

-- ---- explained histories

-- The history is explained under the reading: some order explains the events as they are read, and if any copy may
-- answer a get, each get is explained by itself.
-- Source: Herlihy and Wing, section 2 (`linearizable`); profile (the readings).
pub record IsExplained (reading : Reading) (voids : List ℕ) (events : List Event) : Type 0 where
  -- the events as they are read are linearizable
  pub linearizable : IsLinearizable (conflicts_as reading.conflicts) (read_as reading voids events)
  -- each get is explained, if any copy may answer it
  pub gets : reading.gets ≡ Any → AreGetsExplained reading (heeded_events reading voids events)
