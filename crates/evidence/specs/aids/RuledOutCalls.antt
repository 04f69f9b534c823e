-- The calls at which documents of histories are ruled out.
use Rattle.std.specs.Prelude.{◌≡◌, ℕ, List, Bool, Some, true, option_map, slice_get}
use Rattle.version_pair.specs.declared.pair.Pair.{Pair}
use Rattle.doc_register.specs.declared.state.Conflicts.{Conflicts}
use Rattle.events.specs.declared.event.Event.{Event}
use Rattle.events.specs.declared.record.Rec.{Rec}
use Rattle.events.specs.Events.{documents_of, records_of}
use Rattle.deciding.specs.Laws.{IsElsewhere}
use Rattle.deciding.specs.Records.{AreInOrder}
use Rattle.evidence.specs.Evidence.{IsRuledOutIn}

-- the document of this number is ruled out at the call
abbrev pub IsRuledOutDocument : Conflicts → List Event → ℕ → ℕ → Type 0
IsRuledOutDocument conflicts events doc n = (is : IsRuledOutIn conflicts events n) × (is.doc ≡ doc)

-- the pairs are known of other documents of the shard
abbrev pub AreElsewhere : List Event → ℕ → (Pair → Bool) → Type 0
AreElsewhere events doc elsewhere = (q : Pair) → elsewhere q ≡ true → (d : List ℕ × ℕ) → slice_get (documents_of events) doc ≡ Some d → IsElsewhere events d.0 q

-- these are the records of the document of this number, and the pairs those of others
pub record AreJudgedOf (events : List Event) (doc : ℕ) (records : List Rec) (elsewhere : Pair → Bool) : Type 0 where
  pub are : option_map (λ (d : List ℕ × ℕ). records_of events d.0) (slice_get (documents_of events) doc) ≡ Some records
  pub in_order : AreInOrder records
  pub others : AreElsewhere events doc elsewhere
