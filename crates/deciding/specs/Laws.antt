-- Laws of documents that are ruled out.
use Rattle.std.specs.Prelude.{◌≡◌, ◌≢◌, ℕ, true, List}
use Rattle.version_pair.specs.declared.pair.Pair.{Pair}
use Rattle.doc_register.specs.declared.op.Op.{Op}
use Rattle.events.specs.declared.event.Event.{Event}
use Rattle.events.specs.Events.{IsCallAt, IsHistory, records_of}
use Rattle.events.specs.Order.{IsLinearizable}
use Rattle.deciding.specs.Facts.{Facts}
use Rattle.deciding.specs.Reported.{IsKnown}
use Rattle.deciding.specs.Tables.{IsRuledOut}

-- another document of the shard of this one is known to have the pair
pub record IsElsewhere (events : List Event) (d : List ℕ) (q : Pair) : Type 0 where
  -- the other document
  pub other : List ℕ
  -- it is another one
  pub differs : other ≢ d
  -- the calls of both are of one shard
  pub shard : (k j n m h g : ℕ) (a b : Op) → IsCallAt events k n h d a → IsCallAt events j m g other b → h ≡ g
  -- a reply shows that a change of it has the pair
  pub known : IsKnown (records_of events other) q

-- If a document is ruled out at some call, no order explains the history, however its pending calls are completed. The
-- pairs that are elsewhere must be those that other documents of the shard are known to have.
-- Source: Herlihy and Wing, section 2 (linearizable); profile (the rest).
abbrev pub RuledOutHaveNoOrder : Type 0
RuledOutHaveNoOrder = (facts : Facts) (events : List Event) (d : List ℕ) (no : ℕ) → IsHistory events
    → ((q : Pair) → facts.elsewhere q ≡ true → IsElsewhere events d q) → IsRuledOut facts (records_of events d) no → ¬ IsLinearizable facts.conflicts events
