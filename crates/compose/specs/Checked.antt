-- What a check of a history returns.
use Rattle.std.specs.Prelude.{◌≡◌, ◌≢◌, ◌<◌, List, length}
use Rattle.doc_register.specs.declared.state.Conflicts.{Conflicts}
use Rattle.events.specs.declared.event.Event.{Event}
use Rattle.events.specs.Events.{documents_of}
use Rattle.events.specs.Order.{IsLinearizable}
use Rattle.covers.specs.Covers.{AreWitnesses}
use Rattle.compose.specs.Verdicts.{HasNoOrderFound}
use Rattle.check_pool.specs.declared.pool_fault.PoolFault.TheVariants as pool_fault
use Rattle.compose.specs.declared.checking.CheckFault.{CheckFault}
use Rattle.compose.specs.declared.checking.CheckFault.TheVariants as check_fault
use Rattle.compose.specs.declared.checking.Verdict.{Verdict}
use Rattle.compose.specs.declared.checking.Verdict.TheVariants.{Yes, No}

-- The verdict is on this history and this reading of conflicts: `Yes` with witnesses that cover it
-- (`AreWitnesses`), so that it is linearizable, `No` if no entries without a given pair cover it
-- (`HasNoOrderFound`).
-- Source: Herlihy and Wing, section 2 (linearizable); profile (the rest).
abbrev pub IsVerdictOn : Conflicts → List Event → Verdict → Type 0
IsVerdictOn conflicts events (Yes p) =
    (p.events ≡ events) × (p.conflicts ≡ conflicts) × AreWitnesses conflicts events p.witnesses × IsLinearizable conflicts events
IsVerdictOn conflicts events (No c) = (c.events ≡ events) × (c.conflicts ≡ conflicts) × HasNoOrderFound conflicts events

-- the verdict is Yes
abbrev pub IsYes : Verdict → Type 0
IsYes (Yes p) = Unit {0}
IsYes (No c) = ⊥

-- The fault has the history that was handed in; being out of memory is reported as that, in a worker too, and
-- not as a fault of the pool.
abbrev pub HandsBack : List Event → CheckFault → Type 0
HandsBack events (check_fault.Pool fault back) = (back ≡ events) × (fault ≢ pool_fault.NoMemory)
HandsBack events (check_fault.NoMemory back) = back ≡ events

-- a job that is lost, for which two messages came, or that an answer is not about, is the job of a document
-- of the history
abbrev pub NamesDocument : List Event → CheckFault → Type 0
NamesDocument events (check_fault.Pool (pool_fault.Lost doc) back) = doc < length (documents_of events)
NamesDocument events (check_fault.Pool (pool_fault.Double doc) back) = doc < length (documents_of events)
NamesDocument events (check_fault.Pool pool_fault.NoWorkers back) = Unit {0}
NamesDocument events (check_fault.Pool pool_fault.TooMany back) = Unit {0}
NamesDocument events (check_fault.Pool (pool_fault.Stranger doc) back) = doc < length (documents_of events)
NamesDocument events (check_fault.Pool pool_fault.NoMemory back) = Unit {0}
NamesDocument events (check_fault.NoMemory back) = Unit {0}
