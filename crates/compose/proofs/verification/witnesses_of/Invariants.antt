use Rattle.std.proofs.Common.{◌≡◌, ◌++◌, length, map}
use Rattle.events.specs.Events.{documents_of}
use Rattle.places.specs.Documents.{doc_places}
use Rattle.compose.specs.aids.Verified.{AreVerified}
use Rattle.compose.proofs.verification.witnesses_of.Given as goal

abbrev pub invariant-loop-places : goal.invariant-loop-places
invariant-loop-places l =
    (goal.iterator-loop-places).can_next l.places-iterator × (goal.iterator-loop-places).is_finite l.places-iterator
    × (length l.yielded ≡ l.entry) × (l.yielded ++ l.places-iterator.rest.items ≡ l.fn.entries.items)
    × (length l.verification.entered.items ≡ length (documents_of l.history))
    × AreVerified l.conflicts l.history (map doc_places l.yielded) l.verification.entered.items l.verification.witnesses.items
