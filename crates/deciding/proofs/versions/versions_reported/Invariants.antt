use Rattle.deciding.specs.aids.KnownPairs.{AreKnown}
use Rattle.deciding.proofs.VersionLemmas.{AreNoted}
use Rattle.deciding.proofs.versions.versions_reported.Given as goal

abbrev pub invariant-loop-call : goal.invariant-loop-call
invariant-loop-call l = AreKnown l.records l.known.pairs.items → AreNoted l.records l.call-index l.versions.items
