-- The versions of a document, as the code keeps them.
use Rattle.std.specs.Prelude.{List}
use Rattle.events.specs.declared.record.Rec.{Rec}
use Rattle.deciding.specs.declared.versions.Versions.{Versions}
use Rattle.deciding.specs.aids.KnownPairs.{AreKnown}
use Rattle.deciding.specs.aids.Versions.{AreVersions}

-- they are those of the records
pub record AreOf (records : List Rec) (versions : Versions) : Type 0 where
  pub known : AreKnown records versions.known.pairs.items
  pub reported : AreVersions records versions.reported.items
