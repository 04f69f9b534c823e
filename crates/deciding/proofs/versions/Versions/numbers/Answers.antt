use Rattle.std.proofs.Common.{sym, subst}
use Rattle.deciding.specs.declared.version.Version.{Version}
use Rattle.deciding.specs.aids.Versions.{AreNumbersFound}
use Rattle.deciding.proofs.VersionLemmas.{numbers_version}
use Rattle.deciding.proofs.versions.Versions.numbers.Goals as goal

pub returns : goal.returns
returns c records are =
    subst (λ (v : Version). AreNumbersFound records c.args.pair v.numbers) (sym (c.version.ensures records are)) (numbers_version records c.args.pair)
