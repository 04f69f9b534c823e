use Rattle.std.proofs.Common.{sym, ap, ◌∙◌}
use Rattle.deciding.specs.declared.version.Version.{Version}
use Rattle.deciding.proofs.VersionLemmas.{reported_version}
use Rattle.deciding.proofs.versions.Versions.is_reported.Goals as goal

pub returns : goal.returns
returns c records are =
    let same = ap (λ (v : Version). v.reported) (c.version.ensures records are) in
    (λ is. (reported_version records c.args.pair).0 (sym same ∙ is), λ of. same ∙ (reported_version records c.args.pair).1 of)
