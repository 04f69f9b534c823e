use Rattle.std.proofs.Common.{◌≡◌, sym, ap, ◌∙◌, List, slice_get, Some, true≢false}
use Rattle.std.specs.Prelude.{unwrap_or}
use Rattle.deciding.specs.declared.version.Version.{Version}
use Rattle.deciding.specs.Reported.{IsKnown}
use Rattle.deciding.specs.aids.Versions.{unreported, version_reported}
use Rattle.deciding.proofs.ItemLemmas.{copied_get}
use Rattle.deciding.proofs.OrderedPositions.{among_known, known_among}
use Rattle.deciding.proofs.VersionLemmas.{version_unknown}
use Rattle.deciding.proofs.versions.Versions.version.Goals as goal

pub returns-then-not-contains : goal.returns-then-not-contains
returns-then-not-contains c records are =
    sym (version_unknown records c.args.pair (λ known. true≢false (sym (known_among records c.args.pair known) ∙ (sym (c.contains.ensures records are.known) ∙ c.if-not-contains.true))))

pub returns : goal.returns
returns c records are =
    let p = c.args.pair in
    let versions = c.args.self.now.reported.items in
    let below = c.count_below-below.result in
    let known : IsKnown records p = among_known records p (sym (c.contains.ensures records are.known) ∙ c.if-not-contains.false) in
    let got : c.copied.result ≡ slice_get versions below = c.copied.ensures ∙ (copied_get c.deref.result.now below c.get.result c.get.ensures.lookup ∙ ap (λ (xs : List Version). slice_get xs below) c.deref.ensures.value) in
    let at : slice_get versions below ≡ Some (version_reported unreported p records) = ap (slice_get versions) (c.count_below-below.ensures.exact records are.known) ∙ are.reported p known in
    c.unwrap_or.ensures ∙ ap (λ o. unwrap_or o unreported) (got ∙ at)
