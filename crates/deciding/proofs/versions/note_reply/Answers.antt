use Rattle.std.proofs.Common.{rules, ◌≡◌, ◌≤◌, length, subst, sym, Some, slice_get, refl, ◌<◌, set}
use Rattle.std.proofs.lemmas.Option.{slice_get_read}
use Rattle.doc_register.specs.Register.{pair_of_reply}
use Rattle.deciding.specs.Reported.{known_pairs}
use Rattle.deciding.specs.Positions.{count_below}
use Rattle.deciding.specs.aids.Versions.{IsNoted, version_with}
use Rattle.deciding.proofs.VersionLemmas.{noted_past, noted_there}
use Rattle.deciding.proofs.versions.note_reply.Goals as goal

pub returns-then-below-len : goal.returns-then-below-len
returns-then-below-len c records known =
    let old = c.args.versions.now.items in
    let h = c.in-Some.heard in
    let place = c.count_below-below.result in
    let y = c.index.result.now in
    let within : place < length old = search rules in
    let at : slice_get old place ≡ Some y = slice_get_read old _ place y refl within c.index.ensures in
    let shows : pair_of_reply h.1 ≡ Some c.in-Some-pair.pair = sym c.in-Some-pair.ensures in
    let there = noted_there records h c.in-Some-pair.pair old place y shows (c.count_below-below.ensures.exact records known) at in
    subst (λ v. IsNoted records c.args.call.heard old (set old place v)) (sym c.with.ensures) (subst (λ o. IsNoted records o old (set old place (version_with y h.1))) (sym c.in-Some.is) there)

pub returns-else-below-len : goal.returns-else-below-len
returns-else-below-len c records known =
    let h = c.in-Some.heard in
    let shows : pair_of_reply h.1 ≡ Some c.in-Some-pair.pair = sym c.in-Some-pair.ensures in
    let count : c.count_below-below.result ≡ count_below (known_pairs records) c.in-Some-pair.pair = c.count_below-below.ensures.exact records known in
    let past : length c.args.versions.now.items ≤ c.count_below-below.result = search rules in
    subst (λ o. IsNoted records o c.args.versions.now.items c.args.versions.now.items) (sym c.in-Some.is)
    (noted_past records h c.in-Some-pair.pair c.args.versions.now.items shows (subst (λ n. length c.args.versions.now.items ≤ n) count past))
