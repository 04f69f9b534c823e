use Rattle.std.proofs.Common.{refl, ◌∙◌, ◌++◌, ◌∷◌, [], ap, sym, take}
use Rattle.std.proofs.lemmas.List.{append_assoc}
use Rattle.std.proofs.lemmas.Option.{slice_get_read}
use Rattle.shard_numbers.specs.Taken.{pairs_at}
use Rattle.shard_numbers.proofs.TakenLemmas.{pairs_one_more}
use Rattle.shard_numbers.proofs.taken.add_document.Goals as goal

pub loop-i-preserved : goal.loop-i-preserved
loop-i-preserved c =
    let records = c.records-records.result.now in
    let places = c.places-places.result.now in
    let old = c.args.pairs.now.items in
    let done = pairs_at c.args.shard records (take c.loop-i.i places) in
    let one = pairs_at c.args.shard records (c.index-places-i.result ∷ []) in
    let here = slice_get_read places _ c.loop-i.i c.index-places-i.result refl c.loop-i-test.true c.index-places-i.is in
    c.in_ok-add_place.ensures ∙ (ap (λ ys. ys ++ one) c.loop-i.invariant
    ∙ (append_assoc old done one ∙ ap (λ ys. old ++ ys) (sym (pairs_one_more c.args.shard records places c.loop-i.i c.index-places-i.result here))))
