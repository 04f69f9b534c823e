use Rattle.std.proofs.Common.{arith, ◌≡◌, ◌+◌, ◌∙◌, ap, length, map, refl, sym, take, ◌≤◌}
use Rattle.std.proofs.lemmas.List.{take_all}
use Rattle.std.proofs.lemmas.Option.{slice_get_read}
use Rattle.places.specs.Documents.{witness_places}
use Rattle.compose.specs.Laws.{places_in}
use Rattle.compose.proofs.FoundLemmas.{places_of_front, places_one_more}
use Rattle.compose.proofs.counts.count_places.Goals as goal

pub overflow_add-places : goal.overflow_add-places
overflow_add-places c =
    let ws = c.args.witnesses.now in
    let w = c.index-witnesses-i.result in
    let one = places_one_more ws c.loop-i.i w (slice_get_read ws _ c.loop-i.i w refl c.loop-i-test.true c.index-witnesses-i.is) in
    let front = places_of_front ws (c.loop-i.i + 1) in
    let so_far : c.loop-i.places ≡ places_in (map witness_places (take c.loop-i.i ws)) = c.loop-i.invariant in
    let size : length c.places.result.now ≡ length w.places = ap length c.places.ensures.same in
    omega (arith, one, front, so_far, size, c.requires)

pub loop-i-preserved : goal.loop-i-preserved
loop-i-preserved c =
    let ws = c.args.witnesses.now in
    let w = c.index-witnesses-i.result in
    let one = places_one_more ws c.loop-i.i w (slice_get_read ws _ c.loop-i.i w refl c.loop-i-test.true c.index-witnesses-i.is) in
    let so_far : c.loop-i.places ≡ places_in (map witness_places (take c.loop-i.i ws)) = c.loop-i.invariant in
    ap (λ n. n + length c.places.result.now) so_far ∙ (ap (λ ps. places_in (map witness_places (take c.loop-i.i ws)) + length ps) c.places.ensures.same ∙ sym one)

pub returns : goal.returns
returns c =
    let ws = c.args.witnesses.now in
    let past : length ws ≤ c.loop-i.i = omega (arith, c.loop-i-test.false) in
    let so_far : c.loop-i.places ≡ places_in (map witness_places (take c.loop-i.i ws)) = c.loop-i.invariant in
    so_far ∙ ap (λ vs. places_in (map witness_places vs)) (take_all c.loop-i.i ws past)
