use Rattle.std.proofs.Common.{arith, ◌≡◌, ◌+◌, ◌≤◌, ◌∙◌, ap, length, refl, sym, take}
use Rattle.std.proofs.lemmas.List.{take_all}
use Rattle.std.proofs.lemmas.Option.{slice_get_read}
use Rattle.compose.specs.aids.Counting.{counted_in, counted_places}
use Rattle.compose.proofs.CountedPlaces.{counted_front, counted_next}
use Rattle.compose.proofs.counts.CallNumbers.count_all_places.Goals as goal

pub overflow_add-places : goal.overflow_add-places
overflow_add-places c =
    let ws = c.args.witnesses.now in
    let w = c.index-witnesses-i.result in
    let one = counted_next c.args.self ws c.loop-i.i w (slice_get_read ws _ c.loop-i.i w refl c.loop-i-test.true c.index-witnesses-i.is) in
    let front = counted_front c.args.self ws (c.loop-i.i + 1) in
    let so_far : c.loop-i.places ≡ counted_places c.args.self (take c.loop-i.i ws) = c.loop-i.invariant in
    let own : c.count_places-places.result ≡ counted_in c.args.self w = c.count_places-places.ensures in
    omega (arith, one, front, so_far, own, c.requires)

pub loop-i-preserved : goal.loop-i-preserved
loop-i-preserved c =
    let ws = c.args.witnesses.now in
    let w = c.index-witnesses-i.result in
    let one = counted_next c.args.self ws c.loop-i.i w (slice_get_read ws _ c.loop-i.i w refl c.loop-i-test.true c.index-witnesses-i.is) in
    let so_far : c.loop-i.places ≡ counted_places c.args.self (take c.loop-i.i ws) = c.loop-i.invariant in
    ap (λ n. n + c.count_places-places.result) so_far ∙ (ap (λ n. counted_places c.args.self (take c.loop-i.i ws) + n) c.count_places-places.ensures ∙ sym one)

pub returns : goal.returns
returns c =
    let ws = c.args.witnesses.now in
    let past : length ws ≤ c.loop-i.i = omega (arith, c.loop-i-test.false) in
    let so_far : c.loop-i.places ≡ counted_places c.args.self (take c.loop-i.i ws) = c.loop-i.invariant in
    so_far ∙ ap (counted_places c.args.self) (take_all c.loop-i.i ws past)
