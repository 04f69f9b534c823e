use Rattle.std.proofs.Common.{arith, ◌≡◌, ◌+◌, ◌<◌, ◌≤◌, ◌^◌, ◌-◌, ◌∙◌, ap, subst, sym}
use Rattle.compose.specs.Counts.{calls_counted}
use Rattle.compose.specs.Verdicts.{LeavesOut}
use Rattle.compose.specs.aids.Counting.{counted_places}
use Rattle.compose.proofs.CountedPlaces.{counted_within, leaves_out}
use Rattle.compose.proofs.counts.count_left_out.Goals as goal

pub count_all_places-requires : goal.count_all_places-requires
count_all_places-requires c =
    let p = c.args.proof.now in
    let within = counted_within c.args.which p.conflicts p.events p.witnesses c.history.ensures.history c.witnesses.ensures.cover in
    let calls : c.count_calls.result ≡ calls_counted c.args.which p.events = c.count_calls.ensures ∙ ap (calls_counted c.args.which) c.history.ensures.same in
    let places = ap (counted_places c.args.which) c.witnesses.ensures.same in
    let fits : c.count_calls.result < 2 ^ 64 = c.count_calls.type_inv in
    omega (arith, within, calls, places, fits)

pub overflow_sub-result : goal.overflow_sub-result
overflow_sub-result c =
    let p = c.args.proof.now in
    let within = counted_within c.args.which p.conflicts p.events p.witnesses c.history.ensures.history c.witnesses.ensures.cover in
    let calls : c.count_calls.result ≡ calls_counted c.args.which p.events = c.count_calls.ensures ∙ ap (calls_counted c.args.which) c.history.ensures.same in
    let places : c.count_all_places.result ≡ counted_places c.args.which p.witnesses = c.count_all_places.ensures ∙ ap (counted_places c.args.which) c.witnesses.ensures.same in
    omega (arith, within, calls, places)

pub returns : goal.returns
returns c =
    let p = c.args.proof.now in
    let within = counted_within c.args.which p.conflicts p.events p.witnesses c.history.ensures.history c.witnesses.ensures.cover in
    let calls : c.count_calls.result ≡ calls_counted c.args.which p.events = c.count_calls.ensures ∙ ap (calls_counted c.args.which) c.history.ensures.same in
    let places : c.count_all_places.result ≡ counted_places c.args.which p.witnesses = c.count_all_places.ensures ∙ ap (counted_places c.args.which) c.witnesses.ensures.same in
    leaves_out c.args.which p _ c.history.ensures.history c.witnesses.ensures.cover (omega (arith, within, calls, places))
