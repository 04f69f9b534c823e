use Rattle.std.proofs.Common.{◌≡◌, arith, length, subst}
use Rattle.std.specs.Vec.Iter.{into_iter_items}
use Rattle.std.proofs.lemmas.List.{nil_from_length}
use Rattle.workload.specs.aids.Seats.{IsNew}
use Rattle.workload.proofs.RoundLemmas.{AreNewSoFar, new_after, new_at_end}
use Rattle.workload.proofs.rounds.seat_clients.Goals as goal

pub loop-pen-preserved : goal.loop-pen-preserved
loop-pen-preserved g c =
    let pens = c.args.pens.items in
    let seats = c.loop-pen.seats.items in
    let place : c.len-in-loop-pen.result ≡ length seats = omega (arith, c.len-in-loop-pen.ensures, c.loop-pen.seats.ok.0) in
    rw c.in_ok-push.ensures.items
    (new_after pens seats c.in-Some.pen (into_iter_items c.next.new.self) c.in_ok-new.field-0
    (subst (λ rest. AreNewSoFar pens seats rest) c.in-Some.ensures.steps.0 c.loop-pen.invariant)
    (subst (λ n. IsNew n c.in-Some.pen c.in_ok-new.field-0) place c.in_ok-new.ensures))

pub returns : goal.returns
returns g c =
    let none : length (into_iter_items c.loop-pen.pen-iterator) ≡ 0 = omega (arith, c.in-None.ensures.steps.0, c.loop-pen.pen-iterator.rest.ok.0) in
    new_at_end c.args.pens.items c.loop-pen.seats.items
    (subst (λ rest. AreNewSoFar c.args.pens.items c.loop-pen.seats.items rest) (nil_from_length (into_iter_items c.loop-pen.pen-iterator) none) c.loop-pen.invariant)
