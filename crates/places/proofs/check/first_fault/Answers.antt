use Rattle.std.proofs.Common.{arith, ◌≡◌, length, add-one, sym, subst, refl, take}
use Rattle.std.proofs.lemmas.Option.{slice_get_read}
use Rattle.places.specs.aids.Walks.{AllNamedBelow, IsAbsent, IsWalked}
use Rattle.places.proofs.WalkLemmas.{all_valid, one_absent, walked_all, walked_next, within_marks}
use Rattle.places.proofs.check.first_fault.Goals as goal

pub loop-i-init : goal.loop-i-init
loop-i-init c = c.requires c.args.conflicts

pub advance-requires : goal.advance-requires
advance-requires c =
    within_marks c.args.conflicts c.args.records.now c.args.places.now c.loop-i.i c.loop-i.walk.marks.items c.loop-i.walk.latest c.index-places-i.result
    c.in-Ok.found c.loop-i.walk.state c.in-Ok.state c.loop-i.invariant c.in-Ok.ensures
    (slice_get_read c.args.places.now _ c.loop-i.i c.index-places-i.result refl (omega arith) c.index-places-i.is)

pub loop-i-preserved : goal.loop-i-preserved
loop-i-preserved c =
    subst (λ k. IsWalked c.args.conflicts c.args.records.now (take k c.args.places.now) c.advance.new.self.marks.items c.advance.new.self.latest c.advance.new.self.state)
    (sym (add-one c.loop-i.i))
    (walked_next c.args.conflicts c.args.records.now c.args.places.now c.loop-i.i c.loop-i.walk.marks.items c.advance.new.self.marks.items
    c.loop-i.walk.latest c.advance.new.self.latest c.index-places-i.result c.in-Ok.found c.loop-i.walk.state c.in-Ok.state c.advance.new.self.state
    c.loop-i.invariant c.in-Ok.ensures
    (slice_get_read c.args.places.now _ c.loop-i.i c.index-places-i.result refl (omega arith) c.index-places-i.is)
    c.advance.ensures.marks c.advance.ensures.state c.advance.ensures.latest)

pub returns-in-Some-clause-some : goal.returns-in-Some-clause-some
returns-in-Some-clause-some c =
    let end : c.loop-i.i ≡ length c.args.places.now = omega arith in
    let missing : IsAbsent c.args.records.now c.loop-i.walk.marks.items c.in-Some.k × AllNamedBelow c.args.records.now c.loop-i.walk.marks.items c.in-Some.k =
    subst (λ marks. IsAbsent c.args.records.now marks c.in-Some.k × AllNamedBelow c.args.records.now marks c.in-Some.k) c.deref.ensures.value c.in-Some.ensures.some in
    one_absent c.args.conflicts c.args.records.now c.args.places.now c.loop-i.walk.marks.items c.loop-i.walk.latest c.loop-i.walk.state c.in-Some.k
    (walked_all c.args.conflicts c.args.records.now c.args.places.now c.loop-i.i c.loop-i.walk.marks.items c.loop-i.walk.latest c.loop-i.walk.state end
    c.loop-i.invariant)
    missing.0 missing.1

pub returns-clause-none : goal.returns-clause-none
returns-clause-none c =
    let end : c.loop-i.i ≡ length c.args.places.now = omega arith in
    all_valid c.args.conflicts c.args.records.now c.args.places.now c.loop-i.walk.marks.items c.loop-i.walk.latest c.loop-i.walk.state
    (walked_all c.args.conflicts c.args.records.now c.args.places.now c.loop-i.i c.loop-i.walk.marks.items c.loop-i.walk.latest c.loop-i.walk.state end
    c.loop-i.invariant)
    (subst (λ marks. AllNamedBelow c.args.records.now marks (length c.args.records.now)) c.deref.ensures.value c.in-None.ensures.none)
