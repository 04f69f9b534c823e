use Rattle.std.proofs.Common.{arith, ◌≡◌, ◌<◌, length, slice_get, Some, sym, subst, refl, add-one}
use Rattle.std.specs.Prelude.{set}
use Rattle.std.proofs.lemmas.Option.{slice_get_read, slice_get_within}
use Rattle.doc_check.specs.aids.Sweep.{IsMet, IsStuck}
use Rattle.doc_check.proofs.SweepLemmas.{IsSwept, stuck_none, swept_all, swept_more}
use Rattle.doc_check.proofs.sweep.sweep.Goals as goal

pub meet-requires-clause-rec : goal.meet-requires-clause-rec
meet-requires-clause-rec c =
    let at : slice_get c.in_ok-moments.moments.items c.loop-i.i ≡ Some c.index-moment.result.now =
    slice_get_read c.in_ok-moments.moments.items (length c.in_ok-moments.moments.items) c.loop-i.i c.index-moment.result.now refl (omega arith) c.index-moment.ensures in
    let moment = c.in_ok-moments.ensures.sound c.loop-i.i c.index-moment.result.now at in
    slice_get_within c.args.records.now c.index-moment.result.now.rec moment.0 moment.2

pub index_mut-requires : goal.index_mut-requires
index_mut-requires c =
    let at : slice_get c.in_ok-moments.moments.items c.loop-i.i ≡ Some c.index-moment.result.now =
    slice_get_read c.in_ok-moments.moments.items (length c.in_ok-moments.moments.items) c.loop-i.i c.index-moment.result.now refl (omega arith) c.index-moment.ensures in
    let moment = c.in_ok-moments.ensures.sound c.loop-i.i c.index-moment.result.now at in
    let within : c.index-moment.result.now.rec < length c.args.records.now = slice_get_within c.args.records.now c.index-moment.result.now.rec moment.0 moment.2 in
    let size : length c.loop-i.given.items ≡ length c.args.records.now = c.loop-i.invariant.size in
    omega arith

pub returns-in-None : goal.returns-in-None
returns-in-None c =
    let at : slice_get c.in_ok-moments.moments.items c.loop-i.i ≡ Some c.index-moment.result.now =
    slice_get_read c.in_ok-moments.moments.items (length c.in_ok-moments.moments.items) c.loop-i.i c.index-moment.result.now refl (omega arith) c.index-moment.ensures in
    let moment = c.in_ok-moments.ensures.sound c.loop-i.i c.index-moment.result.now at in
    stuck_none c.args.records.now c.args.stretches.now.chain.items c.in_ok-moments.moments.items c.loop-i.i c.loop-i.given.items c.loop-i.bound
    c.index-moment.result.now moment.0 c.in_ok-moments.ensures c.loop-i.invariant at moment.2
    (subst (λ given. IsStuck c.args.records.now c.args.stretches.now.chain.items given c.loop-i.bound c.index-moment.result.now moment.0) c.deref.ensures.value
    (c.in-None.ensures.none moment.0 moment.2))

pub loop-i-preserved : goal.loop-i-preserved
loop-i-preserved c =
    let at : slice_get c.in_ok-moments.moments.items c.loop-i.i ≡ Some c.index-moment.result.now =
    slice_get_read c.in_ok-moments.moments.items (length c.in_ok-moments.moments.items) c.loop-i.i c.index-moment.result.now refl (omega arith) c.index-moment.ensures in
    let moment = c.in_ok-moments.ensures.sound c.loop-i.i c.index-moment.result.now at in
    subst (λ k. IsSwept c.args.records.now c.args.stretches.now.chain.items c.in_ok-moments.moments.items k (set c.loop-i.given.items c.index-moment.result.now.rec (Some c.in-Some.stretch)) c.in-Some.lowered)
    (sym (add-one c.loop-i.i))
    (swept_more c.args.records.now c.args.stretches.now.chain.items c.in_ok-moments.moments.items c.loop-i.i c.loop-i.given.items c.loop-i.bound c.in-Some.lowered
    c.in-Some.stretch c.index-moment.result.now moment.0 c.in_ok-moments.ensures c.loop-i.invariant at moment.2
    (subst (λ given. IsMet c.args.records.now c.args.stretches.now.chain.items given c.loop-i.bound c.index-moment.result.now moment.0 c.in-Some.stretch c.in-Some.lowered)
    c.deref.ensures.value (c.in-Some.ensures.some moment.0 moment.2)))

pub returns : goal.returns
returns c =
    swept_all c.args.records.now c.args.stretches.now.chain.items c.in_ok-moments.moments.items c.loop-i.i c.loop-i.given.items c.loop-i.bound (omega arith)
    c.in_ok-moments.ensures c.loop-i.invariant
