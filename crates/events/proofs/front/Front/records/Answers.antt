use Rattle.std.proofs.Common.{arith, refl, rules, ◌<◌, ◌≡◌, ◌++◌, ◌∙◌, ap, length, sym, take}
use Rattle.std.specs.Option.{option_to_list}
use Rattle.std.specs.Prelude.{slice_get}
use Rattle.std.proofs.lemmas.Option.{slice_get_read}
use Rattle.events.specs.Events.{documents_of}
use Rattle.events.proofs.RecordLemmas.{listed_within, records_at_places, records_done, records_listed, records_none, records_one_more}
use Rattle.events.proofs.front.Front.records.Goals as goal

pub loop-k-init : goal.loop-k-init
loop-k-init c = c.in_ok-records.ensures.items ∙ records_none c.args.self.now c.in_ok-places.places.items

pub record_at-requires : goal.record_at-requires
record_at-requires c =
    let below : c.loop-k.k < length c.in_ok-places.places.items = search (rules, c.loop-k-test.true) in
    listed_within c.args.self.now (slice_get (documents_of c.args.self.now) c.args.doc) c.in_ok-places.places.items c.loop-k.k _
    c.in_ok-places.ensures
    (slice_get_read c.in_ok-places.places.items _ c.loop-k.k c.index.result.now refl below c.index.ensures)

pub loop-k-preserved : goal.loop-k-preserved
loop-k-preserved c =
    let below : c.loop-k.k < length c.in_ok-places.places.items = search (rules, c.loop-k-test.true) in
    c.in_ok-push_some.ensures.ok
    ∙ (ap (λ rs. rs ++ option_to_list c.record_at.result) c.loop-k.invariant
    ∙ (ap (λ r. records_at_places c.args.self.now (take c.loop-k.k c.in_ok-places.places.items) ++ option_to_list r) c.record_at.ensures
    ∙ sym (records_one_more c.args.self.now c.in_ok-places.places.items c.loop-k.k _
    (slice_get_read c.in_ok-places.places.items _ c.loop-k.k c.index.result.now refl below c.index.ensures))))

pub returns : goal.returns
returns c =
    let end : c.loop-k.k ≡ length c.in_ok-places.places.items = omega (arith, c.loop-k-test.false, c.loop-k.auto.k-end) in
    records_listed c.args.self.now (slice_get (documents_of c.args.self.now) c.args.doc) c.in_ok-places.places.items c.loop-k.records.items
    c.in_ok-places.ensures
    (c.loop-k.invariant ∙ records_done c.args.self.now c.in_ok-places.places.items c.loop-k.k end)
