use Rattle.std.proofs.Common.{◌≡◌, ◌+◌, ◌<◌, ◌-◌, length, arith, rules, map, sym, ap, ◌∙◌, Ok, set, subst}
use Rattle.places.specs.Documents.{doc_places}
use Rattle.witness.specs.declared.witness_line.WitnessLine.TheVariants as line
use Rattle.witness.specs.Text.{items_in, most_items, with_said}
use Rattle.witness.proofs.DocumentsLemmas.{doc_count, items_in-placed, placed_more, placed_same, takes_room}
use Rattle.witness.proofs.documents.Documents.add.Goals as goal

pub invariant_of-self : goal.invariant_of-self
invariant_of-self c =
    let some : 0 < length c.self.inside.documents.items = search rules in
    let size : c.len-last.result ≡ length c.self.inside.documents.items = search rules in
    let more = placed_more c.self.inside.documents.items (c.len-last.result - 1) c.index_mut.result.now _ c.push.new.self c.args.place c.index_mut.ensures.value
    (omega arith) c.in-Ok.ensures.items in
    let count : items_in (map doc_places (set c.self.inside.documents.items (c.len-last.result - 1) (c.index_mut.result.now.0, c.push.new.self)))
    ≡ items_in (map doc_places c.self.inside.documents.items) + 1 =
    ap items_in more ∙ items_in-placed (map doc_places c.self.inside.documents.items) c.args.place (doc_count c.self.inside.documents.items some) in
    (omega (arith, c.self.invariant.0), omega (arith, c.self.invariant.1, c.if-self-eq-MOST_ITEMS.false))

pub returns-in-Ok-clause-ok : goal.returns-in-Ok-clause-ok
returns-in-Ok-clause-ok c =
    let some : 0 < length c.self.inside.documents.items = search rules in
    let size : c.len-last.result ≡ length c.self.inside.documents.items = search rules in
    let more = placed_more c.self.inside.documents.items (c.len-last.result - 1) c.index_mut.result.now _ c.push.new.self c.args.place c.index_mut.ensures.value
    (omega arith) c.in-Ok.ensures.items in
    let seen : c.args.self.now ≡ map doc_places c.self.inside.documents.items = search rules in
    let room : items_in (map doc_places c.self.inside.documents.items) < most_items = omega (arith, c.self.invariant.0, c.self.invariant.1, c.if-self-eq-MOST_ITEMS.false) in
    takes_room c.args.self.now (line.Place c.args.place) (subst (λ ds. items_in ds < most_items) (sym seen) room)
    ∙ ap (λ ds. Ok ds) (ap (λ ds. with_said ds (line.Place c.args.place)) seen ∙ sym more)

pub invariant_of-self-in-Err : goal.invariant_of-self-in-Err
invariant_of-self-in-Err c =
    let some : 0 < length c.self.inside.documents.items = search rules in
    let size : c.len-last.result ≡ length c.self.inside.documents.items = search rules in
    let same = placed_same c.self.inside.documents.items (c.len-last.result - 1) c.index_mut.result.now _ c.push.new.self c.index_mut.ensures.value
    (omega arith) c.in-Err.ensures.items in
    (c.self.invariant.0 ∙ sym (ap items_in same), c.self.invariant.1)

pub returns-in-Err-clause-unchanged : goal.returns-in-Err-clause-unchanged
returns-in-Err-clause-unchanged c =
    let some : 0 < length c.self.inside.documents.items = search rules in
    let size : c.len-last.result ≡ length c.self.inside.documents.items = search rules in
    let seen : c.args.self.now ≡ map doc_places c.self.inside.documents.items = search rules in
    placed_same c.self.inside.documents.items (c.len-last.result - 1) c.index_mut.result.now _ c.push.new.self c.index_mut.ensures.value
    (omega arith) c.in-Err.ensures.items ∙ sym seen
