use Rattle.std.proofs.Common.{◌≡◌, ◌+◌, arith, map, ap, ◌∙◌}
use Rattle.places.specs.Documents.{doc_places}
use Rattle.witness.specs.Text.{items_in}
use Rattle.witness.proofs.DocumentsLemmas.{begun_more, items_in-begun}
use Rattle.witness.proofs.documents.Documents.begin.Goals as goal

pub invariant_of-self : goal.invariant_of-self
invariant_of-self c =
    let more : map doc_places c.push.new.self.items ≡ _ = ap (map doc_places) c.in-Ok.ensures.items ∙ begun_more c.self.inside.documents.items _ c.new-places.result c.new-places.ensures.items in
    let count : items_in (map doc_places c.push.new.self.items) ≡ items_in (map doc_places c.self.inside.documents.items) + 1 = ap items_in more ∙ items_in-begun _ _ in
    (omega (arith, c.self.invariant.0), omega (arith, c.self.invariant.1, c.if-self-eq-MOST_ITEMS.false))
