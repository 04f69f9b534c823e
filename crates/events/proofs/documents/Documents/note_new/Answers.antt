use Rattle.std.proofs.Common.{rules, ◌≡◌, ◌∷◌, [], ◌++◌, ◌∙◌, ap, map}
use Rattle.indexmap.specs.IndexMap.{insert_entry}
use Rattle.events.specs.Events.{is_same}
use Rattle.events.specs.aids.Documents.{places_of}
use Rattle.events.proofs.DocumentLemmas.{with_new}
use Rattle.events.proofs.LinkLemmas.{first_call, first_link, linked_new, listed_with_new}
use Rattle.events.proofs.documents.Documents.note_new.Goals as goal

pub invariant_of-self-2 : goal.invariant_of-self-2
invariant_of-self-2 c =
    let ends : c.push_reserved.new.self.items ≡ c.self.inside.ends.items ++ first_call c.self.inside.links.items c.args.place ∷ [] = search rules in
    let links : c.push_reserved-2.new.self.items ≡ c.self.inside.links.items ++ first_link c.self.inside.links.items c.args.place ∷ [] = search rules in
    rw (ends, links) (linked_new c.self.inside.links.items c.self.inside.ends.items c.args.place c.self.invariant)

pub returns-clause-ok : goal.returns-clause-ok
returns-clause-ok c =
    let view : c.self.inside.shards.entries ≡ c.args.self.now.entries = ap (λ d. d.entries) c.self.view_is in
    c.in_ok-insert.ensures.entries
    ∙ (ap (λ d. insert_entry is_same c.self.inside.shards.entries d c.args.shard) c.in_ok-id.ensures
    ∙ (ap (λ es. insert_entry is_same es c.args.id.now c.args.shard) view
    ∙ with_new c.args.self.now.entries c.args.id.now c.args.shard c.requires.new))

pub returns-clause-listed : goal.returns-clause-listed
returns-clause-listed c =
    let ends : c.push_reserved.new.self.items ≡ c.self.inside.ends.items ++ first_call c.self.inside.links.items c.args.place ∷ [] = search rules in
    let links : c.push_reserved-2.new.self.items ≡ c.self.inside.links.items ++ first_link c.self.inside.links.items c.args.place ∷ [] = search rules in
    let view : map (places_of c.self.inside.links.items) c.self.inside.ends.items ≡ c.args.self.now.lists = ap (λ d. d.lists) c.self.view_is in
    rw (ends, links) (listed_with_new c.self.inside.links.items c.self.inside.ends.items c.args.place c.self.invariant)
    ∙ ap (λ ls. ls ++ (c.args.place ∷ []) ∷ []) view
