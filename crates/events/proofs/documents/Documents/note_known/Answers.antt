use Rattle.std.proofs.Common.{rules, refl, ◌≡◌, ◌≤◌, ◌++◌, ◌∷◌, [], ◌∙◌, Some, length, map, slice_get, ap, arith}
use Rattle.std.specs.Prelude.{set}
use Rattle.std.proofs.lemmas.Option.{slice_get_read}
use Rattle.events.specs.aids.Documents.{places_of}
use Rattle.events.proofs.LinkLemmas.{linked_more, link_to, listed_more, within_ends}
use Rattle.events.proofs.documents.Documents.note_known.Goals as goal

pub overflow_add-count : goal.overflow_add-count
overflow_add-count c =
    let within = within_ends c.self.inside.links.items c.self.inside.ends.items c.args.self.now.lists c.args.doc (ap (λ d. d.lists) c.self.view_is) c.requires.there in
    let here : slice_get c.self.inside.ends.items c.args.doc ≡ Some c.index.result.now = slice_get_read c.self.inside.ends.items _ c.args.doc c.index.result.now refl within c.index.ensures in
    let few : c.index.result.now.count ≤ length c.self.inside.links.items = (c.self.invariant.calls c.args.doc c.index.result.now here).count in
    let all : length c.self.inside.links.items ≡ c.args.self.now.calls = ap (λ d. d.calls) c.self.view_is in
    record { fits = omega (arith, few, all, c.requires.few) }

pub invariant_of-self-2 : goal.invariant_of-self-2
invariant_of-self-2 c =
    let within = within_ends c.self.inside.links.items c.self.inside.ends.items c.args.self.now.lists c.args.doc (ap (λ d. d.lists) c.self.view_is) c.requires.there in
    let here : slice_get c.self.inside.ends.items c.args.doc ≡ Some c.index.result.now = slice_get_read c.self.inside.ends.items _ c.args.doc c.index.result.now refl within c.index.ensures in
    let links : c.push_reserved.new.self.items ≡ c.self.inside.links.items ++ link_to c.args.place c.index.result.now ∷ [] = search rules in
    let last : c.len.result ≡ length c.self.inside.links.items = search rules in
    rw (links, last) (linked_more c.self.inside.links.items c.self.inside.ends.items c.args.doc c.args.place c.index.result.now c.self.invariant here)

pub returns-clause-listed : goal.returns-clause-listed
returns-clause-listed c places at =
    let view : map (places_of c.self.inside.links.items) c.self.inside.ends.items ≡ c.args.self.now.lists = ap (λ d. d.lists) c.self.view_is in
    let within = within_ends c.self.inside.links.items c.self.inside.ends.items c.args.self.now.lists c.args.doc (ap (λ d. d.lists) c.self.view_is) c.requires.there in
    let here : slice_get c.self.inside.ends.items c.args.doc ≡ Some c.index.result.now = slice_get_read c.self.inside.ends.items _ c.args.doc c.index.result.now refl within c.index.ensures in
    let links : c.push_reserved.new.self.items ≡ c.self.inside.links.items ++ link_to c.args.place c.index.result.now ∷ [] = search rules in
    let last : c.len.result ≡ length c.self.inside.links.items = search rules in
    rw (links, last) (listed_more c.self.inside.links.items c.self.inside.ends.items c.args.doc c.args.place c.index.result.now places c.self.invariant here
    (ap (λ ls. slice_get ls c.args.doc) view ∙ at)
    ∙ ap (λ ls. set ls c.args.doc (places ++ c.args.place ∷ [])) view)
