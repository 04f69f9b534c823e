use Rattle.std.proofs.Common.{◌≡◌, ◌∙◌, ap, arith, sym, true, false}
use Rattle.std.specs.Prelude.{is_some}
use Rattle.std.specs.Map.{lookup}
use Rattle.indexmap.proofs.MapLemmas.{OnOk-map}
use Rattle.events.specs.Events.{is_same, with_document}
use Rattle.events.proofs.DocumentLemmas.{is_known, known_place, position_of_id, with_known}
use Rattle.version_pair.proofs.ListLemmas.{get_within}
use Rattle.events.proofs.ListedLemmas.{listed_at, listed_new}
use Rattle.events.proofs.documents.Documents.note_call.Goals as goal

pub note_known-requires-clause-there : goal.note_known-requires-clause-there
note_known-requires-clause-there c =
    let here = known_place c.args.id.now c.args.self.now.entries c.in-Some.doc (sym c.in-Some.is ∙ c.requires.stands) in
    omega (arith, here.0, c.requires.sizes)

pub note_new-requires-clause-new : goal.note_new-requires-clause-new
note_new-requires-clause-new c = sym (is_known c.args.id.now c.args.self.now.entries c.args.doc c.requires.stands) ∙ ap is_some c.in-None.is

pub returns-in-Some-clause-ok : goal.returns-in-Some-clause-ok
returns-in-Some-clause-ok c =
    let known : is_some (lookup (is_same c.args.id.now) c.args.self.now.entries) ≡ true = sym (is_known c.args.id.now c.args.self.now.entries c.args.doc c.requires.stands) ∙ ap is_some c.in-Some.is in
    let kept : c.note_known.new.self.entries ≡ with_document c.args.self.now.entries c.args.id.now c.args.shard =
    c.note_known.ensures.entries ∙ sym (with_known c.args.self.now.entries c.args.id.now c.args.shard known) in
    OnOk-map c.note_known.result _ _ (λ grown. kept) c.note_known.ensures.listed

pub returns-in-Some-clause-listed : goal.returns-in-Some-clause-listed
returns-in-Some-clause-listed c =
    let here = known_place c.args.id.now c.args.self.now.entries c.in-Some.doc (sym c.in-Some.is ∙ c.requires.stands) in
    let list = get_within c.args.self.now.lists c.in-Some.doc (omega (arith, here.0, c.requires.sizes)) in
    let stands = position_of_id (is_same c.args.id.now) c.args.self.now.entries ∙ (sym c.requires.stands ∙ c.in-Some.is) in
    OnOk-map c.note_known.result _ _
    (λ grown. grown list.0 list.1 ∙ listed_at c.args.self.now.entries c.args.self.now.lists c.args.id.now c.args.place c.in-Some.doc list.0 stands list.1)
    c.note_known.ensures.listed

pub returns-in-None-clause-listed : goal.returns-in-None-clause-listed
returns-in-None-clause-listed c =
    let none : is_some (lookup (is_same c.args.id.now) c.args.self.now.entries) ≡ false = sym (is_known c.args.id.now c.args.self.now.entries c.args.doc c.requires.stands) ∙ ap is_some c.in-None.is in
    let new = listed_new c.args.self.now.entries c.args.self.now.lists c.args.id.now c.args.place c.requires.sizes none in
    OnOk-map c.note_new.result _ _ (λ grown. grown ∙ new) c.note_new.ensures.listed
