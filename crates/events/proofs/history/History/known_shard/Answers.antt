use Rattle.std.proofs.Common.{ℕ, List, ◌∙◌, ap, sym}
use Rattle.std.specs.Prelude.{is_some, option_map}
use Rattle.events.specs.Refusal.{shard_of}
use Rattle.events.proofs.DocumentLemmas.{is_known, known_place, not_there, stands_among}
use Rattle.events.proofs.history.History.known_shard.Goals as goal

pub returns-in-Some-get : goal.returns-in-Some-get
returns-in-Some-get c =
    let stands = stands_among c.args.doc c.args.id.now c.args.self.now c.self.inside.events.items c.self.inside.documents.entries c.requires c.self.view_is c.self.invariant.in_order in
    let here = known_place c.args.id.now c.self.inside.documents.entries c.in-Some.doc (sym c.in-Some.is ∙ stands) in
    ap (option_map (λ (e : List ℕ × ℕ). e.1)) c.in-Some-get.ensures
    ∙ (sym here.1 ∙ (c.self.invariant.shards_found c.args.id.now ∙ ap (λ H. shard_of H c.args.id.now) c.self.view_is))

pub returns-in-None : goal.returns-in-None
returns-in-None c =
    let stands = stands_among c.args.doc c.args.id.now c.args.self.now c.self.inside.events.items c.self.inside.documents.entries c.requires c.self.view_is c.self.invariant.in_order in
    not_there _ (sym (is_known c.args.id.now c.self.inside.documents.entries c.args.doc stands) ∙ ap is_some c.in-None.is)
    ∙ (c.self.invariant.shards_found c.args.id.now ∙ ap (λ H. shard_of H c.args.id.now) c.self.view_is)
