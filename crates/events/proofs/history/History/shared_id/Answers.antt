use Rattle.std.proofs.Common.{ℕ, List, ◌≡◌, ◌∙◌, IfOk, true, ap, subst, sym}
use Rattle.std.proofs.lemmas.List.Quantifiers.{position-Some}
use Rattle.std.proofs.lemmas.Option.{get_or_from_slice_get}
use Rattle.std.specs.Cmp.Lexicographic.{bytes_decides}
use Rattle.events.specs.Events.{is_same}
use Rattle.events.proofs.DocumentLemmas.{stands_among}
use Rattle.events.proofs.history.History.shared_id.Goals as goal

pub returns-in-Some-get : goal.returns-in-Some-get
returns-in-Some-get c =
    let ds = c.self.inside.documents.entries in
    let stands = stands_among c.args.doc c.args.id.now c.args.self.now c.self.inside.events.items ds c.requires c.self.view_is c.self.invariant.in_order in
    let e : List ℕ × ℕ = (c.in-Some-get.known.now, c.in-Some-get.field-0-1.now) in
    let first = position-Some (λ (d : List ℕ × ℕ). is_same c.args.id.now d.0) ds c.in-Some.doc e (sym stands ∙ c.in-Some.is) in
    let here = get_or_from_slice_get ds c.in-Some.doc e e (sym c.in-Some-get.ensures) in
    let same : is_same c.args.id.now e.0 ≡ true = ap (λ (d : List ℕ × ℕ). is_same c.args.id.now d.0) (sym here) ∙ first.1 in
    subst (λ d. IfOk c.copy.result (λ shared. shared ≡ d)) (sym ((bytes_decides c.args.id.now e.0).0 same)) c.copy.ensures
