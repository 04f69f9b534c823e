use Rattle.std.proofs.Common.{refl, ◌≡◌, ◌++◌, ◌∷◌, [], ◌∙◌, ◌+◌, ◌-◌, suc, Some, slice_get, ap, sym, arith, append_assoc}
use Rattle.std.proofs.lemmas.Option.{slice_get_read}
use Rattle.events.specs.aids.Documents.{places_back}
use Rattle.events.proofs.LinkLemmas.{back_one, list_turned, within_ends}
use Rattle.events.proofs.documents.Documents.calls.Goals as goal

pub loop-init : goal.loop-init
loop-init c =
    let links = c.self.inside.links.items in
    let ends = c.self.inside.ends.items in
    let within = within_ends links ends c.args.self.now.lists c.args.doc (ap (λ d. d.lists) c.self.view_is) c.requires in
    let here : slice_get ends c.args.doc ≡ Some c.index.result.now = slice_get_read ends _ c.args.doc c.index.result.now refl within c.index.ensures in
    let whole : c.index.result.now.count ≡ c.index.result.now.count - 0 = omega arith in (
      (c.self.invariant.calls c.args.doc c.index.result.now here).last,
      ap (λ is. is ++ places_back links c.index.result.now.count c.index.result.now.last) (sym c.in_ok-places.ensures.items)
          ∙ ap (λ k. c.in_ok-places.places.items ++ places_back links k c.index.result.now.last) whole,
    )

pub loop-preserved : goal.loop-preserved
loop-preserved c =
    let links = c.self.inside.links.items in
    let n = c.index.result.now.count - (c.loop.counter + 1) in
    let link = c.index-in-loop.result.now in
    let here : slice_get links c.loop.at ≡ Some link = slice_get_read links _ c.loop.at link refl c.loop.invariant.0 c.index-in-loop.ensures in
    let one : c.index.result.now.count - c.loop.counter ≡ suc n = omega (arith, c.loop-test.true) in (
      c.self.invariant.back c.loop.at link here,
      c.loop.invariant.1
          ∙ (ap (λ k. c.loop.places.items ++ places_back links k c.loop.at) one
          ∙ (ap (λ ps. c.loop.places.items ++ ps) (back_one links n c.loop.at link here)
          ∙ (sym (append_assoc c.loop.places.items (link.place ∷ []) (places_back links n link.before))
          ∙ ap (λ is. is ++ places_back links n link.before) (sym c.in_ok-push.ensures.items)))),
    )

pub returns : goal.returns
returns c =
    let links = c.self.inside.links.items in
    let ends = c.self.inside.ends.items in
    let calls = c.index.result.now in
    let view = ap (λ d. d.lists) c.self.view_is in
    let here : slice_get ends c.args.doc ≡ Some calls = slice_get_read ends _ c.args.doc calls refl (within_ends links ends c.args.self.now.lists c.args.doc view c.requires) c.index.ensures in
    let none : calls.count - c.loop.counter ≡ 0 = omega (arith, c.loop-test.false) in
    list_turned links ends c.args.self.now.lists c.args.doc calls c.loop.places.items c.reverse.new.self.items (places_back links (calls.count - c.loop.counter) c.loop.at) view here
    c.loop.invariant.1 (ap (λ n. places_back links n c.loop.at) none) c.reverse.ensures.items
