use Rattle.std.proofs.Common.{◌∙◌, ◌≡◌, ◌==◌, ap, sym, rules, Some, None}
use Rattle.std.specs.Map.{lookup}
use Rattle.events.proofs.CallPlaceLemmas.{found_behind, found_in_front, lookup_in_order}
use Rattle.events.proofs.call_places.CallPlaces.get.Goals as goal

pub returns-in-Some : goal.returns-in-Some
returns-in-Some c =
    let rising : lookup (◌==◌ c.args.no) c.self.inside.rising.items ≡ Some c.in-Some.place = search rules in
    sym (ap (lookup (◌==◌ c.args.no)) (search rules) ∙ found_in_front (◌==◌ c.args.no) c.self.inside.rising.items c.self.inside.others.entries c.in-Some.place rising)

pub returns-in-None : goal.returns-in-None
returns-in-None c =
    let rising : lookup (◌==◌ c.args.no) c.self.inside.rising.items ≡ None = search rules in
    c.copied.ensures ∙ (c.get.ensures.value ∙ (lookup_in_order c.args.no c.self.inside.others.entries
    ∙ sym (ap (lookup (◌==◌ c.args.no)) (search rules) ∙ found_behind (◌==◌ c.args.no) c.self.inside.rising.items c.self.inside.others.entries rising)))
