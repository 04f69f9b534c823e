use Rattle.std.proofs.Common.{◌≡◌, [], ◌∷◌, ◌++◌, ◌∙◌, Some, None, length, rules, ap}
use Rattle.std.specs.Prelude.{slice_set}
use Rattle.events.specs.aids.Indexes.{AreIndexed}
use Rattle.events.proofs.PushLemmas.{indexed_by_ending}
use Rattle.events.proofs.history.History.append_ending.Goals as goal

built : (c : goal.After-push_reserved-2) → AreIndexed c.push_reserved-2.new.self.items c.self.inside.calls c.push_reserved.new.self.items c.self.inside.documents.entries
    c.self.inside.documents.lists c.self.inside.documents.calls
built c =
    let place : c.len-place.result ≡ length c.self.inside.events.items = search rules in
    let grown : c.push_reserved-2.new.self.items ≡ c.self.inside.events.items ++ c.args.event ∷ [] = search rules in
    let set : c.push_reserved.new.self.items ≡ slice_set c.self.inside.endings.items c.args.call (Some c.len-place.result) ++ None ∷ [] = search rules in
    indexed_by_ending c.self.inside.events.items c.args.event c.args.call c.self.inside.calls c.self.inside.endings.items c.self.inside.documents.entries
    c.self.inside.documents.lists c.self.inside.documents.calls c.push_reserved-2.new.self.items c.push_reserved.new.self.items c.self.invariant (search rules) (search rules) grown
    (set ∙ ap (λ k. slice_set c.self.inside.endings.items c.args.call (Some k) ++ None ∷ []) place)

pub invariant_of-self-2 : goal.invariant_of-self-2
invariant_of-self-2 c = built c

pub returns-clause-history : goal.returns-clause-history
returns-clause-history c = (built c).history
