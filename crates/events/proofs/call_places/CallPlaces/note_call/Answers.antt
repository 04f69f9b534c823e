use Rattle.std.proofs.Common.{◌≡◌, ◌==◌, ◌++◌, ◌∷◌, [], None, rules, subst}
use Rattle.std.specs.Map.{lookup}
use Rattle.events.specs.aids.CallPlaces.{AreFoundAlike}
use Rattle.events.specs.aids.Indexes.{IsNotedAt}
use Rattle.events.proofs.CallPlaceLemmas.{noted_among, noted_last, taken_out}
use Rattle.events.proofs.call_places.CallPlaces.note_call.Goals as goal

pub returns-then-is_above_all-clause-noted : goal.returns-then-is_above_all-clause-noted
returns-then-is_above_all-clause-noted c =
    let view : c.args.self.now ≡ c.self.inside.rising.items ++ c.self.inside.others.entries = search rules in
    let pushed : c.push_reserved.new.self.items ≡ c.self.inside.rising.items ++ (c.args.no, c.args.place) ∷ [] = search rules in
    let fresh : lookup (◌==◌ c.args.no) (c.self.inside.rising.items ++ c.self.inside.others.entries) ≡ None = subst (λ es. lookup (◌==◌ c.args.no) es ≡ None) view c.requires.fresh in
    let noted = noted_last c.args.no c.args.place c.self.inside.rising.items c.self.inside.others.entries fresh in
    rw (pushed, view) noted

pub returns-then-is_err-clause-kept : goal.returns-then-is_err-clause-kept
returns-then-is_err-clause-kept c =
    let view : c.args.self.now ≡ c.self.inside.rising.items ++ c.self.inside.others.entries = search rules in
    let fresh : lookup (◌==◌ c.args.no) (c.self.inside.rising.items ++ c.self.inside.others.entries) ≡ None = subst (λ es. lookup (◌==◌ c.args.no) es ≡ None) view c.requires.fresh in
    let kept : AreFoundAlike c.args.self.now (c.self.inside.rising.items ++ c.remove.new.self.entries) =
    rw view (taken_out c.args.no c.args.place c.self.inside.rising.items c.self.inside.others.entries c.insert.new.self.entries c.remove.new.self.entries fresh
    c.in_ok-insert.ensures.updates.0 c.remove.ensures.updates.0) in
    search (rules, kept)

pub returns-else-is_err-clause-noted : goal.returns-else-is_err-clause-noted
returns-else-is_err-clause-noted c =
    let view : c.args.self.now ≡ c.self.inside.rising.items ++ c.self.inside.others.entries = search rules in
    let fresh : lookup (◌==◌ c.args.no) (c.self.inside.rising.items ++ c.self.inside.others.entries) ≡ None = subst (λ es. lookup (◌==◌ c.args.no) es ≡ None) view c.requires.fresh in
    let noted : IsNotedAt c.args.no c.args.place c.args.self.now (c.self.inside.rising.items ++ c.insert.new.self.entries) =
    rw view (noted_among c.args.no c.args.place c.self.inside.rising.items c.self.inside.others.entries c.insert.new.self.entries fresh c.in_ok-insert.ensures.updates.0) in
    search (rules, noted)
