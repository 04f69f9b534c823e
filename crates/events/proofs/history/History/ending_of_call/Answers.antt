use Rattle.std.proofs.Common.{rules, ◌≡◌, ◌<◌, length, IfSome, Some, slice_get, sym, subst, ap, ◌∙◌, refl}
use Rattle.std.proofs.lemmas.Option.{slice_get_read}
use Rattle.events.specs.Events.{PassesAt, is_call, is_ending, place_of}
use Rattle.events.proofs.OpenCalls.{found_within, same_found}
use Rattle.events.proofs.history.History.ending_of_call.Goals as goal

pub returns-clause-ending : goal.returns-clause-ending
returns-clause-ending c n passes =
    let within : c.args.place < length c.self.inside.endings.items = search rules in
    let at : slice_get c.self.inside.endings.items c.args.place ≡ Some c.index.result.now =
    slice_get_read c.self.inside.endings.items _ c.args.place c.index.result.now refl within c.index.ensures in
    let kept : PassesAt (is_call n) c.self.inside.events.items c.args.place = subst (λ H. PassesAt (is_call n) H c.args.place) (sym c.self.view_is) passes in
    c.wide.ensures ∙ same_found c.self.inside.endings.items c.args.place c.index.result.now (place_of (is_ending n) c.self.inside.events.items) at
    (c.self.invariant.endings_found c.args.place n kept)
    ∙ ap (place_of (is_ending n)) c.self.view_is

pub returns-clause-within : goal.returns-clause-within
returns-clause-within c =
    let within : c.args.place < length c.self.inside.endings.items = search rules in
    let at : slice_get c.self.inside.endings.items c.args.place ≡ Some c.index.result.now =
    slice_get_read c.self.inside.endings.items _ c.args.place c.index.result.now refl within c.index.ensures in
    rw c.wide.ensures (subst (λ H. IfSome c.index.result.now (λ j. j < length H)) c.self.view_is
    (found_within c.self.inside.endings.items c.args.place (length c.self.inside.events.items) c.index.result.now at (c.self.invariant.endings_within c.args.place)))
