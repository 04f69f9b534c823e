use Rattle.std.proofs.Common.{◌∙◌, ap, subst, sym}
use Rattle.events.specs.Events.{PassesAt, is_call, is_ending, place_of}
use Rattle.events.specs.aids.Fronts.{when_below}
use Rattle.events.proofs.FrontLemmas.{place_of_front}
use Rattle.events.proofs.PrefixLaws.{first_passes}
use Rattle.events.proofs.front.Front.ending_of_call.Goals as goal

pub returns-clause-ending : goal.returns-clause-ending
returns-clause-ending c n passes =
    let front = subst (λ H. PassesAt (is_call n) H c.args.place) (sym c.self.view_is) passes in
    let whole = first_passes c.self.inside.end (is_call n) c.self.inside.history.now c.args.place front in
    c.below.ensures
    ∙ (ap (when_below c.self.inside.end) (c.ending_of_call.ensures.ending n whole.1)
    ∙ (sym (place_of_front (is_ending n) c.self.inside.end c.self.inside.history.now) ∙ ap (place_of (is_ending n)) c.self.view_is))
