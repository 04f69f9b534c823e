use Rattle.std.proofs.Common.{rules, ◌≡◌, refl, sym, ◌∙◌, Some, slice_get, ◌⊎◌}
use Rattle.std.proofs.lemmas.Option.{slice_get_read}
use Rattle.places.specs.Places.{GivesAsMay, IsHeardBefore, IsUnansweredGet}
use Rattle.places.proofs.WalkLemmas.{fresh_at, late_is, late_not, pair_fault_is, stuck_along}
use Rattle.places.proofs.walk.next_step.Goals as goal

pub returns-then-not-gives_as_may : goal.returns-then-not-gives_as_may
returns-then-not-gives_as_may c =
    let here : slice_get c.args.places.now c.args.i ≡ Some c.index-places-i.result =
    slice_get_read c.args.places.now _ c.args.i c.index-places-i.result refl c.requires.within c.index-places-i.is in
    let known : IsUnansweredGet c.in-Some.found → ⊥ = search rules in
    let may_not : GivesAsMay c.args.conflicts c.in-Some.found.heard c.index-places-i.result.pair → ⊥ = search rules in
    pair_fault_is c.args.conflicts c.args.records.now c.args.places.now c.args.i c.index-places-i.result c.in-Some.found c.in-Some.found.heard
    c.index-places-i.result.pair c.pair_fault.result refl refl
    (fresh_at c.args.conflicts c.args.records.now c.args.places.now c.args.i c.index-places-i.result c.in-Some.found c.args.walk.now.marks.items
    c.args.walk.now.latest c.args.walk.now.state here c.requires.walked (sym c.named_record.ensures ∙ c.in-Some.is) known c.if-is_marked.ensures)
    may_not c.pair_fault.ensures

pub returns-then-is_late : goal.returns-then-is_late
returns-then-is_late c =
    let here : slice_get c.args.places.now c.args.i ≡ Some c.index-places-i.result =
    slice_get_read c.args.places.now _ c.args.i c.index-places-i.result refl c.requires.within c.index-places-i.is in
    let known : IsUnansweredGet c.in-Some.found → ⊥ = search rules in
    let gives : GivesAsMay c.args.conflicts c.in-Some.found.heard c.index-places-i.result.pair = search rules in
    let late : IsHeardBefore c.in-Some.found.heard c.in-Some.found.call_at ⊎ IsHeardBefore c.in-Some.found.heard c.args.walk.now.latest = search rules in (
      c.index-places-i.result,
      c.in-Some.found,
      fresh_at c.args.conflicts c.args.records.now c.args.places.now c.args.i c.index-places-i.result c.in-Some.found c.args.walk.now.marks.items
          c.args.walk.now.latest c.args.walk.now.state here c.requires.walked (sym c.named_record.ensures ∙ c.in-Some.is) known c.if-is_marked.ensures,
      gives,
      late_is c.args.conflicts c.args.records.now c.args.places.now c.args.i c.args.walk.now.marks.items c.args.walk.now.latest c.args.walk.now.state
          c.in-Some.found c.requires.walked late,
    )

pub returns-in-Some-step_at : goal.returns-in-Some-step_at
returns-in-Some-step_at c =
    let here : slice_get c.args.places.now c.args.i ≡ Some c.index-places-i.result =
    slice_get_read c.args.places.now _ c.args.i c.index-places-i.result refl c.requires.within c.index-places-i.is in
    let known : IsUnansweredGet c.in-Some.found → ⊥ = search rules in
    let gives : GivesAsMay c.args.conflicts c.in-Some.found.heard c.index-places-i.result.pair = search rules in
    let in_time : (IsHeardBefore c.in-Some.found.heard c.in-Some.found.call_at ⊎ IsHeardBefore c.in-Some.found.heard c.args.walk.now.latest) → ⊥ = search rules in
    record {
      place = c.index-places-i.result;
      fresh = fresh_at c.args.conflicts c.args.records.now c.args.places.now c.args.i c.index-places-i.result c.in-Some.found c.args.walk.now.marks.items
          c.args.walk.now.latest c.args.walk.now.state here c.requires.walked (sym c.named_record.ensures ∙ c.in-Some.is) known c.if-is_marked.ensures;
      gives = gives;
      in_time = late_not c.args.conflicts c.args.records.now c.args.places.now c.args.i c.args.walk.now.marks.items c.args.walk.now.latest
          c.args.walk.now.state c.in-Some.found c.requires.walked in_time;
      steps = c.in-Some-step_at.ensures.some;
    }

pub returns-in-None : goal.returns-in-None
returns-in-None c =
    let here : slice_get c.args.places.now c.args.i ≡ Some c.index-places-i.result =
    slice_get_read c.args.places.now _ c.args.i c.index-places-i.result refl c.requires.within c.index-places-i.is in
    let known : IsUnansweredGet c.in-Some.found → ⊥ = search rules in
    let gives : GivesAsMay c.args.conflicts c.in-Some.found.heard c.index-places-i.result.pair = search rules in
    let in_time : (IsHeardBefore c.in-Some.found.heard c.in-Some.found.call_at ⊎ IsHeardBefore c.in-Some.found.heard c.args.walk.now.latest) → ⊥ = search rules in (
      c.index-places-i.result,
      c.in-Some.found,
      fresh_at c.args.conflicts c.args.records.now c.args.places.now c.args.i c.index-places-i.result c.in-Some.found c.args.walk.now.marks.items
          c.args.walk.now.latest c.args.walk.now.state here c.requires.walked (sym c.named_record.ensures ∙ c.in-Some.is) known c.if-is_marked.ensures,
      gives,
      late_not c.args.conflicts c.args.records.now c.args.places.now c.args.i c.args.walk.now.marks.items c.args.walk.now.latest
          c.args.walk.now.state c.in-Some.found c.requires.walked in_time,
      stuck_along c.args.records.now _ c.args.walk.now.state c.in-Some.found c.index-places-i.result.pair c.requires.walked.run c.in-None.ensures.none,
    )
