use Rattle.std.proofs.Common.{rules, sym, Ok, Err}
use Rattle.std.proofs.lemmas.List.Sorted.{answers_always}
use Rattle.events.proofs.CallPlaceLemmas.{absent_above, searched}
use Rattle.events.proofs.call_places.rising_place.Goals as goal

pub returns-in-Ok : goal.returns-in-Ok
returns-in-Ok c =
    let by_number = c.in-Ok.ensures.position (λ entry. entry.0) (answers_always _ _ _ (λ f a r g called. search rules)) in
    sym (searched c.args.calls.now c.requires c.args.no (Ok c.in-Ok.at) c.in-Ok.ensures.bound by_number)

pub returns-in-Err : goal.returns-in-Err
returns-in-Err c =
    let by_number = c.in-Err.ensures.position (λ entry. entry.0) (answers_always _ _ _ (λ f a r g called. search rules)) in
    sym (searched c.args.calls.now c.requires c.args.no (Err c.in-Err.field-0) c.in-Err.ensures.bound by_number)

pub returns-then-is_above_all : goal.returns-then-is_above_all
returns-then-is_above_all c = sym (absent_above c.args.calls.now c.args.no (search rules))
