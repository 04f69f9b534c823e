use Rattle.std.proofs.Common.{rules, ◌≡◌, ◌∙◌, Some, IfErr, ap, length, slice_get, sym, take, vec_len}
use Rattle.std.proofs.lemmas.Iterator.Adapters.{YieldsList-from_vec}
use Rattle.std.proofs.lemmas.Iterator.Consumers.{YieldsList-so_far, YieldsList-turn}
use Rattle.std.proofs.lemmas.List.{map-id}
use Rattle.std.proofs.lemmas.Option.{slice_get-get_or}
use Rattle.events.specs.Refusal.{refusal_of}
use Rattle.events.proofs.PlaceLemmas.{only_memory}
use Rattle.recorder.proofs.RefusalLemmas.{reported_fault}
use Rattle.recorder.proofs.closing.history_of.Goals as goal

pub returns-in_err-push-clause-accepted : goal.returns-in_err-push-clause-accepted
returns-in_err-push-clause-accepted c accepted =
    let all = c.args.events.items in
    let l = c.loop-event in
    let event = c.in-Some.event in
    let given = c.into_iter-event-iterator.ensures.into_iter_gives in
    let size : vec_len c.args.events ≡ length all = search rules in
    let lists = YieldsList-from_vec all given.0 (given.1 ∙ size) in
    let turn = YieldsList-turn lists l.yielded l.event-iterator l.yielded_by c.next.result c.next.new.self event c.in-Some.is c.next.ensures.steps in
    let at : slice_get all (length l.yielded) ≡ Some event = slice_get-get_or all (length l.yielded) event turn.0 ∙ ap (λ e. Some e) (sym turn.1) in
    let so_far : l.history ≡ take (length l.yielded) all = l.invariant ∙ sym (map-id l.yielded) ∙ YieldsList-so_far lists l.yielded l.event-iterator l.yielded_by in
    let fault = c.in_err-push.field-0.0 in
    let memory = only_memory fault (c.in_err-push.ensures.reason ∙ (ap (λ es. refusal_of es event) so_far ∙ accepted (length l.yielded) event at)) in
    let reported : IfErr c.from_residual.result (λ f. f ≡ fault) = search rules in
    reported_fault c.from_residual.result fault _ memory reported
