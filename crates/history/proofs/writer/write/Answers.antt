use Rattle.std.proofs.Common.{arith, [], ◌∷◌, ◌≡◌, length, subst, sym, rules}
use Rattle.history.specs.aids.Writing.{AreWritten}
use Rattle.history.proofs.TextLaws.{text_is_read}
use Rattle.history.proofs.WrittenText.{all_are_written, has_its_call, is_text, next_written, none_written}
use Rattle.history.proofs.writer.write.Goals as goal

pub loop-place-init : goal.loop-place-init
loop-place-init c = subst (λ t. AreWritten c.args.history.now [] t []) (sym c.new-text.ensures.items) (none_written c.args.history.now [])

pub write_event-requires : goal.write_event-requires
write_event-requires c = has_its_call c.args.history.now c.loop-place.place c.event.result.now c.len-place-end.ensures.history c.event.ensures

pub loop-place-preserved : goal.loop-place-preserved
loop-place-preserved c =
    let line : AreWritten c.args.history.now c.loop-place.text.items c.write_event.new.text.items (c.event.result.now ∷ []) = search rules in
    next_written c.args.history.now c.loop-place.text.items c.write_event.new.text.items c.loop-place.place c.event.result.now c.event.ensures c.loop-place.invariant line

pub returns-clause-text : goal.returns-clause-text
returns-clause-text c =
    let end : c.loop-place.place ≡ length c.args.history.now = omega arith in
    let all = all_are_written c.args.history.now c.loop-place.text.items c.loop-place.place end c.loop-place.invariant in all.added

pub returns-clause-is_text : goal.returns-clause-is_text
returns-clause-is_text c =
    let end : c.loop-place.place ≡ length c.args.history.now = omega arith in
    is_text c.args.history.now c.loop-place.text.items c.len-place-end.ensures.history c.len-place-end.ensures.within
    (all_are_written c.args.history.now c.loop-place.text.items c.loop-place.place end c.loop-place.invariant)

pub returns-clause-reads_back : goal.returns-clause-reads_back
returns-clause-reads_back c =
    let end : c.loop-place.place ≡ length c.args.history.now = omega arith in
    text_is_read c.loop-place.text.items c.args.history.now
    (is_text c.args.history.now c.loop-place.text.items c.len-place-end.ensures.history c.len-place-end.ensures.within
    (all_are_written c.args.history.now c.loop-place.text.items c.loop-place.place end c.loop-place.invariant))
