use Rattle.std.proofs.Common.{◌≡◌, sym, ap, ◌∙◌, true}
use Rattle.std.specs.Prelude.{if◌then◌else◌, Some}
use Rattle.events.specs.Refusal.{when_full}
use Rattle.events.specs.aids.Indexes.{is_answerable}
use Rattle.events.specs.declared.fault.HistFault.TheVariants.{Kind}
use Rattle.events.proofs.OpenCalls.{answer_not_fitting, open_within, refusal_answer, reply_kept_out}
use Rattle.events.proofs.history.History.reply_refusal.Goals as goal

pub returns-in-Err : goal.returns-in-Err
returns-in-Err c = reply_kept_out c.args.self.now c.args.no c.args.reply.now c.in-Err.fault (sym c.in-Err.ensures)

pub is_answerable-requires : goal.is_answerable-requires
is_answerable-requires c = open_within c.args.self.now c.args.no c.in-Ok.call (sym c.in-Ok.ensures)

pub returns-then-is_answerable : goal.returns-then-is_answerable
returns-then-is_answerable c =
    let fits : is_answerable c.args.self.now c.in-Ok.call c.args.reply.now ≡ true = sym c.is_answerable.ensures ∙ c.if-is_answerable.true in
    c.refusal_for_room.ensures
    ∙ sym (refusal_answer c.args.self.now c.args.no c.in-Ok.call c.args.reply.now (sym c.in-Ok.ensures)
    ∙ ap (λ b. if b then when_full c.args.self.now else Some Kind) fits)

pub returns-else-is_answerable : goal.returns-else-is_answerable
returns-else-is_answerable c =
    answer_not_fitting c.args.self.now c.args.no c.in-Ok.call c.args.reply.now (sym c.in-Ok.ensures) (sym c.is_answerable.ensures ∙ c.if-is_answerable.false)
