use Rattle.std.proofs.Common.{◌≡◌, ◌∙◌, None, Some, inl, inr, sym, subst}
use Rattle.version_pair.proofs.ListLemmas.{same_some}
use Rattle.events.specs.declared.event.Event.TheVariants.{Lost, Reply}
use Rattle.readings.specs.aids.Judging.{IsReadAs}
use Rattle.readings.proofs.JudgedLemmas.{lost_read_as, reply_read_as}
use Rattle.readings.proofs.judged.read_event.Goals as goal
use Rattle.readings.proofs.judged.read_event.Goals.{then-hides, else-hides}

pub returns-after-hides : goal.returns-after-hides
returns-after-hides c = λ e at.
    let same : Reply c.in-Reply.no c.in-Reply.reply ≡ e = sym c.in-Reply.is ∙ same_some c.event.result.now e (sym c.event.ensures ∙ at) in
    subst (λ x. IsReadAs c.args.reading c.args.voids.now c.args.text.now c.args.place x (record { event = c.if-hides.event; twin = None })) same
    (reply_read_as c.args.reading c.args.voids.now c.args.text.now c.args.place c.in-Reply.no c.in-Reply.reply c.if-hides.event c.ending_number-no.result c.ending_number-no.ensures
    (elim c.if-hides.branch [ then-hides w ↦ inl (sym c.hides.ensures ∙ w.if-hides.true, w.event-is) | else-hides w ↦ inr (sym c.hides.ensures ∙ w.if-hides.false, w.event-is) ]))

pub returns-in-Lost : goal.returns-in-Lost
returns-in-Lost c = λ e at.
    let same : Lost c.in-Lost.no ≡ e = sym c.in-Lost.is ∙ same_some c.event.result.now e (sym c.event.ensures ∙ at) in
    subst (λ x. IsReadAs c.args.reading c.args.voids.now c.args.text.now c.args.place x (record { event = Lost c.ending_number.result; twin = None })) same
    (lost_read_as c.args.reading c.args.voids.now c.args.text.now c.args.place c.in-Lost.no c.ending_number.result c.ending_number.ensures)
