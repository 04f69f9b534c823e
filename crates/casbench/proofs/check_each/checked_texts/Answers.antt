use Rattle.std.proofs.Common.{◌≡◌, ◌∙◌, ◌++◌, ◌<◌, ◌+◌, ℕ, [], List, arith, ap, length, map, slice_index_or, subst, sym, take}
use Rattle.casbench.proofs.EachLemmas.{nothing, one_more_written}
use Rattle.casbench.specs.Each.{AnswersEach, Named, named_of}
use Rattle.casbench.specs.aids.Checking.{HasCome}
use Rattle.command_line.specs.declared.form.Form.{Form}
use Rattle.casbench.specs.declared.outcome.Outcome.{Outcome}
use Rattle.casbench.specs.declared.outcome.Outcome.TheVariants.{Answered}
use Rattle.readings.specs.declared.reading.Reading.{Reading}
use Rattle.evidence.specs.declared.ruling_out.RulingOut.{RulingOut}
use Rattle.stream_io.specs.declared.status.Status.TheVariants.{Yes}
use Rattle.casbench.proofs.check_each.checked_texts.Goals as goal

-- the same of an equal outcome and equal lines
same_each : (ruling : RulingOut) (reading : Reading) (least : ℕ) (form : Form) (texts : List Named) {outcome other : Outcome} {lines again : List ℕ} → outcome ≡ other → lines ≡ again
    → AnswersEach ruling reading least form texts outcome lines → AnswersEach ruling reading least form texts other again
same_each ruling reading least form texts {outcome} {other} {lines} {again} one two each =
    subst (λ o. AnswersEach ruling reading least form texts o again) one (subst (λ ls. AnswersEach ruling reading least form texts outcome ls) two each)

pub loop-place-init : goal.loop-place-init
loop-place-init g c =
    let options = c.args.task.options in (
      subst (λ ls. AnswersEach options.ruling_out options.reading c.args.task.at_least c.args.form [] (Answered Yes) ls) (sym c.new-lines.ensures.items)
          (nothing options.ruling_out options.reading c.args.task.at_least c.args.form),
      c.check_all.ensures.all,
      c.check_all.ensures.checked,
    )

pub loop-place-preserved : goal.loop-place-preserved
loop-place-preserved g c =
    let options = c.args.task.options in
    let old = c.args.texts.now in
    let i = c.loop-place.place in
    let text = c.index-texts-place.result in
    let test = c.loop-place-test.true in
    let within : i < length old = omega (arith, test) in
    let checked = c.loop-place.invariant.2 i text within in
    let it = c.in_ok-written.written.now in
    let whole = c.in_ok-written.ensures.written in
    let written =
    subst (λ w. HasCome options.ruling_out options.reading c.args.form options.workers (slice_index_or old i text).name.now (g.S.Read.remaining (slice_index_or old i text).source) w) whole
    checked.come in (
      same_each options.ruling_out options.reading c.args.task.at_least c.args.form (map (named_of g.S.Read.remaining) (take (i + 1) old)) (sym c.worse-outcome.ensures)
          (sym (c.in_ok-extend_from_slice.ensures.items ∙ ap (λ ls. c.loop-place.lines.items ++ ls) c.deref.ensures.value))
          (one_more_written g.S.Read.remaining options.ruling_out options.reading c.args.task.at_least c.args.form old i text it c.outcome_of-next.result within c.loop-place.invariant.0 written
          c.outcome_of-next.ensures.status c.outcome_of-next.ensures.judged),
      c.loop-place.invariant.1,
      c.loop-place.invariant.2,
    )
