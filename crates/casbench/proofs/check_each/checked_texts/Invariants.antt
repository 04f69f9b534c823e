use Rattle.std.proofs.Common.{◌≡◌, length, map, take}
use Rattle.casbench.specs.Each.{AnswersEach, named_of}
use Rattle.casbench.specs.aids.Checking.{AreChecked}
use Rattle.casbench.proofs.check_each.checked_texts.Given as goal

abbrev pub invariant-loop-place : goal.invariant-loop-place
invariant-loop-place g l =
    AnswersEach l.fn.task.options.ruling_out l.fn.task.options.reading l.task.at_least l.fn.form (map (named_of g.S.Read.remaining) (take l.place l.fn.texts)) l.outcome l.lines.items
    × (length l.texts ≡ length l.fn.texts)
    × AreChecked g.S.Read.remaining l.fn.task.options.ruling_out l.fn.task.options.reading l.fn.form l.fn.task.options.workers l.fn.texts l.texts
