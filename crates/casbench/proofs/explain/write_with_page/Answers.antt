use Rattle.std.proofs.Common.{arith, inl, length, subst, sym, take}
use Rattle.std.proofs.lemmas.List.{take_all}
use Rattle.std.specs.Io.KnownBytes.{Appends}
use Rattle.casbench.proofs.explain.write_with_page.Goals as goal

-- the whole text was written before the page failed
pub returns-in_err-keep-in-Ok-clause-cut_off : goal.returns-in_err-keep-in-Ok-clause-cut_off
returns-in_err-keep-in-Ok-clause-cut_off g c = λ _.
    let text = c.args.answer.now.text.items in
    inl (length text, subst (Appends (g.W.Write.contents c.args.writer.now) (g.W.Write.contents c.write_answer.new.writer)) (sym (take_all (length text) text (omega arith))) c.in-Ok.ensures.1)
