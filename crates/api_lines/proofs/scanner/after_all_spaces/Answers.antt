use Rattle.std.proofs.Common.{◌≡◌, ◌∙◌, ap, inl, inr, sym, true}
use Rattle.json.specs.Lex.{between, lex}
use Rattle.json.specs.Word.{ends_word}
use Rattle.api_lines.proofs.ScanLemmas.{space_ends, space_passed}
use Rattle.api_lines.proofs.scanner.after_all_spaces.Goals as goal

pub spaces-preserved : goal.spaces-preserved
spaces-preserved c =
    let i = c.spaces.invariant in
    let space = c.in-Some.ensures in
    let passed = space_passed space.0 c.in-Some.next.now space.1 in
    let ends : ends_word c.spaces.rest.now ≡ true = ap ends_word space.2 ∙ space_ends space.0 c.in-Some.next.now space.1 in
    (sym passed ∙ (sym (ap (lex between) space.2) ∙ i.0), elim i.1 [ inl start ↦ inr (rw start at ends) | inr before ↦ inr before ])
