-- What is read and taken of the lines of a text, if it is refused.
use Rattle.std.proofs.Common.{ℕ, ◌≡◌, ◌≤◌, List, Option, None, Some, Result, Ok, Err, ap, subst}
use Rattle.std.specs.Prelude.{IfErr, IfSome, MatchResult}
use Rattle.api_lines.specs.Lines.{lines_of}
use Rattle.api_lines.specs.Sources.{IsTakenFor}
use Rattle.api_lines.specs.Texts.{SoFar, read_lines, so_far}
use Rattle.api_lines.specs.declared.text_fault.TextFault.{TextFault}
use Rattle.history.specs.ByRules.{TextState, history_text_by, read_of, start_by, takes_value_by}
use Rattle.history.specs.declared.text_rules.TextRules.{TextRules}

-- as much is taken as for the text, if its lines are read from the start
pub taken_from : (rules : TextRules) (first : SoFar TextState) (old new : Option (List ℕ)) → first ≡ so_far (start_by rules) 0
    → IsTakenFor (λ text. read_lines takes_value_by 1 first.state (lines_of text)) old new → IsTakenFor (history_text_by rules) old new
taken_from rules first old new same is = taken old new (subst (λ s. IsTakenFor (λ text. read_lines takes_value_by 1 s.state (lines_of text)) old new) same is) where
  fault : (n : ℕ) (r : Result TextState TextFault) → IfErr r (λ f. n ≤ f.line) → IfErr (read_of r) (λ f. n ≤ f.line)
  fault n (Ok s) it = tt
  fault n (Err f) it = it

  taken : (old new : Option (List ℕ)) → IsTakenFor (λ text. read_lines takes_value_by 1 (start_by rules) (lines_of text)) old new → IsTakenFor (history_text_by rules) old new
  taken None new it = tt
  taken (Some text) None it = it
  taken (Some text) (Some rest) it = (it.0, it.1, fault it.0 (read_lines takes_value_by 1 (start_by rules) (lines_of text)) it.2)

-- the text is refused with the fault of its lines
pub refused_from : {A E : Type 0} (err : E → TextFault) (rules : TextRules) (first : SoFar TextState) (input : Option (List ℕ)) (after : TextState) (reported : Result A E) (refused : E)
    → first ≡ so_far (start_by rules) 0 → reported ≡ Err refused
    → IfSome input (λ text. MatchResult reported (λ _. read_lines takes_value_by 1 first.state (lines_of text) ≡ Ok after)
    (λ e. read_lines takes_value_by 1 first.state (lines_of text) ≡ Err (err e)))
    → IfSome input (λ text. history_text_by rules text ≡ Err (err refused))
refused_from err rules first None after reported refused same is by = tt
refused_from err rules first (Some text) after reported refused same is by =
    let own = subst (λ r. MatchResult r (λ _. read_lines takes_value_by 1 first.state (lines_of text) ≡ Ok after) (λ e. read_lines takes_value_by 1 first.state (lines_of text) ≡ Err (err e))) is by in
    ap read_of (subst (λ s. read_lines takes_value_by 1 s.state (lines_of text) ≡ Err (err refused)) same own)
