use Rattle.std.proofs.Common.{◌≡◌, ◌⊎◌, length, true}
use Rattle.json.specs.Lex.{between, lex}
use Rattle.json.specs.Word.{ends_word}
use Rattle.api_lines.proofs.scanner.after_all_spaces.Given as goal

abbrev pub invariant-spaces : goal.invariant-spaces
invariant-spaces l = (lex between l.rest ≡ lex between l.bytes) × ((l.rest ≡ l.bytes) ⊎ (ends_word l.bytes ≡ true))

abbrev pub decreases-spaces : goal.decreases-spaces
decreases-spaces l = length l.rest
