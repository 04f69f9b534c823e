use Rattle.api_lines.proofs.WrittenReplies.{written_known, written_reported}
use Rattle.api_lines.proofs.laws.written_is_heard.Goals as goal

pub returns : goal.returns
returns c = λ d op r fit. (written_known d r, written_reported op d r fit)
