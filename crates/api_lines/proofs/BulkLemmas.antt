-- How far the body of a bulk request is read.
use Rattle.std.proofs.Common.{ℕ, suc, ◌≡◌, ◌≤◌, ◌+◌, List, length}
use Rattle.api_lines.specs.Bulk.{SoFar, bulk_body, taken_lines}
use Rattle.api_lines.specs.Lines.{lines_of}

-- the lines up to the rest are taken, and the next one has the number n
pub record IsTakenUpTo (body rest : List ℕ) (n : ℕ) (done : SoFar) : Type 0 where
  pub same : bulk_body body ≡ taken_lines n done (lines_of rest)
  pub count : n + length rest ≤ suc (length body)
