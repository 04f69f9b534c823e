use Rattle.std.proofs.Common.{◌≡◌, ◌≤◌, length, take}
use Rattle.std.specs.Prelude.{filter}
use Rattle.report.specs.Verdict.{is_get_reply}
use Rattle.report.proofs.reported.gets_judged.Given as goal

abbrev pub invariant-loop-place : goal.invariant-loop-place
invariant-loop-place l = (l.count ≡ length (filter is_get_reply (take l.place l.text))) × (l.count ≤ l.place)
