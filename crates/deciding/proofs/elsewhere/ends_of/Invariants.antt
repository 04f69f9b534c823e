use Rattle.std.proofs.Common.{◌≡◌, true}
use Rattle.version_pair.specs.declared.pair.Pair.{Pair}
use Rattle.deciding.specs.Elsewhere.{is_kept}
use Rattle.deciding.specs.aids.Ends.{AreAbove, HasEnds}
use Rattle.deciding.proofs.EndLemmas.{IsInFrom, IsLastKept}
use Rattle.deciding.proofs.elsewhere.ends_of.Given as goal

abbrev pub invariant-loop-i : goal.invariant-loop-i
invariant-loop-i l = ((q : Pair) → is_kept l.ends q ≡ true → IsInFrom l.pairs l.i q)
    × ((q : Pair) → IsInFrom l.pairs l.i q → is_kept l.ends q ≡ true) × IsLastKept l.ends l.last × HasEnds l.ends × AreAbove l.ends l.last
