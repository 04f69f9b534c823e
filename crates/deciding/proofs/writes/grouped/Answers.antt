use Rattle.std.proofs.Common.{◌<◌, ◌≤◌, length, arith}
use Rattle.std.proofs.lemmas.Option.{slice_get_within}
use Rattle.deciding.proofs.writes.grouped.Goals as goal

pub returns : goal.returns
returns c known = (
  c.loop-i.entries.items,
  c.of.ensures,
  λ i r key at is. (
      let inside : i < length c.args.records.now = slice_get_within c.args.records.now i r at in
      let past : length c.args.records.now ≤ c.loop-i.i = c.loop-i-test.false in
      c.loop-i.invariant known i r key (omega (arith, inside, past)) at is
      ),
)
