use Rattle.std.proofs.Common.{rules, ◌≡◌, ◌<◌, ◌≤◌, ℕ, List, length, Some, slice_get, refl, arith}
use Rattle.std.proofs.lemmas.Option.{slice_get_read, slice_get_within}
use Rattle.deciding.specs.aids.Candidates.{facts_of}
use Rattle.deciding.specs.aids.Rows.{branch_of}
use Rattle.deciding.proofs.StepLemmas.{all_tried, kept_on, tried_more}
use Rattle.deciding.proofs.document.Document.push_steps.Goals as goal

pub loop-i-preserved : goal.loop-i-preserved
loop-i-preserved c d placed moment =
    let before = c.loop-i.invariant d placed moment in
    let step = c.in_ok-push_step.ensures.ok d placed moment in (
      kept_on c.args.self.now.records.now c.args.rows.now.items c.loop-i.rows.items c.push_step.new.rows.items before.0 step.0,
      λ k m within at. tried_more (facts_of c.args.self.now) c.args.self.now.records.now c.args.moment.now.event (branch_of c.args.row.now) c.args.pair numbers c.loop-i.i c.index.result.now
          c.loop-i.rows.items c.push_step.new.rows.items here before.1 step.0 step.1 k m (omega (arith, within)) at,
    ) where
      numbers : List ℕ
      numbers = c.in_ok-numbers.numbers.items

      inside : c.loop-i.i < length numbers
      inside = search rules

      here : slice_get numbers c.loop-i.i ≡ Some c.index.result.now
      here = slice_get_read numbers _ c.loop-i.i c.index.result.now refl inside c.index.ensures

pub returns : goal.returns
returns c = record {
  ok = λ d placed moment. (
      let done = c.loop-i.invariant d placed moment in (
        done.0,
        all_tried (facts_of c.args.self.now) c.args.self.now.records.now c.args.moment.now.event (branch_of c.args.row.now) c.args.pair numbers c.loop-i.rows.items
            (c.in_ok-numbers.ensures d placed c.args.moment.now.event moment.open_ones)
            (λ k m at. done.1 k m (let inside : k < length numbers = slice_get_within numbers k m at in omega (arith, inside, past)) at),
      )
      );
} where
  numbers : List ℕ
  numbers = c.in_ok-numbers.numbers.items

  past : length numbers ≤ c.loop-i.i
  past = search rules
