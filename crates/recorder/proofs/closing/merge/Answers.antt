use Rattle.std.proofs.Common.{rules, ◌++◌, ◌≤◌, length, subst, sym, All}
use Rattle.std.specs.List.{enumerate_from}
use Rattle.std.specs.List.Sorted.{IsPermutation}
use Rattle.std.proofs.lemmas.List.Elements.{All-push}
use Rattle.events.specs.Events.{HasShard}
use Rattle.recorder.specs.Recordings.{entries_of}
use Rattle.recorder.proofs.DenseLemmas.{left_after_one, none_left, none_past_most}
use Rattle.recorder.proofs.MergeLemmas.{all_met, merged_one_more}
use Rattle.recorder.proofs.closing.merge.Goals as goal

pub returns-in_default-clause-recording : goal.returns-in_default-clause-recording
returns-in_default-clause-recording c =
    let l = c.loop-number in
    all_met c.args.strands.items (entries_of l.strands.items) l.events.items l.invariant.met
    (none_left l.strands.items l.number (length (entries_of c.args.strands.items)) l.invariant.rising l.invariant.left (search rules))

pub loop-number-preserved : goal.loop-number-preserved
loop-number-preserved c =
    let l = c.loop-number in
    let count = l.invariant.count in
    let taken = c.in-Some.ensures.some in
    let grown = c.in_ok-push.ensures.items in
    record {
      met = subst (λ es. IsPermutation (entries_of c.args.strands.items) (enumerate_from 0 es ++ entries_of c.take_numbered.new.strands.items)) (sym grown)
          (merged_one_more (entries_of c.args.strands.items) (entries_of l.strands.items) (entries_of c.take_numbered.new.strands.items) l.events.items l.number c.in-Some.event
          count l.invariant.met taken);
      count = search rules;
      left = left_after_one l.strands.items c.take_numbered.new.strands.items l.number (length (entries_of c.args.strands.items)) c.in-Some.event taken l.invariant.left;
      rising = c.in-Some.ensures.rising l.invariant.rising;
      shards = subst (All HasShard) (sym grown) (All-push HasShard l.events.items c.in-Some.event l.invariant.shards c.in-Some.ensures.shard);
    }

pub returns-clause-recording : goal.returns-clause-recording
returns-clause-recording c =
    let l = c.loop-number in
    let up : length (entries_of c.args.strands.items) ≤ l.number = search rules in
    all_met c.args.strands.items (entries_of l.strands.items) l.events.items l.invariant.met
    (none_past_most l.strands.items l.number (length (entries_of c.args.strands.items)) l.invariant.left up)
