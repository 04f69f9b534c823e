use Rattle.std.proofs.Common.{List}
use Rattle.events.specs.declared.record.Rec.{Rec}
use Rattle.deciding.specs.aids.Candidates.{facts_of}
use Rattle.deciding.specs.aids.Rows.{branch_of}
use Rattle.deciding.proofs.StepLemmas.{all_steps, none_positioned, some_kept}
use Rattle.deciding.proofs.document.Document.steps.Goals as goal

pub returns : goal.returns
returns c d placed moment =
    let one = c.in_ok-push_some_steps.ensures.ok d placed moment in
    let two = c.in_ok-push_some_steps-2.ensures.ok d placed moment in (
      two.0.positioned (one.0.positioned (none_positioned records c.new-rows.result.items c.new-rows.ensures.items)),
      all_steps (facts_of c.args.self.now) records c.args.moment.now.event (branch_of c.args.row.now) c.next_known.result c.free_above.result c.push_some_steps-2.new.rows.items
          (c.next_known.ensures records d.versions.known) (c.free_above.ensures d)
          (some_kept (facts_of c.args.self.now) records c.args.moment.now.event (branch_of c.args.row.now) c.next_known.result c.push_some_steps.new.rows.items c.push_some_steps-2.new.rows.items two.0 one.1) two.1,
    ) where
      records : List Rec
      records = c.args.self.now.records.now
