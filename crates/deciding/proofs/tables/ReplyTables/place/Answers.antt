use Rattle.std.proofs.Common.{List, ◌∙◌}
use Rattle.events.specs.declared.record.Rec.{Rec}
use Rattle.deciding.specs.aids.Candidates.{facts_of}
use Rattle.deciding.proofs.TableLemmas.{positions_kept, row_placed, tables_kept_on}
use Rattle.deciding.proofs.tables.ReplyTables.place.Goals as goal

pub returns : goal.returns
returns c = record {
  ok = λ d has placed. (
      let one = c.in_ok-add_served.ensures.ok records has placed in
      let two = c.in_ok-add_waiting.ensures.ok records (positions_kept records c.args.self.now c.add_served.new.self one.0) placed in (
        tables_kept_on records c.args.self.now c.add_served.new.self c.add_waiting.new.self one.0 two.0,
        row_placed (facts_of c.args.document.now) records c.args.number c.args.call c.args.row c.add_served.new.self c.add_waiting.new.self
            c.is_served-has_served.result c.may_come_later-may_come.result
            (c.is_served-has_served.ensures records d.versions.known placed) (c.may_come_later-may_come.ensures records d.versions.known placed) one.1 two.0
            (λ waits. two.1 (c.must_wait.ensures ∙ waits)),
      )
      );
} where
  records : List Rec
  records = c.args.document.now.records.now
