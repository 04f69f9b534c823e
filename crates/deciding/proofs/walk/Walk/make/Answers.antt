use Rattle.std.proofs.Common.{List, ◌++◌, ◌∷◌, [], ℕ, subst, sym, ap, ◌∙◌}
use Rattle.events.specs.declared.record.Rec.{Rec}
use Rattle.deciding.specs.aids.Candidates.{facts_of, AreOpen}
use Rattle.deciding.specs.aids.Moments.{HasMade}
use Rattle.deciding.specs.aids.TablesOf.{table_of}
use Rattle.deciding.proofs.EventLemmas.{behind_call, made_at_call, open_pushed, open_stays}
use Rattle.deciding.proofs.walk.Walk.make.Goals as goal

pub returns-in_ok-push : goal.returns-in_ok-push
returns-in_ok-push c = record {
  ok = λ d event at called w. (
      let next = c.in_ok-move_front.ensures.rows records d.versions.known w.positioned in
      let kept = c.in_ok-move_front.ensures.kept in
      record {
        table = (
          table_of c.args.self.now.front.items,
          w.table,
          behind_call (facts_of c.args.document.now) records event c.args.number c.args.call (table_of c.args.self.now.front.items) (table_of c.move_front.new.self.front.items) d.order at called next.1,
        );
        positioned = next.0;
        open_ones = open_pushed (facts_of c.args.document.now) records event c.args.number c.args.call c.args.self.now.open.items c.push.new.self.items d.order at called w.open_ones
            (c.in_ok-push.ensures.items ∙ ap (λ (xs : List ℕ). xs ++ c.args.number ∷ []) kept.0);
        made = made_at_call records event c.args.number c.args.call c.move_front.new.self.made c.with-self.result d.order at called
            (subst (HasMade records event) (sym kept.1) w.made) c.with-self.ensures.deletes c.with-self.ensures.makes;
      });
} where
  records : List Rec
  records = c.args.document.now.records.now

pub returns-else-is_hidden : goal.returns-else-is_hidden
returns-else-is_hidden c = record {
  ok = λ d event at called w. (
      let next = c.in_ok-move_front.ensures.rows records d.versions.known w.positioned in
      let kept = c.in_ok-move_front.ensures.kept in
      record {
        table = (
          table_of c.args.self.now.front.items,
          w.table,
          behind_call (facts_of c.args.document.now) records event c.args.number c.args.call (table_of c.args.self.now.front.items) (table_of c.move_front.new.self.front.items) d.order at called next.1,
        );
        positioned = next.0;
        open_ones = subst (AreOpen c.args.document.now.conflicts records _) (sym kept.0)
            (open_stays (facts_of c.args.document.now) records event c.args.number c.args.call c.args.self.now.open.items d.order at called w.open_ones (sym c.is_hidden.ensures ∙ c.if-is_hidden.false));
        made = made_at_call records event c.args.number c.args.call c.move_front.new.self.made c.with-self.result d.order at called
            (subst (HasMade records event) (sym kept.1) w.made) c.with-self.ensures.deletes c.with-self.ensures.makes;
      });
} where
  records : List Rec
  records = c.args.document.now.records.now
