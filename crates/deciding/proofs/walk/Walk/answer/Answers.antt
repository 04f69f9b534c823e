use Rattle.std.proofs.Common.{List, sym, ap, subst, ◌∙◌}
use Rattle.events.specs.declared.record.Rec.{Rec}
use Rattle.deciding.specs.Steps.{without}
use Rattle.deciding.specs.aids.Candidates.{facts_of, AreOpen}
use Rattle.deciding.specs.aids.StepsOf.{ArePositioned}
use Rattle.deciding.specs.aids.TablesOf.{ArePlacedIn, table_of}
use Rattle.deciding.specs.aids.Walks.{AreSettledIn}
use Rattle.deciding.proofs.EventLemmas.{behind_reply, made_at_reply, open_without}
use Rattle.deciding.proofs.TableLemmas.{all_placed_kept, left_at_reply, no_rows, positions_kept}
use Rattle.deciding.proofs.walk.Walk.answer.Goals as goal

pub returns : goal.returns
returns c d answer closed w =
    let empty = no_rows records c.new-tables.result c.new-tables.ensures.served c.new-tables.ensures.waiting in
    let one = c.in_ok-place_all.ensures.ok d empty (subst (ArePositioned records) (sym c.deref.ensures.value) w.positioned) in
    let two = c.in_ok-closed.ensures d (positions_kept records c.new-tables.result c.place_all.new.self one.0) (record { open_ones = subst (AreOpen c.args.document.now.conflicts records c.args.event) (sym c.as_slice.ensures.value) w.open_ones; made = w.made }) in
    let three = c.in_ok-self.ensures records (subst (ArePositioned records) (sym c.deref-2.ensures.value) (positions_kept records c.place_all.new.self c.close.new.self two.0).served) in
    let placed = all_placed_kept (facts_of c.args.document.now) records c.args.number c.args.call c.args.self.now.front.items c.place_all.new.self c.close.new.self two.0
    (subst (ArePlacedIn c.args.document.now.conflicts records c.args.number c.args.call c.place_all.new.self) c.deref.ensures.value one.1) in
    record {
      table = (
        table_of c.args.self.now.front.items,
        w.table,
        behind_reply (facts_of c.args.document.now) records c.args.event c.args.number c.args.call (table_of c.args.self.now.front.items) (table_of c.in_ok-self.field-0.items) d.order answer
            (left_at_reply (facts_of c.args.document.now) records c.args.event c.args.number c.args.call c.args.self.now.front.items c.in_ok-self.field-0.items c.close.new.self placed (two.1 closed)
            (subst (λ rows. AreSettledIn records c.args.number rows c.in_ok-self.field-0.items) c.deref-2.ensures.value three.1)),
      );
      positioned = three.0;
      open_ones = open_without (facts_of c.args.document.now) records c.args.event c.args.number c.args.call c.args.self.now.open.items c.in_ok-self-2.field-0.items d.order answer w.open_ones
          (c.in_ok-self-2.ensures ∙ ap (without c.args.number) c.deref-3.ensures.value);
      made = made_at_reply records c.args.event c.args.number c.args.call c.args.self.now.made d.order answer w.made;
    } where
      records : List Rec
      records = c.args.document.now.records.now
