use Rattle.std.proofs.Common.{◌≡◌, ◌++◌, ℕ, List, Some, sym, ap, subst, ◌∙◌, true≢false}
use Rattle.events.specs.declared.record.Rec.{Rec}
use Rattle.deciding.specs.declared.writes.By.TheVariants as by
use Rattle.deciding.specs.aids.Candidates.{facts_of, AreIn, IsNumberOf, numbers_in}
use Rattle.deciding.specs.aids.Rows.{branch_of}
use Rattle.deciding.specs.aids.Writes.{key_by}
use Rattle.deciding.proofs.CandidateLemmas.{are_candidates, are_shown, in_back, in_front, keyed_in, represented_in}
use Rattle.deciding.proofs.document.Document.candidates.Goals as goal

pub returns-then-is_reported : goal.returns-then-is_reported
returns-then-is_reported c d placed event made =
    are_shown (facts_of c.args.self.now) records event (branch_of c.args.row.now) c.args.pair c.push_group.new.numbers.items
    ((c.is_reported.ensures records d.versions).0 c.if-is_reported.true)
    (λ i r at is. subst (λ xs. IsNumberOf xs i) (sym whole)
    (keyed_in (key_by records by.Shown) records c.args.self.now.writes.shown c.version_of-version.result c.group.result.now d.writes.shown c.group.ensures.all i r at
    (is ∙ ap (λ n. Some n) (sym (c.version_of-version.ensures records d.versions.known))))) where
      records : List Rec
      records = c.args.self.now.records.now

      whole : c.push_group.new.numbers.items ≡ numbers_in c.group.result.now
      whole = c.in_ok-push_group.ensures.ok ∙ ap (λ xs. xs ++ numbers_in c.group.result.now) c.new-numbers.ensures.items

pub returns : goal.returns
returns c d placed event made =
    are_candidates (facts_of c.args.self.now) records event (branch_of c.args.row.now) c.args.pair new
    (λ reported. true≢false (sym ((c.is_reported.ensures records d.versions).1 reported) ∙ c.if-is_reported.false)) (record {
      asked = λ i r at is. front i ((c.in_ok-push_lost.ensures.ok d).0 i (subst (λ xs. IsNumberOf xs i) (sym pushed)
          (keyed_in (key_by records by.Asked) records c.args.self.now.writes.asked c.args.row.now.position c.group-2.result.now d.writes.asked c.group-2.ensures.all i r at
          (is ∙ ap (λ n. Some n) (sym placed)))));
      lost = λ facts e b j s kind is may. represented_in facts records e b j s c.args.pair c.push_lost.new.numbers.items new front ((c.in_ok-push_lost.ensures.ok d).1 facts e b j s kind is may);
      open_ones = λ i r y reply at heard hides called within. subst (λ xs. IsNumberOf xs i) (sym whole) (in_back c.push_lost.new.numbers.items c.args.open.now i (made i r y reply at heard hides called within));
    }) where
      records : List Rec
      records = c.args.self.now.records.now

      new : List ℕ
      new = c.extend_from_slice.new.self.items

      whole : new ≡ c.push_lost.new.numbers.items ++ c.args.open.now
      whole = c.in_ok-extend_from_slice.ensures.items

      front : AreIn c.push_lost.new.numbers.items new
      front n has = subst (λ xs. IsNumberOf xs n) (sym whole) (in_front c.push_lost.new.numbers.items c.args.open.now n has)

      pushed : c.push_group-2.new.numbers.items ≡ numbers_in c.group-2.result.now
      pushed = c.in_ok-push_group-2.ensures.ok ∙ ap (λ xs. xs ++ numbers_in c.group-2.result.now) c.new-numbers.ensures.items
