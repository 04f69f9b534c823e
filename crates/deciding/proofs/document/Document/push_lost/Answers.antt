use Rattle.std.proofs.Common.{◌≡◌, ◌++◌, ℕ, List, refl, sym, ap, subst, ◌∙◌}
use Rattle.std.specs.Option.{option_to_list}
use Rattle.version_pair.specs.declared.pair.Pair.{Pair}
use Rattle.events.specs.declared.record.Rec.{Rec}
use Rattle.deciding.specs.declared.version.FoundNumbers.TheVariants.{One}
use Rattle.deciding.specs.declared.writes.By.TheVariants as by
use Rattle.deciding.specs.declared.writes.Writes.{Writes}
use Rattle.deciding.specs.aids.Candidates.{IsNumberOf, numbers_in}
use Rattle.deciding.specs.aids.Versions.{AreNumbersFound}
use Rattle.deciding.specs.aids.Writes.{key_by}
use Rattle.deciding.proofs.CandidateLemmas.{in_back, in_first, in_front, in_second, in_third, keyed_in, lost_by_first, lost_by_number, not_one, some_in}
use Rattle.deciding.proofs.document.Document.push_lost.Goals as goal

pub returns-in_ok-push_group-in-One : goal.returns-in_ok-push_group-in-One
returns-in_ok-push_group-in-One c = record {
  ok = λ d. (
      let found : AreNumbersFound records pair (One k) = subst (AreNumbersFound records pair) c.in-One.is (c.numbers.ensures records d.versions) in (
        in_first old one two new is,
        lost_by_number records pair c.args.self.now.writes.first_delete k new d.order.calls d.writes.first_delete found.0 (record {
          deletes = λ n first. in_second old one two new is n (some_in c.args.self.now.writes.first_delete n first);
          numbered = λ i r at given. in_third old one two new is i
              (keyed_in (key_by records by.Given) records c.args.self.now.writes.given k c.group.result.now d.writes.given c.group.ensures.all i r at given);
        }),
      )
      );
} where
  records : List Rec
  records = c.args.self.now.records.now

  pair : Pair
  pair = c.args.pair

  k : ℕ
  k = c.in-One.k

  old : List ℕ
  old = c.args.numbers.now.items

  one : List ℕ
  one = option_to_list c.args.self.now.writes.first_delete

  two : List ℕ
  two = numbers_in c.group.result.now

  new : List ℕ
  new = c.push_group.new.numbers.items

  is : new ≡ (old ++ one) ++ two
  is = c.in_ok-push_group-in-One.ensures.ok ∙ ap (λ xs. xs ++ two) c.in_ok-push_first.ensures.ok

pub returns-in_ok-push_first-in-Unseen-2 : goal.returns-in_ok-push_first-in-Unseen-2
returns-in_ok-push_first-in-Unseen-2 c = record {
  ok = λ d. (
    λ n has. subst (λ xs. IsNumberOf xs n) (sym is) (in_front ((old ++ one) ++ two) three n (in_first old one two ((old ++ one) ++ two) refl n has)),
    lost_by_first records pair writes.first_delete writes.first_index writes.first_create new d.order.calls d.writes.first_delete d.writes.first_index d.writes.first_create
        (not_one records pair c.numbers.result (c.numbers.ensures records d.versions) c.in-Unseen.is) (record {
          deletes = λ n first. subst (λ xs. IsNumberOf xs n) (sym is) (in_front ((old ++ one) ++ two) three n (in_second old one two ((old ++ one) ++ two) refl n (some_in writes.first_delete n first)));
          indexes = λ n first. subst (λ xs. IsNumberOf xs n) (sym is) (in_front ((old ++ one) ++ two) three n (in_third old one two ((old ++ one) ++ two) refl n (some_in writes.first_index n first)));
          creates = λ n first. subst (λ xs. IsNumberOf xs n) (sym is) (in_back ((old ++ one) ++ two) three n (some_in writes.first_create n first));
        }),
  );
} where
  records : List Rec
  records = c.args.self.now.records.now

  pair : Pair
  pair = c.args.pair

  writes : Writes
  writes = c.args.self.now.writes

  old : List ℕ
  old = c.args.numbers.now.items

  one : List ℕ
  one = option_to_list writes.first_delete

  two : List ℕ
  two = option_to_list writes.first_index

  three : List ℕ
  three = option_to_list writes.first_create

  new : List ℕ
  new = c.push_first-in-Unseen-2.new.numbers.items

  is : new ≡ ((old ++ one) ++ two) ++ three
  is =
      c.in_ok-push_first-in-Unseen-2.ensures.ok ∙ (ap (λ xs. xs ++ three) c.in_ok-push_first-in-Unseen.ensures.ok
      ∙ ap (λ xs. (xs ++ two) ++ three) c.in_ok-push_first.ensures.ok)
