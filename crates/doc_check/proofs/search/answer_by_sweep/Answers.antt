use Rattle.std.proofs.Common.{List, Option, Some, None, sym, subst, ◌≡◌, Vec, Global}
use Rattle.std.specs.Prelude.{MatchOption}
use Rattle.std.proofs.lemmas.Option.{MatchOption-at_none, MatchOption-at_some}
use Rattle.doc_register.specs.declared.state.Conflicts.{Conflicts}
use Rattle.events.specs.declared.record.Rec.{Rec}
use Rattle.places.specs.declared.place.Place.{Place}
use Rattle.doc_check.specs.NoOrders.{AreUnpaired, HasNoOrder}
use Rattle.doc_check.specs.aids.CheckedPlaces.{IsChecked}
use Rattle.doc_check.specs.aids.Sweep.{IsOfSweep}
use Rattle.doc_check.proofs.SearchLemmas.{finds_none, sweep_invalid}
use Rattle.doc_check.proofs.search.answer_by_sweep.Goals as goal

abbrev Swept : Conflicts → List Rec → Option (Vec Place Global) → Type 0
Swept conflicts records found = MatchOption found (HasNoOrder conflicts records) (λ places. IsOfSweep conflicts records places.items)

-- the order of the sweep, where there is one
of_some : (conflicts : Conflicts) (seen records : List Rec) (found : Option (Vec Place Global)) (places : Vec Place Global) → seen ≡ records
    → found ≡ Some places → Swept conflicts seen found → IsOfSweep conflicts records places.items
of_some conflicts seen records found places same is swept =
    subst (λ rs. IsOfSweep conflicts rs places.items) same
    (MatchOption-at_some (HasNoOrder conflicts seen) (λ (ps : Vec Place Global). IsOfSweep conflicts seen ps.items) places is swept)

-- where there is none, there is no order
of_none : (conflicts : Conflicts) (seen records : List Rec) (found : Option (Vec Place Global)) → seen ≡ records → found ≡ None
    → Swept conflicts seen found → HasNoOrder conflicts records
of_none conflicts seen records found same is swept =
    subst (HasNoOrder conflicts) same
    (MatchOption-at_none (HasNoOrder conflicts seen) (λ (ps : Vec Place Global). IsOfSweep conflicts seen ps.items) is swept)

pub answer_by_rules-requires : goal.answer_by_rules-requires
answer_by_rules-requires c =
    let checked = subst (IsChecked c.args.id c.args.recs.items c.in-Some.places.items c.args.conflicts) c.in-Invalid.is c.in_ok-witness-in-Some.ensures in
    let order = of_some c.args.conflicts c.deref.result.now c.args.recs.items _ c.in-Some.places c.deref.ensures.value c.in-Some.is (c.in_ok-places.ensures c.args.conflicts) in
    subst (HasNoOrder c.args.conflicts) (sym checked.1) (sweep_invalid c.args.conflicts c.args.recs.items c.in-Some.places.items order checked.2)

pub answer_by_rules-requires-in-None : goal.answer_by_rules-requires-in-None
answer_by_rules-requires-in-None c =
    of_none c.args.conflicts c.deref.result.now c.args.recs.items _ c.deref.ensures.value c.in-None.is (c.in_ok-places.ensures c.args.conflicts)

pub returns-in-Valid-clause-complete : goal.returns-in-Valid-clause-complete
returns-in-Valid-clause-complete c = λ others none valid.
    let checked = subst (IsChecked c.args.id c.args.recs.items c.in-Some.places.items c.args.conflicts) c.in-Valid.is c.in_ok-witness-in-Some.ensures in
    let order = of_some c.args.conflicts c.deref.result.now c.args.recs.items _ c.in-Some.places c.deref.ensures.value c.in-Some.is (c.in_ok-places.ensures c.args.conflicts) in
    subst AreUnpaired (sym checked.3) order.unpaired

pub returns-in-Invalid-clause-complete : goal.returns-in-Invalid-clause-complete
returns-in-Invalid-clause-complete c =
    let checked = subst (IsChecked c.args.id c.args.recs.items c.in-Some.places.items c.args.conflicts) c.in-Invalid.is c.in_ok-witness-in-Some.ensures in
    let order = of_some c.args.conflicts c.deref.result.now c.args.recs.items _ c.in-Some.places c.deref.ensures.value c.in-Some.is (c.in_ok-places.ensures c.args.conflicts) in
    finds_none c.args.conflicts c.args.recs.items c.answer_by_rules.result
    (sweep_invalid c.args.conflicts c.args.recs.items c.in-Some.places.items order checked.2)

pub returns-in-None-clause-complete : goal.returns-in-None-clause-complete
returns-in-None-clause-complete c =
    finds_none c.args.conflicts c.args.recs.items c.answer_by_rules-in-None.result
    (of_none c.args.conflicts c.deref.result.now c.args.recs.items _ c.deref.ensures.value c.in-None.is (c.in_ok-places.ensures c.args.conflicts))
