use Rattle.std.proofs.Common.{ℕ, List, sym, subst, ◌∙◌, Option, Vec, Global}
use Rattle.std.proofs.lemmas.Bool.{false≢true}
use Rattle.std.proofs.lemmas.Option.{MatchOption-at_none, MatchOption-at_some}
use Rattle.places.specs.declared.place.Place.{Place}
use Rattle.write_chain.specs.Chain.{Rises}
use Rattle.doc_check.specs.aids.Order.{IsStretchOrder}
use Rattle.doc_check.specs.aids.Sweep.{AreGiven, AreSpread}
use Rattle.doc_check.proofs.SearchLemmas.{equal_pairs_none, order_of_sweep, unspread_none}
use Rattle.doc_check.proofs.search.sweep_order.Goals as goal

pub returns-then-not-rises : goal.returns-then-not-rises
returns-then-not-rises c = λ conflicts.
    equal_pairs_none c.args.records.now c.in_ok-chain.chain.items c.in_ok-chain.ensures.chain
    (λ rising. false≢true (sym c.if-not-rises.true ∙ c.rises.ensures.1 (subst Rises (sym c.deref.ensures.value) rising))) conflicts

pub returns-in_ok-order_of-in-Some : goal.returns-in_ok-order_of-in-Some
returns-in_ok-order_of-in-Some c = λ conflicts.
    let laid = c.in_ok-stretches.ensures.0 in
    order_of_sweep c.args.records.now c.in_ok-stretches.stretches.chain.items c.in-Some.given.items c.in_ok-order_of-in-Some.field-0.items laid.chain laid.rising
    (MatchOption-at_some ((places : List Place) → AreSpread c.args.records.now c.in_ok-stretches.stretches.chain.items places → ⊥)
    (λ (given : Vec (Option ℕ) Global). AreGiven c.args.records.now c.in_ok-stretches.stretches.chain.items given.items) c.in-Some.given c.in-Some.is c.in_ok-given.ensures)
    (subst (λ given. IsStretchOrder c.args.records.now given c.in_ok-order_of-in-Some.field-0.items) c.deref-in-Some.ensures.value c.in_ok-order_of-in-Some.ensures) conflicts

pub returns-in-None : goal.returns-in-None
returns-in-None c = λ conflicts.
    unspread_none c.args.records.now c.in_ok-stretches.stretches.chain.items c.in_ok-stretches.ensures.0.chain
    (MatchOption-at_none ((places : List Place) → AreSpread c.args.records.now c.in_ok-stretches.stretches.chain.items places → ⊥)
    (λ (given : Vec (Option ℕ) Global). AreGiven c.args.records.now c.in_ok-stretches.stretches.chain.items given.items) c.in-None.is c.in_ok-given.ensures) conflicts
