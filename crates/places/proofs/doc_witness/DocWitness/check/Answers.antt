use Rattle.std.proofs.Common.{◌≡◌, subst, rules, []}
use Rattle.places.specs.Faults.{IsFirstFault}
use Rattle.places.specs.aids.Walks.{IsWalked}
use Rattle.places.proofs.WalkLemmas.{fault_not_valid}
use Rattle.places.proofs.doc_witness.DocWitness.check.Goals as goal

pub first_fault-requires : goal.first_fault-requires
first_fault-requires c = λ conflicts.
    let same : c.deref.result.now ≡ c.deref-2.result.now = search rules in
    subst (λ records. IsWalked conflicts records [] c.in-Ok.walk.marks.items c.in-Ok.walk.latest c.in-Ok.walk.state) same (c.in-Ok.ensures conflicts)

pub returns-in-Some-clause-invalid : goal.returns-in-Some-clause-invalid
returns-in-Some-clause-invalid c = λ other valid.
    let fault : IsFirstFault c.args.conflicts c.args.records.items c.args.places.items c.in-Some.fault = search rules in
    fault_not_valid c.args.conflicts c.args.records.items c.args.places.items c.in-Some.fault fault valid
