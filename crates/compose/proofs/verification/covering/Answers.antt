use Rattle.std.proofs.Common.{Some, None, subst}
use Rattle.shard_numbers.specs.Taken.{IsLeastTwice, pairs_taken}
use Rattle.compose.proofs.VerifyLemmas.{verified_covers, verified_missing, verified_twice}
use Rattle.compose.proofs.verification.covering.Goals as goal

pub returns-in-Some-clause-fault : goal.returns-in-Some-clause-fault
returns-in-Some-clause-fault c = λ known entries are.
    verified_missing c.args.conflicts c.args.history.now entries c.args.verification.entered.items c.args.verification.witnesses.items c.in-Some.doc are c.in-Some.ensures.0 c.in-Some.ensures.1

pub returns-in-Ok-None-clause-ok : goal.returns-in-Ok-None-clause-ok
returns-in-Ok-None-clause-ok c = λ entries are.
    verified_covers c.args.conflicts c.args.history.now entries c.args.verification.entered.items c.args.verification.witnesses.items are c.in_default.ensures
    (subst (λ ws. IsLeastTwice (pairs_taken c.args.history.now ws) None) c.deref.ensures.value
    (subst (λ events. IsLeastTwice (pairs_taken events c.deref.result.now) None) c.whole.ensures
    (subst (IsLeastTwice (pairs_taken c.whole.result c.deref.result.now)) c.in-Ok-None.field-0-is c.in-Ok-None.ensures)))

pub returns-in-Ok-Some-clause-fault : goal.returns-in-Ok-Some-clause-fault
returns-in-Ok-Some-clause-fault c = λ known entries are.
    verified_twice c.args.conflicts c.args.history.now entries c.args.verification.entered.items c.args.verification.witnesses.items (c.in-Ok-Some.shard, c.in-Ok-Some.pair) are
    c.in_default.ensures
    (subst (λ ws. IsLeastTwice (pairs_taken c.args.history.now ws) (Some (c.in-Ok-Some.shard, c.in-Ok-Some.pair))) c.deref.ensures.value
    (subst (λ events. IsLeastTwice (pairs_taken events c.deref.result.now) (Some (c.in-Ok-Some.shard, c.in-Ok-Some.pair))) c.whole.ensures
    (subst (IsLeastTwice (pairs_taken c.whole.result c.deref.result.now)) c.in-Ok-Some.field-0-is c.in-Ok-Some.ensures)))
