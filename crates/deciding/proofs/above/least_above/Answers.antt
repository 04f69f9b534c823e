use Rattle.std.proofs.Common.{◌+◌, sym, subst, Some, None}
use Rattle.deciding.specs.Above.{IsLeastAbove}
use Rattle.deciding.proofs.AboveLemmas.{IsMadeOf, first_least, next_least, over_least}
use Rattle.deciding.proofs.above.least_above.Goals as goal

pub returns-in-None : goal.returns-in-None
returns-in-None c = subst (λ o. IsLeastAbove o c.new.result) (sym c.in-None.is) (first_least c.new.result (c.new.ensures.some, c.new.ensures.value))

pub returns-in-Some-new : goal.returns-in-Some-new
returns-in-Some-new c =
    let made : IsMadeOf c.term.result (c.seq.result + 1) c.new-in-Some.result = (c.new-in-Some.ensures.some, c.new-in-Some.ensures.value) in
    let next : IsMadeOf c.in-Some.pair.term (c.in-Some.pair.seq + 1) (Some c.in-Some-new.next) =
    subst (λ t. IsMadeOf t (c.in-Some.pair.seq + 1) (Some c.in-Some-new.next)) c.term.ensures
    (subst (λ s. IsMadeOf c.term.result (s + 1) (Some c.in-Some-new.next)) c.seq.ensures (subst (IsMadeOf c.term.result (c.seq.result + 1)) c.in-Some-new.is made)) in
    subst (λ o. IsLeastAbove o (Some c.in-Some-new.next)) (sym c.in-Some.is) (next_least c.in-Some.pair c.in-Some-new.next next)

pub returns-in-None-new : goal.returns-in-None-new
returns-in-None-new c =
    let made : IsMadeOf c.term.result (c.seq.result + 1) c.new-in-Some.result = (c.new-in-Some.ensures.some, c.new-in-Some.ensures.value) in
    let past : IsMadeOf c.in-Some.pair.term (c.in-Some.pair.seq + 1) None =
    subst (λ t. IsMadeOf t (c.in-Some.pair.seq + 1) None) c.term.ensures
    (subst (λ s. IsMadeOf c.term.result (s + 1) None) c.seq.ensures (subst (IsMadeOf c.term.result (c.seq.result + 1)) c.in-None-new.is made)) in
    let next : IsMadeOf (c.in-Some.pair.term + 1) 0 c.new-in-None-new.result =
    subst (λ t. IsMadeOf (t + 1) 0 c.new-in-None-new.result) c.term-in-None-new.ensures (c.new-in-None-new.ensures.some, c.new-in-None-new.ensures.value) in
    subst (λ o. IsLeastAbove o c.new-in-None-new.result) (sym c.in-Some.is) (over_least c.in-Some.pair c.new-in-None-new.result past next)
