use Rattle.std.proofs.Common.{arith, refl, sym, ap, ◌∙◌, Some, length}
use Rattle.std.proofs.lemmas.Option.{slice_get_read}
use Rattle.version_pair.proofs.ListLemmas.{same_some}
use Rattle.shard_numbers.proofs.TwiceSorted.{first_is_least, none_twice}
use Rattle.shard_numbers.proofs.taken.first_repeated.Goals as goal

pub returns-in-Some : goal.returns-in-Some
returns-in-Some c = λ sorted.
    let xs = c.args.pairs.now in
    let x = c.index-pairs-k.result in
    let again = c.in-Some.ensures.again in
    let here = slice_get_read xs _ c.in-Some.k x refl again.1 c.index-pairs-k.is in
    let same = again.2.4 ∙ same_some again.2.1 x (sym again.2.3 ∙ here) in
    first_is_least xs c.in-Some.k x sorted again.0 c.in-Some.ensures.first (again.2.2 ∙ ap (λ z. Some z) same) here

pub returns-in-None : goal.returns-in-None
returns-in-None c = λ sorted. none_twice c.args.pairs.now (length c.args.pairs.now) sorted c.in-None.ensures.first (omega arith)
