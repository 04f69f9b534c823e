use Rattle.std.proofs.Common.{◌≡◌, ℕ, Option, Some, None, sym, subst}
use Rattle.version_pair.proofs.ListLemmas.{none_is_not_some, same_some}
use Rattle.doc_register.specs.Register.{value_of}
use Rattle.deciding.specs.Reported.{IsFoundWith}
use Rattle.deciding.specs.aids.Versions.{AreNumbersFound}
use Rattle.deciding.specs.declared.version.FoundNumbers.TheVariants.{Several}
use Rattle.deciding.proofs.step.gives_found.Goals as goal

pub returns-in-Several : goal.returns-in-Several
returns-in-Several c records are gives = absurd (by_value (value_of c.args.call.op) gives) where
  several : AreNumbersFound records c.args.pair Several
  several = subst (AreNumbersFound records c.args.pair) c.in-Several.is (c.numbers.ensures records are)

  by_value : (o : Option ℕ) → ((k : ℕ) → IsFoundWith records c.args.pair k → o ≡ Some k) → ⊥
  by_value None all = several 0 (λ k found. absurd (none_is_not_some k (all k found)))
  by_value (Some n) all = several n (λ k found. sym (same_some n k (all k found)))
