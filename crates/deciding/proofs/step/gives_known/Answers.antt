use Rattle.std.proofs.Common.{◌≡◌, ◌⊎◌, inl, inr, true, false, not, sym, ap, ◌∙◌, true≢false}
use Rattle.std.specs.Prelude.{is_some}
use Rattle.std.proofs.lemmas.Bool.{cases_Bool, not_from_false}
use Rattle.deciding.proofs.OrderedPositions.{among_known}
use Rattle.deciding.proofs.step.gives_known.Goals as goal

pub returns-in-None : goal.returns-in-None
returns-in-None c records known gives = by_test (cases_Bool c.contains.result) where
  by_test : (c.contains.result ≡ true) ⊎ (c.contains.result ≡ false) → not c.contains.result ≡ true
  by_test (inr none) = not_from_false c.contains.result none
  by_test (inl is) =
      let some = gives (among_known records c.args.pair (sym (c.contains.ensures records known) ∙ is)) in
      absurd (true≢false (sym some ∙ ap is_some (sym c.value.ensures ∙ c.in-None.is)))
