use Rattle.std.proofs.Common.{arith, ◌<◌, length, subst, sym, ℕ, slice_index_or, ◌∙◌}
use Rattle.std.proofs.lemmas.Option.{slice_get-get_or}
use Rattle.version_pair.proofs.ListLemmas.{same_some}
use Rattle.compose.specs.aids.Replies.{IsWrongAt, IsWrongUnlessFound}
use Rattle.compose.proofs.offence.narrower.Goals as goal

pub returns-in-NotFound : goal.returns-in-NotFound
returns-in-NotFound c =
    let at : ℕ = c.next_tried-at.result in
    let within : at < length c.args.places.now = omega (arith, c.next_tried-at.ensures.below, c.requires.within) in
    record {
      order = c.next_tried-at.ensures.from;
      within = omega (arith, c.next_tried-at.ensures.below);
      fewer = omega (arith, c.next_tried-at.ensures.below, c.next_tried-at.ensures.from, c.requires.order);
      wrong = λ is p got. subst (IsWrongAt c.args.history.now) (same_some (slice_index_or c.args.places.now at 0) p (sym (slice_get-get_or c.args.places.now at 0 within) ∙ got))
          (subst (IsWrongUnlessFound c.args.history.now _) c.in-NotFound.is c.in_ok-search_outcome_to.ensures);
    }
