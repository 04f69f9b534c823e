use Rattle.std.proofs.Common.{rules, ◌≡◌, ◌<◌, [], Some, length, refl, slice_get}
use Rattle.std.proofs.lemmas.Option.{slice_get_read}
use Rattle.recorder.proofs.FoundLemmas.{none_in_each}
use Rattle.recorder.proofs.strand.are_all_met.Goals as goal

pub returns-then-not-is_empty : goal.returns-then-not-is_empty
returns-then-not-is_empty c = (
  λ never. search rules,
  λ none.
      let within : c.loop-strand.strand-index < length c.args.strands.now = search rules in
      let at : slice_get c.args.strands.now c.loop-strand.strand-index ≡ Some c.strand-item.result =
      slice_get_read c.args.strands.now _ c.loop-strand.strand-index c.strand-item.result refl within c.strand-item.is in
      let empty : c.strand-item.result ≡ [] = none_in_each c.args.strands.now c.loop-strand.strand-index c.strand-item.result at none in
      search rules,
)
