-- The pairs that the calls of a document take, as they are gathered: one place after another.
use Rattle.std.proofs.Common.{ℕ, ◌+◌, ◌≡◌, ◌++◌, List, [], ◌∷◌, ap, ◌∙◌, Some, slice_get, take}
use Rattle.std.specs.Prelude.{filter_map, option_map}
use Rattle.std.proofs.Math.Numerals.{add-one}
use Rattle.std.proofs.lemmas.List.Elements.{filter_map-append}
use Rattle.events.specs.declared.record.Rec.{Rec}
use Rattle.version_pair.proofs.ListLemmas.{take_one_more}
use Rattle.places.specs.declared.place.Place.{Place}
use Rattle.shard_numbers.specs.Taken.{pair_at, pairs_at}

-- one more place
pub pairs_one_more : (h : ℕ) (records : List Rec) (places : List Place) (i : ℕ) (p : Place) → slice_get places i ≡ Some p
    → pairs_at h records (take (i + 1) places) ≡ pairs_at h records (take i places) ++ pairs_at h records (p ∷ [])
pairs_one_more h records places i p at =
    let f = λ (q : Place). option_map (λ v. (h, v)) (pair_at records q) in
    ap (λ k. filter_map f (take k places)) (add-one i) ∙ (ap (filter_map f) (take_one_more places i p at) ∙ filter_map-append f (take i places) (p ∷ []))
