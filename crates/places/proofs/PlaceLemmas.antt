-- The places of a document: how many there are, and which records they name.
use Rattle.std.proofs.Common.{ℕ, suc, ◌≡◌, ◌<◌, ◌≤◌, ◌^◌, List, [], ◌∷◌, length, map, All, refl, sym, ap, ◌∙◌, arith, Option, Some, None, slice_get}
use Rattle.std.specs.Prelude.{option_map}
use Rattle.std.proofs.Math.ListN.{length-map}
use Rattle.std.proofs.lemmas.List.Elements.{All-cons, All-nil}
use Rattle.std.proofs.lemmas.Option.{slice_get-map, slice_get_within}
use Rattle.doc_register.specs.declared.state.Conflicts.{Conflicts}
use Rattle.events.specs.declared.record.Rec.{Rec}
use Rattle.events.specs.Order.{Placed}
use Rattle.events.proofs.CountLemmas.{distinct_within}
use Rattle.version_pair.proofs.ListLemmas.{none_is_not_some}
use Rattle.places.specs.declared.place.Place.{Place}
use Rattle.places.specs.Laws.{ArePlacedBy}
use Rattle.places.specs.Places.{AreValidSoFar}

abbrev rec_of : Place → ℕ
rec_of p = p.rec

-- the place whose record has the number
place_named : (o : Option Place) (k : ℕ) → option_map rec_of o ≡ Some k → (p : Place) × (o ≡ Some p) × (p.rec ≡ k)
place_named None k at = absurd (none_is_not_some k at)
place_named (Some p) k at = (p, refl, (let same : Some p.rec ≡ Some k = at in cc))

numbered : (places : List Place) (i k : ℕ) → slice_get (map rec_of places) i ≡ Some k → (p : Place) × (slice_get places i ≡ Some p) × (p.rec ≡ k)
numbered places i k at = place_named (slice_get places i) k (sym (slice_get-map rec_of places i) ∙ at)

-- an order has as many calls as the places that say of them
pub placed_length : (records : List Rec) (ps : List Place) (qs : List Placed) → ArePlacedBy records ps qs → length qs ≡ length ps
placed_length records [] [] placed = refl
placed_length records [] (q ∷ qs) placed = absurd placed
placed_length records (p ∷ ps) [] placed = absurd placed
placed_length records (p ∷ ps) (q ∷ qs) placed = ap suc (placed_length records ps qs placed.1)

-- records below such a number can be written
pub small_records : (ps : List Place) (n : ℕ) → n ≤ 1048576 → ((i : ℕ) (p : Place) → slice_get ps i ≡ Some p → p.rec < n) → All (λ q. q.rec < 2 ^ 32) ps
small_records [] n few below = All-nil (λ (q : Place). q.rec < 2 ^ 32)
small_records (p ∷ ps) n few below =
    All-cons (λ (q : Place). q.rec < 2 ^ 32) p ps (let here : p.rec < n = below 0 p refl in omega arith)
    (small_records ps n few (λ i q at. below (suc i) q at))
