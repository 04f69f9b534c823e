-- The documents that are read: one more document, or one more place of the last of them.
use Rattle.std.proofs.Common.{ℕ, zero, suc, ◌≡◌, ◌<◌, ◌+◌, List, [], ◌∷◌, ◌++◌, length, length-append, map, refl, ap, ◌∙◌, arith, get_or, Vec, Global, Ok, Err}
use Rattle.std.specs.Prelude.{if◌then◌else◌, set}
use Rattle.std.proofs.lemmas.Bool.{lt-ltb}
use Rattle.std.proofs.lemmas.List.{map-append}
use Rattle.api_lines.specs.declared.text_fault.TextCause.TheVariants.{Full}
use Rattle.places.specs.declared.place.Place.{Place}
use Rattle.places.specs.Documents.{DocPlaces, doc_places}
use Rattle.witness.specs.declared.witness_line.WitnessLine.{WitnessLine}
use Rattle.witness.specs.declared.witness_line.WitnessLine.TheVariants as line
use Rattle.witness.specs.Text.{items_in, most_items, takes, with_said}

-- ---- room

pub takes_room : (ds : List DocPlaces) (said : WitnessLine) → items_in ds < most_items → takes ds said ≡ Ok (with_said ds said)
takes_room ds said room = ap (λ b. if b then Ok (with_said ds said) else Err Full) (lt-ltb (items_in ds) most_items room)

pub items_in-append : (xs ys : List DocPlaces) → items_in (xs ++ ys) ≡ items_in xs + items_in ys
items_in-append [] ys = omega arith
items_in-append (x ∷ xs) ys = let rest : items_in (xs ++ ys) ≡ items_in xs + items_in ys = items_in-append xs ys in omega arith

-- ---- one more document

pub begun_more : (es : List (List ℕ × Vec Place Global)) (id : List ℕ) (places : Vec Place Global) → places.items ≡ []
    → map doc_places (es ++ (id, places) ∷ []) ≡ with_said (map doc_places es) (line.Document id)
begun_more es id places none =
    map-append doc_places es ((id, places) ∷ []) ∙ ap (λ ps. map doc_places es ++ record { doc = id; places = ps } ∷ []) none

pub items_in-begun : (ds : List DocPlaces) (id : List ℕ) → items_in (with_said ds (line.Document id)) ≡ items_in ds + 1
items_in-begun ds id = items_in-append ds (record { doc = id; places = [] } ∷ [])

-- ---- one more place

pub placed_more : (es : List (List ℕ × Vec Place Global)) (n : ℕ) (e d : List ℕ × Vec Place Global) (places : Vec Place Global) (p : Place)
    → e ≡ get_or es n d → length es ≡ suc n → places.items ≡ e.1.items ++ p ∷ []
    → map doc_places (set es n (e.0, places)) ≡ with_said (map doc_places es) (line.Place p)
placed_more [] n e d places p at size more = absurd (omega arith)
placed_more (x ∷ []) zero e d places p at size more =
    ap (λ ps. record { doc = e.0; places = ps } ∷ []) more
    ∙ ap (λ y. record { doc = y.0; places = y.1.items ++ p ∷ [] } ∷ []) at
placed_more (x ∷ []) (suc n) e d places p at size more = absurd (omega arith)
placed_more (x ∷ y ∷ es) zero e d places p at size more = absurd (omega arith)
placed_more (x ∷ y ∷ es) (suc n) e d places p at size more = ap (λ rest. doc_places x ∷ rest) (placed_more (y ∷ es) n e d places p at (omega arith) more)

-- a write of the same places changes nothing
pub placed_same : (es : List (List ℕ × Vec Place Global)) (n : ℕ) (e d : List ℕ × Vec Place Global) (places : Vec Place Global)
    → e ≡ get_or es n d → n < length es → places.items ≡ e.1.items → map doc_places (set es n (e.0, places)) ≡ map doc_places es
placed_same [] n e d places at size same = refl
placed_same (x ∷ es) zero e d places at size same =
    ap (λ ps. record { doc = e.0; places = ps } ∷ map doc_places es) same ∙ ap (λ y. doc_places y ∷ map doc_places es) at
placed_same (x ∷ es) (suc n) e d places at size same = ap (λ rest. doc_places x ∷ rest) (placed_same es n e d places at (omega arith) same)

pub items_in-placed : (ds : List DocPlaces) → (p : Place) → 0 < length ds → items_in (with_said ds (line.Place p)) ≡ items_in ds + 1
items_in-placed [] p some = absurd (omega arith)
items_in-placed (d ∷ []) p some = let more : length (d.places ++ p ∷ []) ≡ length d.places + 1 = length-append d.places (p ∷ []) in omega arith
items_in-placed (d ∷ e ∷ ds) p some = let rest : items_in (with_said (e ∷ ds) (line.Place p)) ≡ items_in (e ∷ ds) + 1 = items_in-placed (e ∷ ds) p (omega arith) in omega arith

pub doc_count : (es : List (List ℕ × Vec Place Global)) → 0 < length es → 0 < length (map doc_places es)
doc_count [] some = some
doc_count (e ∷ es) some = omega arith
