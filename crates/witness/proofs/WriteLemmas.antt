-- Writing witness texts: the lines of documents and places, one after another.
use Rattle.std.proofs.Common.{ℕ, ◌≡◌, ◌+◌, List, [], ◌∷◌, ◌++◌, length, map, take, sym, ap, subst, ◌∙◌, Some, slice_get, append_assoc, append-nil, add-one}
use Rattle.std.proofs.Math.Seq.{take-length}
use Rattle.std.proofs.lemmas.Grind.{flat_map-append}
use Rattle.std.proofs.lemmas.List.Elements.{All-append, All-nil}
use Rattle.std.proofs.lemmas.List.{map-append}
use Rattle.serde_json.specs.Written.{compact_text}
use Rattle.places.specs.Documents.{DocPlaces, witness_places}
use Rattle.witness.specs.aids.Lines.{IsReadable, IsWrittenOn}
use Rattle.witness.specs.declared.witness_line.WitnessLine.{WitnessLine}
use Rattle.witness.specs.declared.witness_line.WitnessLine.TheVariants as line
use Rattle.witness.specs.Text.{said_by, value_of, written}
use Rattle.places.specs.Witness.{Witness}
use Rattle.places.specs.declared.place.Place.{Place}
use Rattle.version_pair.proofs.ListLemmas.{take_one_more}

pub written_none : (text : List ℕ) → IsWrittenOn text text []
written_none text = record { added = sym (append-nil text); readable = All-nil IsReadable }

pub written_both : (old middle new : List ℕ) (first second : List WitnessLine) → IsWrittenOn old middle first → IsWrittenOn middle new second → IsWrittenOn old new (first ++ second)
written_both old middle new first second a b = record {
  added = b.added ∙ (ap (λ text. text ++ written second) a.added
      ∙ (append_assoc old (written first) (written second) ∙ ap (λ text. old ++ text) (sym (flat_map-append (λ said. compact_text (value_of said) ++ 10 ∷ []) first second))));
  readable = All-append IsReadable first second a.readable b.readable;
}

-- one place more
pub written_place : (old text new : List ℕ) (places : List Place) (i : ℕ) (p : Place) → slice_get places i ≡ Some p
    → IsWrittenOn old text (map (λ q. line.Place q) (take i places)) → IsWrittenOn text new (line.Place p ∷ [])
    → IsWrittenOn old new (map (λ q. line.Place q) (take (i + 1) places))
written_place old text new places i p at before more =
    subst (IsWrittenOn old new)
    (sym (ap (λ k. map (λ q. line.Place q) (take k places)) (add-one i)
    ∙ (ap (map (λ q. line.Place q)) (take_one_more places i p at) ∙ map-append (λ q. line.Place q) (take i places) (p ∷ []))))
    (written_both old text new (map (λ q. line.Place q) (take i places)) (line.Place p ∷ []) before more)

-- the lines of one witness
pub written_witness : (old text new : List ℕ) (w : Witness) → IsWrittenOn old text (line.Document w.doc ∷ []) → IsWrittenOn text new (map (λ q. line.Place q) w.places)
    → IsWrittenOn old new (said_by (witness_places w ∷ []))
written_witness old text new w first rest =
    subst (IsWrittenOn old new) (ap (λ lines. line.Document w.doc ∷ lines) (sym (append-nil (map (λ q. line.Place q) w.places))))
    (written_both old text new (line.Document w.doc ∷ []) (map (λ q. line.Place q) w.places) first rest)

-- one witness more
pub written_more : (old text new : List ℕ) (witnesses : List Witness) (i : ℕ) (w : Witness) → slice_get witnesses i ≡ Some w
    → IsWrittenOn old text (said_by (map witness_places (take i witnesses))) → IsWrittenOn text new (said_by (witness_places w ∷ []))
    → IsWrittenOn old new (said_by (map witness_places (take (i + 1) witnesses)))
written_more old text new witnesses i w at before more =
    subst (IsWrittenOn old new)
    (sym (ap (λ k. said_by (map witness_places (take k witnesses))) (add-one i)
    ∙ (ap (λ ws. said_by (map witness_places ws)) (take_one_more witnesses i w at)
    ∙ (ap said_by (map-append witness_places (take i witnesses) (w ∷ []))
    ∙ flat_map-append (λ (d : DocPlaces). line.Document d.doc ∷ map (λ q. line.Place q) d.places) (map witness_places (take i witnesses)) (witness_places w ∷ [])))))
    (written_both old text new (said_by (map witness_places (take i witnesses))) (said_by (witness_places w ∷ [])) before more)

pub written_all : (text : List ℕ) (witnesses : List Witness) (i : ℕ) → i ≡ length witnesses → IsWrittenOn [] text (said_by (map witness_places (take i witnesses)))
    → IsWrittenOn [] text (said_by (map witness_places witnesses))
written_all text witnesses i end before =
    subst (λ ws. IsWrittenOn [] text (said_by (map witness_places ws))) (ap (λ k. take k witnesses) end ∙ take-length witnesses) before
