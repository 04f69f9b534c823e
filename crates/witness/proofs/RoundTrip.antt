-- What is written of documents and their places is read back.
use Rattle.std.proofs.Common.{ℕ, suc, ◌≡◌, ◌<◌, ◌≤◌, ◌+◌, ◌*◌, ◌^◌, List, [], ◌∷◌, ◌++◌, length, length-append, map, All, refl, sym, ap, ◌∙◌, arith, Bool, true, false, Option, Some, None, Ok, Err, append_assoc, append-nil, decimal, codes}
use Rattle.std.specs.Prelude.{if◌then◌else◌, nat_le, nat_lt}
use Rattle.std.proofs.lemmas.Bool.{and_from, lt-ltb, le-leb}
use Rattle.std.proofs.lemmas.List.{map-append}
use Rattle.std.proofs.lemmas.List.Elements.{All-cons, All-head, All-nil, All-tail}
use Rattle.json.specs.Print.{quoted}
use Rattle.serde_json.specs.Written.{compact_text}
use Rattle.version_pair.specs.Id.{IsIdLength}
use Rattle.version_pair.specs.declared.pair.Pair.{Pair}
use Rattle.api_lines.specs.Faults.{◌>>=◌}
use Rattle.api_lines.specs.HistoryLines.{below_limit}
use Rattle.api_lines.specs.Lines.{is_blank, lines_of, longest_line, most_lines}
use Rattle.api_lines.specs.Pairs.{in_range}
use Rattle.api_lines.specs.Texts.{read_line, read_lines, taken}
use Rattle.api_lines.specs.declared.text_fault.TextCause.TheVariants.{Id, Range}
use Rattle.api_lines.proofs.JsonLemmas.{json_value_is}
use Rattle.api_lines.proofs.PairLemmas.{pair_of-some}
use Rattle.api_lines.proofs.ReadingLemmas.{given_value, lines_on}
use Rattle.api_lines.proofs.WrittenLines.{decimal_length, no_line_feed-compact_text, one_line, quoted_length}
use Rattle.witness.specs.aids.Lines.{HasId, IsReadable}
use Rattle.places.specs.declared.place.Place.{Place}
use Rattle.places.specs.Documents.{DocPlaces}
use Rattle.witness.specs.Text.{AreWithinLimits, is_begun, items_in, most_items, most_records, place_value, said_by, says, takes, takes_value, value_of, with_said, witness_text, written}
use Rattle.witness.specs.declared.witness_line.WitnessLine.{WitnessLine}
use Rattle.witness.specs.declared.witness_line.WitnessLine.TheVariants as line
use Rattle.witness.proofs.DocumentsLemmas.{items_in-append, takes_room}

-- ---- lines

abbrev text_of : WitnessLine → List ℕ
text_of said = compact_text (value_of said)

lines_written : (lines : List WitnessLine) → lines_of (written lines) ≡ map text_of lines
lines_written [] = refl
lines_written (x ∷ lines) =
    ap lines_of (append_assoc (text_of x) (10 ∷ []) (written lines))
    ∙ (one_line (text_of x) (written lines) (no_line_feed-compact_text (value_of x)) ∙ ap (λ rest. text_of x ∷ rest) (lines_written lines))

-- ---- what a line says

says_document_back : (begun : Bool) (d : List ℕ) → IsIdLength (length d) → says begun (value_of (line.Document d)) ≡ Ok (line.Document d)
says_document_back begun d fits =
    ap (λ b. (if b then Ok d else Err Id) >>= (λ e. Ok (line.Document e)))
    (and_from (nat_lt 0 (length d)) (nat_le (length d) 512) (lt-ltb 0 (length d) fits.some) (le-leb (length d) 512 fits.within))

record_back : (n : ℕ) (pair : Option Pair) → n < 2 ^ 32
    → (below_limit most_records n >>= (λ r. Ok (line.Place (record { rec = r; pair = pair })))) ≡ Ok (line.Place (record { rec = n; pair = pair }))
record_back n pair small =
    ap (λ b. (if b then Ok n else Err Range) >>= (λ r. Ok (line.Place (record { rec = r; pair = pair })))) (lt-ltb n (2 ^ 32) small)

says_place_back : (n : ℕ) (pair : Option Pair) → n < 2 ^ 32 → says true (place_value n pair) ≡ Ok (line.Place (record { rec = n; pair = pair }))
says_place_back n None small = record_back n None small
says_place_back n (Some q) small =
    ap (λ o. in_range o >>= (λ pair. below_limit most_records n >>= (λ r. Ok (line.Place (record { rec = r; pair = pair }))))) (pair_of-some q)
    ∙ record_back n (Some q) small

-- ---- how long a line is

member_length : (k v rest : List ℕ) → length k ≤ 4 → length (quoted k ++ 58 ∷ (v ++ rest)) ≤ 27 + length v + length rest
member_length k v rest short =
    let key : length (quoted k) ≤ 2 + 6 * length k = quoted_length k in
    let whole : length (quoted k ++ 58 ∷ (v ++ rest)) ≡ length (quoted k) + suc (length (v ++ rest)) = length-append (quoted k) (58 ∷ (v ++ rest)) in
    let after : length (v ++ rest) ≡ length v + length rest = length-append v rest in
    omega arith

document_length : (d : List ℕ) → IsIdLength (length d) → length (text_of (line.Document d)) ≤ 65536
document_length d fits =
    let id : length (quoted d) ≤ 2 + 6 * length d = quoted_length d in
    let line = member_length (codes "doc") (quoted d) (125 ∷ []) (omega arith) in
    let within : length d ≤ 512 = fits.within in
    omega arith

place_length : (n : ℕ) (pair : Option Pair) → n < 2 ^ 32 → length (compact_text (place_value n pair)) ≤ 65536
place_length n None small =
    let line = member_length (codes "rec") (decimal n) (125 ∷ []) (omega arith) in
    let digits : length (decimal n) ≤ 20 = decimal_length n (omega arith) in
    omega arith
place_length n (Some q) small =
    let term : length (decimal q.term) ≤ 20 = decimal_length q.term (let below : q.term < 2 ^ 63 = q.term_fits in omega arith) in
    let seq : length (decimal q.seq) ≤ 20 = decimal_length q.seq (let below : q.seq < 2 ^ 63 = q.seq_fits in omega arith) in
    let digits : length (decimal n) ≤ 20 = decimal_length n (omega arith) in
    let last = member_length (codes "term") (decimal q.term) (125 ∷ []) (omega arith) in
    let next = member_length (codes "seq") (decimal q.seq) (44 ∷ (quoted (codes "term") ++ 58 ∷ (decimal q.term ++ 125 ∷ []))) (omega arith) in
    let first = member_length (codes "rec") (decimal n)
    (44 ∷ (quoted (codes "seq") ++ 58 ∷ (decimal q.seq ++ 44 ∷ (quoted (codes "term") ++ 58 ∷ (decimal q.term ++ 125 ∷ []))))) (omega arith) in
    omega arith

-- ---- one line

-- what may be said after these documents: a place of a record below 2^32, where a document was begun
abbrev MayFollow : List DocPlaces → WitnessLine → Type 0
MayFollow ds (line.Document d) = Unit {0}
MayFollow ds (line.Place p) = (is_begun ds ≡ true) × (p.rec < 2 ^ 32)

written_line : (said : WitnessLine) → is_blank (text_of said) ≡ false
written_line (line.Document d) = refl
written_line (line.Place p) = by_pair p.rec p.pair where
  by_pair : (n : ℕ) (pair : Option Pair) → is_blank (compact_text (place_value n pair)) ≡ false
  by_pair n None = refl
  by_pair n (Some q) = refl

short_line : (ds : List DocPlaces) (said : WitnessLine) → HasId said → MayFollow ds said → length (text_of said) ≤ longest_line
short_line ds (line.Document d) id may = document_length d id
short_line ds (line.Place p) id may = place_length p.rec p.pair may.1

says_back : (ds : List DocPlaces) (said : WitnessLine) → HasId said → MayFollow ds said → says (is_begun ds) (value_of said) ≡ Ok said
says_back ds (line.Document d) id may = says_document_back (is_begun ds) d id
says_back ds (line.Place p) id may = ap (λ b. says b (value_of (line.Place p))) may.0 ∙ says_place_back p.rec p.pair may.1

read_back : (n : ℕ) (ds : List DocPlaces) (said : WitnessLine) → n ≤ most_lines → items_in ds < most_items → IsReadable said → MayFollow ds said
    → read_line takes_value n ds (text_of said) ≡ Ok (with_said ds said)
read_back n ds said few room readable may =
    ap (λ r. r >>= taken takes_value ds)
    (given_value n (text_of said) (value_of said) few (short_line ds said readable.id may) (written_line said)
    (json_value_is (text_of said) (value_of said) readable.json))
    ∙ (ap (λ r. r >>= takes ds) (says_back ds said readable.id may) ∙ takes_room ds said room)

-- ---- all lines

with_place_last : (ds : List DocPlaces) (e : DocPlaces) (p : Place) → with_said (ds ++ e ∷ []) (line.Place p) ≡ ds ++ record { doc = e.doc; places = e.places ++ p ∷ [] } ∷ []
with_place_last [] e p = refl
with_place_last (d ∷ []) e p = refl
with_place_last (d ∷ f ∷ ds) e p = ap (λ rest. d ∷ rest) (with_place_last (f ∷ ds) e p)

begun_last : (ds : List DocPlaces) (e : DocPlaces) → is_begun (ds ++ e ∷ []) ≡ true
begun_last [] e = refl
begun_last (d ∷ ds) e = refl

-- how many lines the documents have with one more at the end
items_last : (ds : List DocPlaces) (e : DocPlaces) → items_in (ds ++ e ∷ []) ≡ items_in ds + suc (length e.places)
items_last ds e = let more : items_in (ds ++ e ∷ []) ≡ items_in ds + items_in (e ∷ []) = items_in-append ds (e ∷ []) in omega arith

read_places : (ds : List DocPlaces) (d : List ℕ) (qs ps : List Place) (lines : List (List ℕ)) → All IsReadable (map (λ p. line.Place p) ps) → All (λ p. p.rec < 2 ^ 32) ps
    → items_in ds + suc (length qs) + length ps ≤ most_items
    → read_lines takes_value (suc (items_in ds + suc (length qs))) (ds ++ record { doc = d; places = qs } ∷ []) (map text_of (map (λ p. line.Place p) ps) ++ lines)
    ≡ read_lines takes_value (suc (items_in ds + suc (length (qs ++ ps)))) (ds ++ record { doc = d; places = qs ++ ps } ∷ []) lines
read_places ds d qs [] lines readable small room =
    ap (λ ps. read_lines takes_value (suc (items_in ds + suc (length ps))) (ds ++ record { doc = d; places = ps } ∷ []) lines) (sym (append-nil qs))
read_places ds d qs (p ∷ ps) lines readable small room =
    let here : DocPlaces = record { doc = d; places = qs } in
    let last : items_in (ds ++ here ∷ []) ≡ items_in ds + suc (length qs) = items_last ds here in
    let read : read_line takes_value (suc (items_in ds + suc (length qs))) (ds ++ here ∷ []) (text_of (line.Place p)) ≡ Ok (ds ++ record { doc = d; places = qs ++ p ∷ [] } ∷ []) =
    read_back (suc (items_in ds + suc (length qs))) (ds ++ here ∷ []) (line.Place p) (omega arith) (omega arith) (All-head IsReadable (line.Place p) (map (λ p. line.Place p) ps) readable)
    (begun_last ds here, All-head (λ p. p.rec < 2 ^ 32) p ps small)
    ∙ ap (λ es. Ok es) (with_place_last ds here p) in
    let longer : length (qs ++ p ∷ []) ≡ length qs + 1 = length-append qs (p ∷ []) in
    let number : suc (suc (items_in ds + suc (length qs))) ≡ suc (items_in ds + suc (length (qs ++ p ∷ []))) = omega arith in
    lines_on takes_value (suc (items_in ds + suc (length qs))) (ds ++ here ∷ []) (ds ++ record { doc = d; places = qs ++ p ∷ [] } ∷ []) (text_of (line.Place p)) (map text_of (map (λ p. line.Place p) ps) ++ lines) read
    ∙ (ap (λ n. read_lines takes_value n (ds ++ record { doc = d; places = qs ++ p ∷ [] } ∷ []) (map text_of (map (λ p. line.Place p) ps) ++ lines)) number
    ∙ (read_places ds d (qs ++ p ∷ []) ps lines (All-tail IsReadable (line.Place p) (map (λ p. line.Place p) ps) readable) (All-tail (λ p. p.rec < 2 ^ 32) p ps small) (omega arith)
    ∙ ap (λ rs. read_lines takes_value (suc (items_in ds + suc (length rs))) (ds ++ record { doc = d; places = rs } ∷ []) lines) (append_assoc qs (p ∷ []) ps)))

first_part : (xs ys : List WitnessLine) → All IsReadable (xs ++ ys) → All IsReadable xs × All IsReadable ys
first_part [] ys all = (All-nil IsReadable, all)
first_part (x ∷ xs) ys all =
    let rest = first_part xs ys (All-tail IsReadable x (xs ++ ys) all) in
    (All-cons IsReadable x xs (All-head IsReadable x (xs ++ ys) all) rest.0, rest.1)

read_documents : (ds es : List DocPlaces) → All IsReadable (said_by es) → All (λ e. All (λ p. p.rec < 2 ^ 32) e.places) es → items_in ds + items_in es ≤ most_items
    → read_lines takes_value (suc (items_in ds)) ds (map text_of (said_by es)) ≡ Ok (ds ++ es)
read_documents ds [] readable small room = ap (λ all. Ok all) (sym (append-nil ds))
read_documents ds (e ∷ es) readable small room =
    let start : DocPlaces = record { doc = e.doc; places = [] } in
    let parts = first_part (map (λ p. line.Place p) e.places) (said_by es) (All-tail IsReadable (line.Document e.doc) (map (λ p. line.Place p) e.places ++ said_by es) readable) in
    let read : read_line takes_value (suc (items_in ds)) ds (text_of (line.Document e.doc)) ≡ Ok (ds ++ start ∷ []) =
    read_back (suc (items_in ds)) ds (line.Document e.doc) (omega arith) (omega arith) (All-head IsReadable (line.Document e.doc) (map (λ p. line.Place p) e.places ++ said_by es) readable) tt in
    let number : suc (suc (items_in ds)) ≡ suc (items_in ds + 1) = omega arith in
    let done : items_in (ds ++ e ∷ []) ≡ items_in ds + suc (length e.places) = items_last ds e in
    lines_on takes_value (suc (items_in ds)) ds (ds ++ start ∷ []) (text_of (line.Document e.doc)) (map text_of (map (λ p. line.Place p) e.places ++ said_by es)) read
    ∙ (ap (λ n. read_lines takes_value n (ds ++ start ∷ []) (map text_of (map (λ p. line.Place p) e.places ++ said_by es))) number
    ∙ (ap (read_lines takes_value (suc (items_in ds + 1)) (ds ++ start ∷ [])) (map-append text_of (map (λ p. line.Place p) e.places) (said_by es))
    ∙ (read_places ds e.doc [] e.places (map text_of (said_by es)) parts.0 (All-head (λ e. All (λ p. p.rec < 2 ^ 32) e.places) e es small) (omega arith)
    ∙ (ap (λ n. read_lines takes_value (suc n) (ds ++ e ∷ []) (map text_of (said_by es))) (sym done)
    ∙ (read_documents (ds ++ e ∷ []) es parts.1 (All-tail (λ e. All (λ p. p.rec < 2 ^ 32) e.places) e es small) (omega arith)
    ∙ ap (λ all. Ok all) (append_assoc ds (e ∷ []) es))))))

pub reads_back : (ds : List DocPlaces) → AreWithinLimits ds → All IsReadable (said_by ds) → witness_text (written (said_by ds)) ≡ Ok ds
reads_back ds within readable =
    ap (read_lines takes_value 1 []) (lines_written (said_by ds)) ∙ read_documents [] ds readable within.records (let few = within.few in omega arith)
