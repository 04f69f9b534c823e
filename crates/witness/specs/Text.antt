-- Witness texts: what each line says, how a text is read, and how it is written. Reading is a function, so a
-- text has one meaning: its documents with their places, in order, or the first line that is refused with its
-- first cause.
use Rattle.std.specs.Prelude.{ℕ, suc, ◌<◌, ◌≤◌, All, ◌+◌, List, [], ◌∷◌, ◌++◌, Bool, true, false, nat_lt, if◌then◌else◌, Option, Some, None, map, flat_map, length, codes, Result, Ok, Err}
use Rattle.serde_json.specs.Data.{Data, unsigned, number, string, object, member, no_members}
use Rattle.serde_json.specs.Written.{compact_text}
use Rattle.version_pair.specs.declared.pair.Pair.{Pair}
use Rattle.api_lines.specs.Faults.{◌>>=◌}
use Rattle.api_lines.specs.HistoryLines.{below_limit}
use Rattle.api_lines.specs.Ids.{id_parsed}
use Rattle.api_lines.specs.Json.{FieldValue, absent, whole, not_whole, text, truth, other, field}
use Rattle.api_lines.specs.Kinds.{optional_number, required_number}
use Rattle.api_lines.specs.Lines.{lines_of}
use Rattle.api_lines.specs.Pairs.{pair_parsed, whole_parsed}
use Rattle.api_lines.specs.Texts.{read_lines}
use Rattle.api_lines.specs.declared.number.Number.{Number}
use Rattle.api_lines.specs.declared.text_fault.TextCause.{TextCause}
use Rattle.api_lines.specs.declared.text_fault.TextCause.TheVariants.{Shape, Full}
use Rattle.api_lines.specs.declared.text_fault.TextFault.{TextFault}
use Rattle.witness.specs.declared.witness_line.WitnessLine.{WitnessLine}
use Rattle.witness.specs.declared.witness_line.WitnessLine.TheVariants as line
use Rattle.places.specs.declared.place.Place.{Place}
use Rattle.places.specs.Documents.{DocPlaces}

-- ---- what a line says, or the first cause to refuse it

-- what a document's line says: a document whose id has 1 to 512 bytes; otherwise Id
-- Source: profile.
abbrev pub document_parsed : List ℕ → Result WitnessLine TextCause
document_parsed doc = do
  d ← id_parsed doc
  Ok (line.Document d)

-- the records that a place may name are below 2^32
-- Source: profile.
abbrev pub most_records : ℕ
most_records = 4294967296

-- the number of the record of a place; Range if it isn't whole, or isn't below 2^32
-- Source: profile.
abbrev pub record_parsed : Number → Result ℕ TextCause
record_parsed rec = whole_parsed rec >>= below_limit most_records

-- A place by its numbers, after a document or before any: Shape before any; then the halves and the ranges of
-- its pair, then its record.
-- Source: profile.
abbrev pub place_numbered : Bool → Number → Option Number → Option Number → Result WitnessLine TextCause
place_numbered false rec seq term = Err Shape
place_numbered true rec seq term = do
  pair ← pair_parsed seq term
  n ← record_parsed rec
  Ok (line.Place (record { rec = n; pair = pair }))

-- What a place's line says. Checked first are the kinds of all fields, of which `rec` must be there, then
-- that a document was begun, all of these with Shape; then the halves of its pair, then the ranges.
-- Source: profile.
abbrev pub place_parsed : Bool → FieldValue → FieldValue → FieldValue → Result WitnessLine TextCause
place_parsed begun rec seq term = do
  r ← required_number rec
  s ← optional_number seq
  t ← optional_number term
  place_numbered begun r s t

-- What a line says by its field `doc`: a line that has one, which is a text, begins a document, whatever else
-- it has, and a line without one gives a place.
-- Source: profile.
abbrev pub says_by : Bool → Data → FieldValue → Result WitnessLine TextCause
says_by begun v absent = place_parsed begun (field (codes "rec") v) (field (codes "seq") v) (field (codes "term") v)
says_by begun v (whole n) = Err Shape
says_by begun v not_whole = Err Shape
says_by begun v (text doc) = document_parsed doc
says_by begun v (truth b) = Err Shape
says_by begun v other = Err Shape

-- what the value of a line says, after a document or before any
-- Source: profile.
abbrev pub says : Bool → Data → Result WitnessLine TextCause
says begun v = says_by begun v (field (codes "doc") v)

-- ---- reading

-- the number of lines of the documents: one for each document, and one for each place
-- Source: profile.
abbrev pub items_in : List DocPlaces → ℕ
items_in [] = 0
items_in (d ∷ ds) = suc (length d.places) + items_in ds

-- the greatest number of these: 2,097,152
-- Source: profile.
abbrev pub most_items : ℕ
most_items = 2097152

-- there is a document
abbrev pub is_begun : List DocPlaces → Bool
is_begun [] = false
is_begun (d ∷ ds) = true

-- the documents with what one more line says: a place goes to the last document
abbrev pub with_said : List DocPlaces → WitnessLine → List DocPlaces
with_said ds (line.Document d) = ds ++ record { doc = d; places = [] } ∷ []
with_said [] (line.Place p) = []
with_said (d ∷ []) (line.Place p) = record { doc = d.doc; places = d.places ++ p ∷ [] } ∷ []
with_said (d ∷ e ∷ ds) (line.Place p) = d ∷ with_said (e ∷ ds) (line.Place p)

-- the documents after what a line says, if there are fewer than `most_items` lines; otherwise Full
-- Source: profile.
abbrev pub takes : List DocPlaces → WitnessLine → Result (List DocPlaces) TextCause
takes ds said = if nat_lt (items_in ds) most_items then Ok (with_said ds said) else Err Full

-- the documents after the value of a line
-- Source: profile.
abbrev pub takes_value : List DocPlaces → Data → Result (List DocPlaces) TextCause
takes_value ds v = says (is_begun ds) v >>= takes ds

-- The documents of a witness text, with their places; or the first line that is refused, with its first
-- cause. Lines are numbered from 1, and are read one after another, from no document.
-- Source: profile.
abbrev pub witness_text : List ℕ → Result (List DocPlaces) TextFault
witness_text bytes = read_lines takes_value 1 [] (lines_of bytes)

-- ---- writing

-- the value of a place's line: an object with `rec`, and with `seq` and `term` if there is a pair
-- Source: profile.
abbrev pub place_value : ℕ → Option Pair → Data
place_value n None = object (member (codes "rec") (number (unsigned n)) no_members)
place_value n (Some q) =
    object (member (codes "rec") (number (unsigned n)) (member (codes "seq") (number (unsigned q.seq)) (member (codes "term") (number (unsigned q.term)) no_members)))

-- the value of a line: an object with `doc`, or that of a place
-- Source: profile.
abbrev pub value_of : WitnessLine → Data
value_of (line.Document d) = object (member (codes "doc") (string d) no_members)
value_of (line.Place p) = place_value p.rec p.pair

-- the lines of the documents: each document's, then one for each of its places
-- Source: profile.
abbrev pub said_by : List DocPlaces → List WitnessLine
said_by ds = flat_map (λ d. line.Document d.doc ∷ map (λ p. line.Place p) d.places) ds

-- the text of these lines, each as JSON with no space and a line feed
-- Source: profile.
abbrev pub written : List WitnessLine → List ℕ
written lines = flat_map (λ said. compact_text (value_of said) ++ 10 ∷ []) lines

-- documents that a text can hold
pub record AreWithinLimits (ds : List DocPlaces) : Type 0 where
  -- there are at most `most_items` documents and places
  pub few : items_in ds ≤ most_items
  -- each record is below 2^32
  pub records : All (λ d. All (λ p. p.rec < most_records) d.places) ds
