-- What a written line says of the bytes that were read, under a reading of histories.
use Rattle.std.specs.Prelude.{◌≡◌, ℕ, ◌+◌, ◌++◌, ◌-◌, ◌⊎◌, Bool, true, false, List, codes, filter, length, Ok, Err, Option, None, Some, IfSome, unwrap_or}
use Rattle.events.specs.declared.event.Event.{Event}
use Rattle.events.specs.declared.event.Event.TheVariants.{Call, Reply, Lost}
use Rattle.api_lines.specs.declared.text_fault.TextFault.{TextFault}
use Rattle.doc_register.specs.declared.reply.Reply.{Reply as Answer}
use Rattle.doc_register.specs.declared.reply.Reply.TheVariants.{Indexed, Deleted, Found, Missing, Conflict}
use Rattle.events.specs.Events.{documents_of, is_ending, place_of}
use Rattle.events.specs.Order.{Explains, IsLinearizable, Placed}
use Rattle.history.specs.ByRules.{history_text_by}
use Rattle.history.specs.Text.{IsHistoryText}
use Rattle.history.specs.declared.text_read.TextRead.{TextRead}
use Rattle.history.specs.declared.text_rules.Writes.{Writes}
use Rattle.history.specs.declared.text_rules.Writes.TheVariants as writes
use Rattle.readings.specs.Gets.{AreGetsExplained, IsExplained, IsUnexplainedGet}
use Rattle.readings.specs.Reading.{conflicts_as, heeded_events, read_as, rules_of}
use Rattle.readings.specs.WayBack.{evidence_in_text, number_in_text, reply_in_text}
use Rattle.readings.specs.declared.reading.Gets.{Gets}
use Rattle.readings.specs.declared.reading.Gets.TheVariants.{Any, Last}
use Rattle.readings.specs.declared.reading.Reading.{Reading}
use Rattle.compose.specs.Counts.{calls_of, is_counted}
use Rattle.compose.specs.Laws.{places_numbered}
use Rattle.compose.specs.declared.counts.CallNumbers.{CallNumbers}
use Rattle.compose.specs.declared.counts.CallNumbers.TheVariants.{All, Even}
use Rattle.covers.specs.Covers.{AreCover}
use Rattle.evidence.specs.Evidence.{Holds, IsReported}
use Rattle.evidence.specs.declared.refuted.Refuted.{Refuted as Evidence}
use Rattle.evidence.specs.declared.refuted.Refuted.TheVariants as evidence
use Rattle.evidence.specs.declared.ruling_out.RulingOut.{RulingOut}
use Rattle.compose.specs.Verdicts.{HasNoOrderFound}
use Rattle.compose.specs.VerifyFaults.{IsFirstVerifyFault}
use Rattle.compose.specs.declared.verify_fault.VerifyFault.{VerifyFault}
use Rattle.places.specs.Documents.{DocPlaces}
use Rattle.witness.specs.Text.{witness_text}
use Rattle.compose.specs.Offences.{IsOffence}
use Rattle.compose.specs.declared.offence.Offence.{Offence}
use Rattle.result_lines.specs.Lines.{broken_get_line, broken_line, no_line, refused_file_line, refused_line, refuted_line, verified_line, yes_line}
use Rattle.result_lines.specs.declared.text_counts.TextCounts.{TextCounts}
use Rattle.stream_io.specs.Written.{HasAnswer, HasPrefix}
use Rattle.stream_io.specs.declared.status.Status.{Status}
use Rattle.stream_io.specs.declared.status.Status.TheVariants.{Yes, No, Refuted, Refused}

-- ---- what was read

-- The whole input is a history text, and this is what was read of it by the rules of the reading: its events, and its
-- lost calls of which it says that nothing was performed (`history_text_by`).
-- Source: profile.
pub record IsReadBy (reading : Reading) (input : List ℕ) (read : TextRead) : Type 0 where
  -- the whole input is a history text of the events
  pub is_text : IsHistoryText input read.history
  -- by the rules of the reading it is read as that
  pub is_read : history_text_by (rules_of reading) input ≡ Ok read

-- the input is such a text, and this holds of what was read of it
abbrev pub OfText : Reading → List ℕ → (TextRead → Type 0) → Type 0
OfText reading input P = (read : TextRead) × IsReadBy reading input read × P read

-- the events that the strict check judges: the text's, as the reading reads them (`read_as`)
abbrev pub judged : Reading → TextRead → List Event
judged reading read = read_as reading read.voids read.history

-- the text's events, with void calls read as gets: those whose gets are judged one by one
abbrev pub heeded : Reading → TextRead → List Event
heeded reading read = heeded_events reading read.voids read.history

-- each get is explained by itself, if any copy may answer it (`AreGetsExplained`)
abbrev pub HasGetsExplained : Reading → TextRead → Type 0
HasGetsExplained reading read = reading.gets ≡ Any → AreGetsExplained reading (heeded reading read)

-- ---- yes

-- whether the event is the reply to a get
abbrev pub is_get_reply : Event → Bool
is_get_reply (Call h n d op) = false
is_get_reply (Reply n (Indexed q created)) = false
is_get_reply (Reply n (Deleted q found)) = false
is_get_reply (Reply n (Found p k)) = true
is_get_reply (Reply n Missing) = true
is_get_reply (Reply n Conflict) = false
is_get_reply (Lost n) = false

-- the number of gets that are judged one by one: of those that were answered, if any copy may answer
-- Source: profile.
abbrev pub gets_judged : Gets → List Event → Option ℕ
gets_judged Last events = None
gets_judged Any events = Some (length (filter is_get_reply events))

-- The numbers that the text's own calls have in what is judged: all, or the even ones if calls have second attempts.
-- Source: profile.
abbrev pub own_numbers : Writes → CallNumbers
own_numbers writes.Once = All
own_numbers writes.Repeated = Even

-- The text is explained under the reading, and this is counted of it. There is an order that explains what is judged;
-- `unplaced` of the text's calls are not in it, of which those count as left out that are no gets judged by themselves.
-- Source: Herlihy and Wing, section 2 (`explains`); profile (the readings and the counts).
pub record IsExplainedWith (reading : Reading) (read : TextRead) (counts : TextCounts) : Type 0 where
  -- the history has that many documents
  pub documents : length (documents_of read.history) ≡ counts.docs
  -- it has that many calls
  pub all_calls : calls_of read.history ≡ counts.calls
  pub order : List Placed
  -- the order explains what is judged
  pub explains : Explains (conflicts_as reading.conflicts) (judged reading read) order
  pub unplaced : ℕ
  -- that many of the calls are not in the order, not counting second attempts
  pub the_rest : length (filter (λ p. is_counted (own_numbers reading.writes) p.no) order) + unplaced ≡ counts.calls
  -- that many gets are judged one by one
  pub gets : counts.gets ≡ gets_judged reading.gets read.history
  -- these aren't counted as left out
  pub left_out : counts.left_out ≡ unplaced - unwrap_or counts.gets 0
  -- each get is explained by itself, if any copy may answer it
  pub explained : HasGetsExplained reading read

-- ---- no

-- the offence by the text's calls and events: `own` is that of what is judged
-- Source: profile.
abbrev pub offence_in_text : Writes → List Event → Offence → Offence
offence_in_text w events own =
    let call = number_in_text w events own.call in
    record { event = reply_in_text w events own.event call; call = call; before_shown = own.before_shown }

-- No order was found for what is judged: no entries without a given pair cover it; it is not legal in response order;
-- and if it is complete, no order explains it. The offence is one of it, by the text's calls and events.
-- Source: profile.
pub record IsUnexplained (reading : Reading) (read : TextRead) (o : Offence) : Type 0 where
  -- no order was found for what is judged (`HasNoOrderFound`)
  pub none_found : HasNoOrderFound (conflicts_as reading.conflicts) (judged reading read)
  pub own : Offence
  -- this is an offence of what is judged (`IsOffence`)
  pub offence : IsOffence (conflicts_as reading.conflicts) (judged reading read) own
  -- by the text's calls and events it is the offence
  pub in_text : o ≡ offence_in_text reading.writes read.history own

-- The text is unexplained, and each get that is judged by itself is explained.
-- Source: profile.
pub record IsUndecided (reading : Reading) (read : TextRead) (o : Offence) : Type 0 where
  -- no order was found, with this offence
  pub unexplained : IsUnexplained reading read o
  -- each get is explained by itself, if any copy may answer it
  pub gets : HasGetsExplained reading read

-- ---- refuted

-- the evidence holds in what is judged, and names the text's calls
-- Source: profile.
pub record IsOfJudged (ruling : RulingOut) (reading : Reading) (read : TextRead) (e : Evidence) : Type 0 where
  pub own : Evidence
  -- this holds in what is judged (`Holds`)
  pub holds : Holds (conflicts_as reading.conflicts) (judged reading read) own
  -- it may be reported (`IsReported`): that a document is ruled out only if that was asked for
  pub reportable : IsReported ruling own
  -- with the numbers of the text's calls it is the evidence
  pub in_text : e ≡ evidence_in_text reading.writes read.history own

-- any copy may answer a get, and nothing explains the get of the evidence (`IsUnexplainedGet`)
-- Source: profile.
pub record IsOfGet (reading : Reading) (read : TextRead) (e : Evidence) : Type 0 where
  -- any copy may answer a get
  pub any : reading.gets ≡ Any
  -- nothing explains this one
  pub unexplained : IsUnexplainedGet reading (heeded reading read) e

-- the number of the first call that evidence names: the get, if it is evidence of one
abbrev pub first_call : Evidence → ℕ
first_call (evidence.PairTwice a b) = a
first_call (evidence.NoWriter g) = g
first_call (evidence.StaleGet g w) = g
first_call (evidence.MissedWrite g w) = g
first_call (evidence.StaleSwap a b) = a
first_call (evidence.RuledOut n) = n

-- The offence of a get that nothing explains, if there is an order without it: its reply.
-- Source: profile.
abbrev pub get_offence : List Event → Evidence → Offence
get_offence events e =
    record { event = unwrap_or (place_of (is_ending (first_call e)) events) 0; call = first_call e; before_shown = true }

-- the offence is one for which no order was found, as for a `no`; or there is an order of what is judged, and it is the
-- reply to the get of the evidence
abbrev pub IsFailedAt : Reading → TextRead → Evidence → Offence → Type 0
IsFailedAt reading read e o =
    IsUnexplained reading read o
    ⊎ (IsOfGet reading read e × IsLinearizable (conflicts_as reading.conflicts) (judged reading read) × (o ≡ get_offence read.history e))

-- The text is provably not explained under the reading: no order of what is judged explains it, however calls of unknown
-- outcome are completed or left out, or nothing explains a get that is judged by itself.
-- Source: Herlihy and Wing, section 2 (`no_order`); profile (the evidence).
pub record IsRefutedBy (ruling : RulingOut) (reading : Reading) (read : TextRead) (e : Evidence) (o : Offence) : Type 0 where
  -- the evidence is of what is judged, or of a get
  pub evidence : IsOfJudged ruling reading read e ⊎ IsOfGet reading read e
  -- where it fails
  pub offence : IsFailedAt reading read e o
  -- the history is not explained under the reading (`IsExplained`)
  pub no_order : ¬ IsExplained reading read.voids read.history

-- ---- refused

-- the input is a text of no history: the line is a `refused_line` of the first of its lines that is refused by the rules
-- of the reading, with its first cause (`history_text_by`)
-- Source: profile.
abbrev pub IsRefused : Reading → List ℕ → List ℕ → Type 0
IsRefused reading input line =
    (fault : TextFault) × (line ≡ refused_line fault.line fault.cause) × (history_text_by (rules_of reading) input ≡ Err fault)

-- ---- the verdict theorem

-- The line says of what was read of a text, with this status:
--
-- - Yes: it is the `yes_line` of counts, and the text is explained under the reading with these (`IsExplainedWith`).
-- - No: it is the `no_line` of an offence, and the text is undecided, with this offence (`IsUndecided`).
-- - Refuted: it is the `refuted_line` of evidence and an offence, by which the text is refuted (`IsRefutedBy`).
-- Source: profile.
abbrev pub Says : RulingOut → Reading → TextRead → Status → List ℕ → Type 0
Says ruling reading read Yes line = (counts : TextCounts) × (line ≡ yes_line counts) × IsExplainedWith reading read counts
Says ruling reading read No line = (o : Offence) × (line ≡ no_line o) × IsUndecided reading read o
Says ruling reading read Refuted line = (e : Evidence) × (o : Offence) × (line ≡ refuted_line e o) × IsRefutedBy ruling reading read e o
Says ruling reading read Refused line = ⊥

-- The verdict theorem: the line that a check writes, and what it says of the input. It is a text of a history, of which
-- the line says what `Says` has for its status; or a text of no history, and refused (`IsRefused`).
-- Source: profile.
abbrev pub IsAnswer : RulingOut → Reading → List ℕ → Status → List ℕ → Type 0
IsAnswer ruling reading input Yes line = OfText reading input (λ read. Says ruling reading read Yes line)
IsAnswer ruling reading input No line = OfText reading input (λ read. Says ruling reading read No line)
IsAnswer ruling reading input Refuted line = OfText reading input (λ read. Says ruling reading read Refuted line)
IsAnswer ruling reading input Refused line = IsRefused reading input line

-- ---- witnesses

-- What is written reads as entries that cover what is judged, and the text is explained under the reading.
-- Source: Herlihy and Wing, section 2 (`explained`); profile (the rest).
pub record IsWitnessed (reading : Reading) (read : TextRead) (text : List ℕ) : Type 0 where
  pub entries : List DocPlaces
  -- what is written reads as the entries
  pub reads : witness_text text ≡ Ok entries
  -- the entries cover what is judged (`AreCover`)
  pub cover : AreCover (conflicts_as reading.conflicts) (judged reading read) entries
  -- the history is explained under the reading (`IsExplained`)
  pub explained : IsExplained reading read.voids read.history

-- this holds of the beginning of the text; of what follows it nothing is said
abbrev pub IsFollowed : (List ℕ → Type 0) → List ℕ → Type 0
IsFollowed P text = (first more : List ℕ) × (text ≡ first ++ more) × P first

-- What is written if a witness is asked for: the text of one (`IsWitnessed`), or the line of a check, as in `IsAnswer`.
-- After the line of a history that is refuted a certificate may follow, of which nothing is said.
-- Source: profile.
abbrev pub IsWitnessAnswer : RulingOut → Reading → List ℕ → Status → List ℕ → Type 0
IsWitnessAnswer ruling reading input Yes text = OfText reading input (λ read. IsWitnessed reading read text)
IsWitnessAnswer ruling reading input No text = IsAnswer ruling reading input No text
IsWitnessAnswer ruling reading input Refuted text = IsFollowed (IsAnswer ruling reading input Refuted) text
IsWitnessAnswer ruling reading input Refused text = IsAnswer ruling reading input Refused text

-- The witness reads as entries that cover what is judged, and the text is explained under the reading, with these counts;
-- they are those of the entries.
-- Source: Herlihy and Wing, section 2 (`explained`); profile (the rest).
pub record IsVerified (reading : Reading) (read : TextRead) (witness : List ℕ) (counts : TextCounts) : Type 0 where
  pub entries : List DocPlaces
  -- the witness reads as the entries
  pub reads : witness_text witness ≡ Ok entries
  -- the entries cover what is judged
  pub cover : AreCover (conflicts_as reading.conflicts) (judged reading read) entries
  -- the text is explained under the reading, with these counts
  pub explained : IsExplainedWith reading read counts
  -- as many of its calls as are not in the order are in no place of the entries
  pub placed : places_numbered (is_counted (own_numbers reading.writes)) (judged reading read) entries + explained.unplaced ≡ counts.calls

-- The witness reads as entries of which this is the first fault; so they do not cover what is judged.
-- Source: profile.
pub record IsBroken (reading : Reading) (read : TextRead) (witness : List ℕ) (fault : VerifyFault) : Type 0 where
  pub entries : List DocPlaces
  -- the witness reads as the entries
  pub reads : witness_text witness ≡ Ok entries
  -- this is the first fault of the entries
  pub first : IsFirstVerifyFault (conflicts_as reading.conflicts) (judged reading read) entries fault
  -- the entries are no cover
  pub no_cover : ¬ AreCover (conflicts_as reading.conflicts) (judged reading read) entries

-- The witness reads as entries that cover what is judged, and nothing explains a get that is judged by itself.
-- Source: profile.
pub record IsBrokenAtGet (reading : Reading) (read : TextRead) (witness : List ℕ) (e : Evidence) : Type 0 where
  pub entries : List DocPlaces
  -- the witness reads as the entries
  pub reads : witness_text witness ≡ Ok entries
  -- the entries cover what is judged
  pub cover : AreCover (conflicts_as reading.conflicts) (judged reading read) entries
  -- nothing explains the get of the evidence
  pub get : IsOfGet reading read e
  -- so the history is not explained under the reading
  pub no_order : ¬ IsExplained reading read.voids read.history

-- the one input is a text of no history: the line is a `refused_file_line` of the first of its lines that is
-- refused, with its first cause
-- Source: profile.
abbrev pub IsRefusedHistory : Reading → List ℕ → List ℕ → Type 0
IsRefusedHistory reading history line =
    (fault : TextFault) × (line ≡ refused_file_line (codes "history") fault.line fault.cause) × (history_text_by (rules_of reading) history ≡ Err fault)

-- the one input is a history text by the rules of the reading, and the other is no witness text: the line is a
-- `refused_file_line` of the first line of the other that is refused, with its first cause (`witness_text`)
-- Source: profile.
abbrev pub IsRefusedWitness : Reading → List ℕ → List ℕ → List ℕ → Type 0
IsRefusedWitness reading history witness line =
    (fault : TextFault) × (line ≡ refused_file_line (codes "witness") fault.line fault.cause) × OfText reading history (λ _. witness_text witness ≡ Err fault)

-- The line that `verify` writes, and what it says of both inputs. Yes: it is a `verified_line` of counts (`IsVerified`).
-- No: it is the `broken_line` of a fault (`IsBroken`), or the `broken_get_line` of evidence (`IsBrokenAtGet`); a witness
-- with a fault is no evidence against the history. Refused: it is that of one of the two texts (`IsRefusedHistory`,
-- `IsRefusedWitness`). It is never Refuted.
-- Source: profile.
abbrev pub IsVerifyAnswer : Reading → List ℕ → List ℕ → Status → List ℕ → Type 0
IsVerifyAnswer reading history witness Yes line =
    (counts : TextCounts) × (line ≡ verified_line counts) × OfText reading history (λ read. IsVerified reading read witness counts)
IsVerifyAnswer reading history witness No line =
    ((fault : VerifyFault) × (line ≡ broken_line fault) × OfText reading history (λ read. IsBroken reading read witness fault))
    ⊎ ((e : Evidence) × (line ≡ broken_get_line e) × OfText reading history (λ read. IsBrokenAtGet reading read witness e))
IsVerifyAnswer reading history witness Refuted line = ⊥
IsVerifyAnswer reading history witness Refused line = IsRefusedHistory reading history line ⊎ IsRefusedWitness reading history witness line

-- if the bytes of the history are known and refused, nothing is taken of the witness
-- Source: profile.
abbrev pub LeavesUnread : Reading → Option (List ℕ) → Option (List ℕ) → Option (List ℕ) → Type 0
LeavesUnread reading history old new = IfSome history (λ h. (fault : TextFault) → history_text_by (rules_of reading) h ≡ Err fault → new ≡ old)

-- ---- what the writer holds

-- the line is an answer, with this status, to the bytes that the reader had, if they are known (`IsAnswer`)
abbrev pub AnswersInput : RulingOut → Reading → Option (List ℕ) → Status → List ℕ → Type 0
AnswersInput ruling reading input status line = IfSome input (λ bytes. IsAnswer ruling reading bytes status line)

-- the text is a witness of the history whose text the reader had, or the line of a check, if the bytes are
-- known
abbrev pub WitnessesInput : RulingOut → Reading → Option (List ℕ) → Status → List ℕ → Type 0
WitnessesInput ruling reading input status text = IfSome input (λ bytes. IsWitnessAnswer ruling reading bytes status text)

-- the line is an answer to the bytes that the two readers had, if both are known
abbrev pub VerifiesInputs : Reading → Option (List ℕ) → Option (List ℕ) → Status → List ℕ → Type 0
VerifiesInputs reading history witness status line = IfSome history (λ h. IfSome witness (λ w. IsVerifyAnswer reading h w status line))

-- What `check_stream` promises. The writer holds the line after what it held, and the line is an answer, with
-- this status, to the bytes that the reader had, if they are known (`AnswersInput`).
-- Source: profile.
abbrev pub IsAnswered : RulingOut → Reading → Option (List ℕ) → Option (List ℕ) → Option (List ℕ) → Status → Type 0
IsAnswered ruling reading input old new status = HasAnswer (AnswersInput ruling reading input status) old new

-- The writer holds a prefix of such a line after what it held.
-- Source: profile.
abbrev pub IsCutOff : RulingOut → Reading → Option (List ℕ) → Option (List ℕ) → Option (List ℕ) → Type 0
IsCutOff ruling reading input old new = HasPrefix (AnswersInput ruling reading input) old new
