-- Objects that are written have no floats, so their text is the one that is defined.
use Rattle.std.proofs.Common.{◌≡◌, ℕ, Bool, List, Option, Ordering, Some, None, Less, Equal, Greater, codes, false, option_map, refl}
use Rattle.std.proofs.lemmas.Bool.{or_from, or_parts}
use Rattle.std.specs.Cmp.Lexicographic.{slice_cmp}
use Rattle.std.specs.Ordering.{match_ordering, nat_cmp}
use Rattle.std.specs.Prelude.{string_bytes}
use Rattle.serde_json.specs.Data.{Data, Members, boolean, member, no_members, number, object, put, string, unsigned}
use Rattle.serde_json.specs.Written.{has_float, members_have_float}
use Rattle.api_lines.specs.Objects.{with_number, with_text}
use Rattle.api_lines.specs.declared.text_fault.TextFault.{TextFault}
use Rattle.places.specs.declared.broken.Broken.{Broken}
use Rattle.places.specs.declared.broken.Broken.TheVariants.{Stranger, Twice, Absent, Late, PairMissing, PairGiven, Illegal, NoMemory}
use Rattle.evidence.specs.declared.refuted.Refuted.{Refuted}
use Rattle.evidence.specs.declared.refuted.Refuted.TheVariants as evidence
use Rattle.compose.specs.declared.offence.Offence.{Offence}
use Rattle.compose.specs.declared.verify_fault.VerifyFault.{VerifyFault}
use Rattle.compose.specs.declared.verify_fault.VerifyFault.TheVariants as fault
use Rattle.result_lines.specs.Lines.{before_name, cause_name, kind_name}
use Rattle.result_lines.specs.Objects.{at_fault, broken_members, broken_reply_members, calls_of, counts_of, facts_members, fault_members, gets_member, line_members, lines_of, milliseconds_member, offence_members, places_members, proved_member, reading_member, reading_of, text_member}
use Rattle.result_lines.specs.declared.facts.BrokenReply.{BrokenReply}
use Rattle.result_lines.specs.declared.facts.Facts.{Facts}
use Rattle.result_lines.specs.declared.reported.Reported.{Reported}
use Rattle.result_lines.specs.declared.reported.Reported.TheVariants as reported
use Rattle.result_lines.specs.declared.facts.NamedReading.{NamedReading}
use Rattle.result_lines.specs.declared.text_counts.TextCounts.{TextCounts}

-- no value of the members has a float
ArePlain : Members → Type 0
ArePlain ms = members_have_float ms ≡ false

-- none has where there is no member
none_plain : ArePlain no_members
unfolding ArePlain
none_plain = refl

-- an object of such members has no float
object_of_plain : (ms : Members) → ArePlain ms → has_float (object ms) ≡ false
unfolding ArePlain
object_of_plain ms all = all

-- one more value without a float, before the next member, in its place or behind it
with_plain : (k : List ℕ) (d : Data) (ms : Members) → has_float d ≡ false → ArePlain ms → ArePlain (put k d ms)
unfolding ArePlain
with_plain k d no_members one all = or_from (has_float d) false one refl
with_plain k d (member l e ms) one all =
    let parts = or_parts (has_float e) (members_have_float ms) all in
    by (slice_cmp nat_cmp k l) parts.0 parts.1 (with_plain k d ms one parts.1)
  where
    by : (r : Ordering) → has_float e ≡ false → members_have_float ms ≡ false → members_have_float (put k d ms) ≡ false
        → members_have_float (match_ordering r (member k d (member l e ms)) (member l d ms) (member l e (put k d ms))) ≡ false
    by Less here rest more = or_from (has_float d) (members_have_float (member l e ms)) one all
    by Equal here rest more = or_from (has_float d) (members_have_float ms) one rest
    by Greater here rest more = or_from (has_float e) (members_have_float (put k d ms)) here more

text_plain : (k s : List ℕ) (ms : Members) → ArePlain ms → ArePlain (with_text k s ms)
text_plain k s ms all = with_plain k (string s) ms refl all

number_plain : (k : List ℕ) (n : ℕ) (ms : Members) → ArePlain ms → ArePlain (with_number k n ms)
number_plain k n ms all = with_plain k (number (unsigned n)) ms refl all

-- ---- the members of lines

gets_plain : (gets : Option ℕ) (ms : Members) → ArePlain ms → ArePlain (gets_member gets ms)
gets_plain None ms all = all
gets_plain (Some gets) ms all = number_plain (codes "gets") gets ms all

counts_plain : (c : TextCounts) → has_float (counts_of c) ≡ false
counts_plain c =
    object_of_plain _ (gets_plain c.gets _
    (number_plain (codes "left_out") c.left_out _ (number_plain (codes "docs") c.docs _ (number_plain (codes "calls") c.calls no_members none_plain))))

calls_plain : (e : Refuted) → has_float (calls_of e) ≡ false
calls_plain (evidence.PairTwice a b) = refl
calls_plain (evidence.NoWriter g) = refl
calls_plain (evidence.StaleGet g w) = refl
calls_plain (evidence.MissedWrite g w) = refl
calls_plain (evidence.StaleSwap a b) = refl
calls_plain (evidence.RuledOut n) = refl

offence_plain : (o : Offence) (ms : Members) → ArePlain ms → ArePlain (offence_members o ms)
offence_plain o ms all =
    number_plain (codes "event") o.event _ (number_plain (codes "call") o.call _ (text_plain (codes "before") (before_name o.before_shown) ms all))

fault_plain : (f : TextFault) (ms : Members) → ArePlain ms → ArePlain (fault_members f ms)
fault_plain f ms all =
    number_plain (codes "line") f.line _ (text_plain (codes "cause") (cause_name f.cause) _ (text_plain (codes "answer") (codes "refused") ms all))

at_plain : (cause key : List ℕ) (n : ℕ) (ms : Members) → ArePlain ms → ArePlain (at_fault cause key n ms)
at_plain cause key n ms all = number_plain key n _ (text_plain (codes "cause") cause ms all)

places_plain : (b : Broken) (ms : Members) → ArePlain ms → ArePlain (places_members b ms)
places_plain (Stranger i) ms all = at_plain (codes "stranger") (codes "place") i ms all
places_plain (Twice i) ms all = at_plain (codes "twice") (codes "place") i ms all
places_plain (Late i) ms all = at_plain (codes "late") (codes "place") i ms all
places_plain (PairMissing i) ms all = at_plain (codes "pair-missing") (codes "place") i ms all
places_plain (PairGiven i) ms all = at_plain (codes "pair-given") (codes "place") i ms all
places_plain (Illegal i) ms all = at_plain (codes "illegal") (codes "place") i ms all
places_plain (Absent k) ms all = at_plain (codes "absent") (codes "rec") k ms all
places_plain NoMemory ms all = all

broken_plain : (f : VerifyFault) (ms : Members) → ArePlain ms → ArePlain (broken_members f ms)
broken_plain (fault.DocMissing k) ms all = at_plain (codes "doc-missing") (codes "doc") k ms all
broken_plain (fault.DocTwice i) ms all = at_plain (codes "doc-twice") (codes "entry") i ms all
broken_plain (fault.DocStranger i) ms all = at_plain (codes "doc-stranger") (codes "entry") i ms all
broken_plain (fault.Broken i broken) ms all = places_plain broken _ (number_plain (codes "entry") i ms all)
broken_plain (fault.PairTwice shard pair) ms all =
    number_plain (codes "term") pair.term _ (number_plain (codes "shard") shard _ (number_plain (codes "seq") pair.seq _ (text_plain (codes "cause") (codes "pair-twice") ms all)))
broken_plain fault.NoMemory ms all = all

line_plain : (said : Reported) → ArePlain (line_members said no_members)
line_plain (reported.Yes c) = with_plain (codes "counts") (counts_of c) _ (counts_plain c) (text_plain (codes "answer") (codes "yes") no_members none_plain)
line_plain (reported.No o) = offence_plain o _ (text_plain (codes "answer") (codes "no") no_members none_plain)
line_plain (reported.Refuted e o) =
    offence_plain o _ (text_plain (codes "kind") (kind_name e) _
    (with_plain (codes "calls") (calls_of e) _ (calls_plain e) (text_plain (codes "answer") (codes "refuted") no_members none_plain)))
line_plain (reported.Refused f) = fault_plain f no_members none_plain
line_plain (reported.Verified c) = with_plain (codes "counts") (counts_of c) _ (counts_plain c) (text_plain (codes "answer") (codes "verified") no_members none_plain)
line_plain (reported.RefusedHistory f) = fault_plain f _ (text_plain (codes "text") (codes "history") no_members none_plain)
line_plain (reported.RefusedWitness f) = fault_plain f _ (text_plain (codes "text") (codes "witness") no_members none_plain)
line_plain (reported.Broken f) = broken_plain f _ (text_plain (codes "answer") (codes "broken") no_members none_plain)
line_plain (reported.BrokenGet e) =
    text_plain (codes "cause") (kind_name e) _
    (with_plain (codes "calls") (calls_of e) _ (calls_plain e) (text_plain (codes "answer") (codes "broken") no_members none_plain))

-- ---- the facts

given_plain : (key : List ℕ) (text : Option (List ℕ)) (ms : Members) → ArePlain ms → ArePlain (text_member key text ms)
given_plain key None ms all = all
given_plain key (Some text) ms all = text_plain key text ms all

proved_plain : (proved : Option Bool) (ms : Members) → ArePlain ms → ArePlain (proved_member proved ms)
proved_plain None ms all = all
proved_plain (Some proved) ms all = with_plain (codes "proved") (boolean proved) ms refl all

lines_plain : (call reply : ℕ) → has_float (lines_of call reply) ≡ false
lines_plain call reply = object_of_plain _ (number_plain (codes "reply") reply _ (number_plain (codes "call") call no_members none_plain))

broken_reply_plain : (r : Option BrokenReply) (ms : Members) → ArePlain ms → ArePlain (broken_reply_members r ms)
broken_reply_plain None ms all = all
broken_reply_plain (Some r) ms all =
    given_plain (codes "time") (option_map string_bytes r.time) _ (number_plain (codes "shard") r.shard _
    (with_plain (codes "lines") (lines_of r.call_line r.reply_line) _ (lines_plain r.call_line r.reply_line) (text_plain (codes "document") r.document ms all)))

milliseconds_plain : (n : Option ℕ) (ms : Members) → ArePlain ms → ArePlain (milliseconds_member n ms)
milliseconds_plain None ms all = all
milliseconds_plain (Some n) ms all = number_plain (codes "milliseconds") n ms all

reading_of_plain : (r : NamedReading) → has_float (reading_of r) ≡ false
reading_of_plain r =
    object_of_plain _ (text_plain (codes "writes") r.writes.now _ (text_plain (codes "gets") r.gets.now _
    (text_plain (codes "failed") r.failed.now _ (text_plain (codes "conflicts") r.conflicts.now no_members none_plain))))

reading_plain : (r : Option NamedReading) (ms : Members) → ArePlain ms → ArePlain (reading_member r ms)
reading_plain None ms all = all
reading_plain (Some r) ms all = with_plain (codes "reading") (reading_of r) ms (reading_of_plain r) all

-- the object that is written has no float
pub object_plain : (said : Reported) (facts : Facts) → has_float (object (facts_members facts (line_members said no_members))) ≡ false
object_plain said facts =
    object_of_plain _ (broken_reply_plain facts.broken_reply _ (reading_plain facts.reading _ (proved_plain facts.proved _
    (given_plain (codes "explanation") (option_map (λ t. t.now) facts.explanation) _ (given_plain (codes "witness") (option_map (λ t. t.now) facts.witness) _
    (milliseconds_plain facts.milliseconds _ (text_plain (codes "file") facts.file.now _ (line_plain said))))))))
