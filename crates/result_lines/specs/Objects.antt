-- The objects of JSON that are written in place of lines. Each ends with a line feed.
use Rattle.std.specs.Prelude.{ℕ, Bool, List, ◌++◌, Option, Some, None, codes, option_map, string_bytes}
use Rattle.serde_json.specs.Data.{Data, Members, array, boolean, item, no_items, no_members, number, object, put, unsigned}
use Rattle.serde_json.specs.Written.{compact_text}
use Rattle.api_lines.specs.Objects.{with_number, with_text}
use Rattle.api_lines.specs.declared.text_fault.TextFault.{TextFault}
use Rattle.places.specs.declared.broken.Broken.{Broken}
use Rattle.places.specs.declared.broken.Broken.TheVariants.{Stranger, Twice, Absent, Late, PairMissing, PairGiven, Illegal, NoMemory}
use Rattle.evidence.specs.declared.refuted.Refuted.{Refuted}
use Rattle.evidence.specs.declared.refuted.Refuted.TheVariants as evidence
use Rattle.compose.specs.declared.offence.Offence.{Offence}
use Rattle.compose.specs.declared.verify_fault.VerifyFault.{VerifyFault}
use Rattle.compose.specs.declared.verify_fault.VerifyFault.TheVariants as fault
use Rattle.result_lines.specs.Lines.{before_name, broken_get_line, broken_line, cause_name, kind_name, no_line, refused_file_line, refused_line, refuted_line, verified_line, yes_line}
use Rattle.result_lines.specs.declared.facts.BrokenReply.{BrokenReply}
use Rattle.result_lines.specs.declared.facts.Facts.{Facts}
use Rattle.result_lines.specs.declared.facts.NamedReading.{NamedReading}
use Rattle.result_lines.specs.declared.reported.Reported.{Reported}
use Rattle.result_lines.specs.declared.reported.Reported.TheVariants as reported
use Rattle.result_lines.specs.declared.text_counts.TextCounts.{TextCounts}

-- the line that reports it
-- Source: profile.
abbrev pub line_of : Reported → List ℕ
line_of (reported.Yes c) = yes_line c
line_of (reported.No o) = no_line o
line_of (reported.Refuted e o) = refuted_line e o
line_of (reported.Refused f) = refused_line f.line f.cause
line_of (reported.Verified c) = verified_line c
line_of (reported.RefusedHistory f) = refused_file_line (codes "history") f.line f.cause
line_of (reported.RefusedWitness f) = refused_file_line (codes "witness") f.line f.cause
line_of (reported.Broken f) = broken_line f
line_of (reported.BrokenGet e) = broken_get_line e

-- ---- the members that are those of the line; each of these adds some to others

-- `gets`, the number of gets that are judged one by one, if they are
-- Source: profile.
abbrev pub gets_member : Option ℕ → Members → Members
gets_member None ms = ms
gets_member (Some gets) ms = with_number (codes "gets") gets ms

-- the object of the counts: `calls`, `docs` and `left_out`, and `gets` if gets are judged one by one
-- Source: profile.
abbrev pub counts_of : TextCounts → Data
counts_of c =
    object (gets_member c.gets (with_number (codes "left_out") c.left_out (with_number (codes "docs") c.docs (with_number (codes "calls") c.calls no_members))))

-- the list of the numbers of two calls
-- Source: profile.
abbrev pub both_calls : ℕ → ℕ → Data
both_calls a b = array (item (number (unsigned a)) (item (number (unsigned b)) no_items))

-- the list of the numbers of the calls that evidence names, in its order
-- Source: profile.
abbrev pub calls_of : Refuted → Data
calls_of (evidence.PairTwice a b) = both_calls a b
calls_of (evidence.NoWriter g) = array (item (number (unsigned g)) no_items)
calls_of (evidence.StaleGet g w) = both_calls g w
calls_of (evidence.MissedWrite g w) = both_calls g w
calls_of (evidence.StaleSwap a b) = both_calls a b
calls_of (evidence.RuledOut n) = array (item (number (unsigned n)) no_items)

-- `before`, `call` and `event` of an offence
-- Source: profile.
abbrev pub offence_members : Offence → Members → Members
offence_members o ms =
    with_number (codes "event") o.event (with_number (codes "call") o.call (with_text (codes "before") (before_name o.before_shown) ms))

-- the answer `refused`, with `cause` and `line`
-- Source: profile.
abbrev pub fault_members : TextFault → Members → Members
fault_members f ms =
    with_number (codes "line") f.line (with_text (codes "cause") (cause_name f.cause) (with_text (codes "answer") (codes "refused") ms))

-- `cause`, and a number of this key
abbrev pub at_fault : List ℕ → List ℕ → ℕ → Members → Members
at_fault cause key n ms = with_number key n (with_text (codes "cause") cause ms)

-- `cause` of a fault of an entry's places, and `place` or `rec`; being out of memory has none
-- Source: profile.
abbrev pub places_members : Broken → Members → Members
places_members (Stranger i) ms = at_fault (codes "stranger") (codes "place") i ms
places_members (Twice i) ms = at_fault (codes "twice") (codes "place") i ms
places_members (Late i) ms = at_fault (codes "late") (codes "place") i ms
places_members (PairMissing i) ms = at_fault (codes "pair-missing") (codes "place") i ms
places_members (PairGiven i) ms = at_fault (codes "pair-given") (codes "place") i ms
places_members (Illegal i) ms = at_fault (codes "illegal") (codes "place") i ms
places_members (Absent k) ms = at_fault (codes "absent") (codes "rec") k ms
places_members NoMemory ms = ms

-- `cause` of a fault of a witness, with `doc`; with `entry`, and what a fault of its places has; or with `seq`,
-- `shard` and `term`
-- Source: profile.
abbrev pub broken_members : VerifyFault → Members → Members
broken_members (fault.DocMissing k) ms = at_fault (codes "doc-missing") (codes "doc") k ms
broken_members (fault.DocTwice i) ms = at_fault (codes "doc-twice") (codes "entry") i ms
broken_members (fault.DocStranger i) ms = at_fault (codes "doc-stranger") (codes "entry") i ms
broken_members (fault.Broken i broken) ms = places_members broken (with_number (codes "entry") i ms)
broken_members (fault.PairTwice shard pair) ms =
    with_number (codes "term") pair.term (with_number (codes "shard") shard (with_number (codes "seq") pair.seq (with_text (codes "cause") (codes "pair-twice") ms)))
broken_members fault.NoMemory ms = ms

-- The members of the line: its first word is `answer`, and each name in it that has a value is a member with
-- this value. The counts of an order are one object, `counts`; the calls of evidence are a list; and `text` says
-- which of two texts is refused.
-- Source: profile.
abbrev pub line_members : Reported → Members → Members
line_members (reported.Yes c) ms = put (codes "counts") (counts_of c) (with_text (codes "answer") (codes "yes") ms)
line_members (reported.No o) ms = offence_members o (with_text (codes "answer") (codes "no") ms)
line_members (reported.Refuted e o) ms =
    offence_members o (with_text (codes "kind") (kind_name e) (put (codes "calls") (calls_of e) (with_text (codes "answer") (codes "refuted") ms)))
line_members (reported.Refused f) ms = fault_members f ms
line_members (reported.Verified c) ms = put (codes "counts") (counts_of c) (with_text (codes "answer") (codes "verified") ms)
line_members (reported.RefusedHistory f) ms = fault_members f (with_text (codes "text") (codes "history") ms)
line_members (reported.RefusedWitness f) ms = fault_members f (with_text (codes "text") (codes "witness") ms)
line_members (reported.Broken f) ms = broken_members f (with_text (codes "answer") (codes "broken") ms)
line_members (reported.BrokenGet e) ms =
    with_text (codes "cause") (kind_name e) (put (codes "calls") (calls_of e) (with_text (codes "answer") (codes "broken") ms))

-- ---- the other members

-- a text of this key, if there is one
-- Source: profile.
abbrev pub text_member : List ℕ → Option (List ℕ) → Members → Members
text_member key None ms = ms
text_member key (Some text) ms = with_text key text ms

-- `proved`, if the answer is one that an order explains the history or that none does
-- Source: profile.
abbrev pub proved_member : Option Bool → Members → Members
proved_member None ms = ms
proved_member (Some proved) ms = put (codes "proved") (boolean proved) ms

-- the object of the lines of a call and its reply
-- Source: profile.
abbrev pub lines_of : ℕ → ℕ → Data
lines_of call reply = object (with_number (codes "reply") reply (with_number (codes "call") call no_members))

-- `document`, `lines` and `shard` of the reply at which the search first fails, and its `time`
-- Source: profile.
abbrev pub broken_reply_members : Option BrokenReply → Members → Members
broken_reply_members None ms = ms
broken_reply_members (Some r) ms =
    text_member (codes "time") (option_map string_bytes r.time)
    (with_number (codes "shard") r.shard (put (codes "lines") (lines_of r.call_line r.reply_line) (with_text (codes "document") r.document ms)))

-- `milliseconds`, if they are known
-- Source: profile.
abbrev pub milliseconds_member : Option ℕ → Members → Members
milliseconds_member None ms = ms
milliseconds_member (Some n) ms = with_number (codes "milliseconds") n ms

-- the object of a reading: by the name of each option its value
-- Source: profile.
abbrev pub reading_of : NamedReading → Data
reading_of r =
    object (with_text (codes "writes") r.writes.now (with_text (codes "gets") r.gets.now (with_text (codes "failed") r.failed.now (with_text (codes "conflicts") r.conflicts.now no_members))))

-- `reading`, if one is named
-- Source: profile.
abbrev pub reading_member : Option NamedReading → Members → Members
reading_member None ms = ms
reading_member (Some r) ms = put (codes "reading") (reading_of r) ms

-- the facts: `file`, and what there is of the others
-- Source: profile.
abbrev pub facts_members : Facts → Members → Members
facts_members f ms =
    broken_reply_members f.broken_reply
    (reading_member f.reading
    (proved_member f.proved
    (text_member (codes "explanation") (option_map (λ t. t.now) f.explanation)
    (text_member (codes "witness") (option_map (λ t. t.now) f.witness) (milliseconds_member f.milliseconds (with_text (codes "file") f.file.now ms))))))

-- the text that is written: the object, and a line feed
-- Source: profile.
abbrev pub object_text : Reported → Facts → List ℕ
object_text said facts = compact_text (object (facts_members facts (line_members said no_members))) ++ codes "\n"
