-- The lines that are written as answers. Numbers are in decimal, and each line ends with a line feed.
use Rattle.std.specs.Prelude.{ℕ, Bool, true, false, List, [], ◌++◌, ◌==◌, Option, Some, None, codes, decimal, if◌then◌else◌}
use Rattle.api_lines.specs.declared.text_fault.TextCause.{TextCause}
use Rattle.api_lines.specs.declared.text_fault.TextCause.TheVariants.{Long, Lines, Json, Shape, Id, Range, Half, Stranger, SecondCall, NoCall, Ended, Full, ShardMoved}
use Rattle.api_lines.specs.declared.bulk_fault.BulkFault.{BulkFault}
use Rattle.api_lines.specs.declared.bulk_fault.BulkFault.TheVariants as bulk
use Rattle.places.specs.declared.broken.Broken.{Broken}
use Rattle.places.specs.declared.broken.Broken.TheVariants.{Stranger as StrangePlace, Twice, Absent, Late, PairMissing, PairGiven, Illegal, NoMemory}
use Rattle.evidence.specs.declared.refuted.Refuted.{Refuted}
use Rattle.evidence.specs.declared.refuted.Refuted.TheVariants as evidence
use Rattle.compose.specs.declared.verify_fault.VerifyFault.{VerifyFault}
use Rattle.compose.specs.declared.verify_fault.VerifyFault.TheVariants as fault
use Rattle.compose.specs.declared.offence.Offence.{Offence}
use Rattle.result_lines.specs.declared.text_counts.TextCounts.{TextCounts}

-- the printed name of a cause: `long`, `lines`, `json`, `shape`, `id`, `range`, `half`, `stranger`,
-- `second-call`, `no-call`, `ended`, `full` or `shard-moved`
-- Source: profile.
abbrev pub cause_name : TextCause → List ℕ
cause_name Long = codes "long"
cause_name Lines = codes "lines"
cause_name Json = codes "json"
cause_name Shape = codes "shape"
cause_name Id = codes "id"
cause_name Range = codes "range"
cause_name Half = codes "half"
cause_name Stranger = codes "stranger"
cause_name SecondCall = codes "second-call"
cause_name NoCall = codes "no-call"
cause_name Ended = codes "ended"
cause_name Full = codes "full"
cause_name ShardMoved = codes "shard-moved"

-- the end of a line with counts: ` gets=G` if gets are judged one by one, G of them, and a line feed
-- Source: profile.
abbrev pub gets_end : Option ℕ → List ℕ
gets_end None = codes "\n"
gets_end (Some gets) = codes " gets=" ++ (decimal gets ++ codes "\n")

-- the line `yes docs=D calls=C left_out=L` of the numbers of documents, of calls, and of calls that are left
-- out, with that of the gets that are judged one by one
-- Source: profile.
abbrev pub yes_line : TextCounts → List ℕ
yes_line c =
    codes "yes docs=" ++ (decimal c.docs ++ (codes " calls=" ++ (decimal c.calls ++ (codes " left_out=" ++ (decimal c.left_out ++ gets_end c.gets)))))

-- the word `shown` or `unshown`: whether the events before the offence have an order
-- Source: profile.
abbrev pub before_name : Bool → List ℕ
before_name true = codes "shown"
before_name false = codes "unshown"

-- the line `no event=E call=N before=B` of an offence
-- Source: profile.
abbrev pub no_line : Offence → List ℕ
no_line o =
    codes "no event=" ++ (decimal o.event ++ (codes " call=" ++ (decimal o.call ++ (codes " before=" ++ (before_name o.before_shown ++ codes "\n")))))

-- the printed name of a kind of evidence: `pair-twice`, `no-writer`, `stale-get`,
-- `missed-write`, `stale-swap` or `ruled-out`
-- Source: profile.
abbrev pub kind_name : Refuted → List ℕ
kind_name (evidence.PairTwice a b) = codes "pair-twice"
kind_name (evidence.NoWriter g) = codes "no-writer"
kind_name (evidence.StaleGet g w) = codes "stale-get"
kind_name (evidence.MissedWrite g w) = codes "missed-write"
kind_name (evidence.StaleSwap a b) = codes "stale-swap"
kind_name (evidence.RuledOut n) = codes "ruled-out"

-- the numbers of two calls, with a comma between
-- Source: profile.
abbrev pub both_numbers : ℕ → ℕ → List ℕ
both_numbers a b = decimal a ++ (codes "," ++ decimal b)

-- the numbers of the calls that evidence names, in its order
-- Source: profile.
abbrev pub call_numbers : Refuted → List ℕ
call_numbers (evidence.PairTwice a b) = both_numbers a b
call_numbers (evidence.NoWriter g) = decimal g
call_numbers (evidence.StaleGet g w) = both_numbers g w
call_numbers (evidence.MissedWrite g w) = both_numbers g w
call_numbers (evidence.StaleSwap a b) = both_numbers a b
call_numbers (evidence.RuledOut n) = decimal n

-- the line `refuted kind=K calls=A,B event=E call=N before=B` of evidence and an offence; calls has one
-- number if the evidence is one call
-- Source: profile.
abbrev pub refuted_line : Refuted → Offence → List ℕ
refuted_line e o =
    codes "refuted kind=" ++ (kind_name e ++ (codes " calls=" ++ (call_numbers e ++ (codes " event=" ++ (decimal o.event ++ (codes " call=" ++ (decimal o.call ++ (codes " before=" ++ (before_name o.before_shown ++ codes "\n")))))))))

-- the line `refused line=L cause=C` of the number of a line and the name of its cause
-- Source: profile.
abbrev pub refused_line : ℕ → TextCause → List ℕ
refused_line line cause = codes "refused line=" ++ (decimal line ++ (codes " cause=" ++ (cause_name cause ++ codes "\n")))

-- the line `verified docs=D calls=C left_out=L` of the numbers, as in `yes_line`
-- Source: profile.
abbrev pub verified_line : TextCounts → List ℕ
verified_line c =
    codes "verified docs=" ++ (decimal c.docs ++ (codes " calls=" ++ (decimal c.calls ++ (codes " left_out=" ++ (decimal c.left_out ++ gets_end c.gets)))))

-- the line `broken cause=K calls=G,W` of evidence that nothing explains a get, which is judged by itself
-- Source: profile.
abbrev pub broken_get_line : Refuted → List ℕ
broken_get_line e = codes "broken cause=" ++ (kind_name e ++ (codes " calls=" ++ (call_numbers e ++ codes "\n")))

-- the line `refused file=F line=L cause=C` of one of two texts, the history's or the witness's
-- Source: profile.
abbrev pub refused_file_line : List ℕ → ℕ → TextCause → List ℕ
refused_file_line file line cause =
    codes "refused file=" ++ (file ++ (codes " line=" ++ (decimal line ++ (codes " cause=" ++ (cause_name cause ++ codes "\n")))))

-- the line `broken entry=E cause=C place=I` of an entry with a fault at one of its places
abbrev pub broken_place_line : ℕ → List ℕ → ℕ → List ℕ
broken_place_line entry name i =
    codes "broken entry=" ++ (decimal entry ++ (codes " cause=" ++ (name ++ (codes " place=" ++ (decimal i ++ codes "\n")))))

-- the line `broken entry=E cause=C` of an entry with a fault of its own
abbrev pub broken_entry_line : ℕ → List ℕ → List ℕ
broken_entry_line entry name = codes "broken entry=" ++ (decimal entry ++ (codes " cause=" ++ (name ++ codes "\n")))

-- The line of a fault of an entry's places: that of its place, with the cause `stranger`, `twice`, `late`,
-- `pair-missing`, `pair-given` or `illegal`; or `broken entry=E cause=absent rec=R`. Being out of memory has
-- no line.
-- Source: profile.
abbrev pub broken_places_line : ℕ → Broken → List ℕ
broken_places_line entry (StrangePlace i) = broken_place_line entry (codes "stranger") i
broken_places_line entry (Twice i) = broken_place_line entry (codes "twice") i
broken_places_line entry (Late i) = broken_place_line entry (codes "late") i
broken_places_line entry (PairMissing i) = broken_place_line entry (codes "pair-missing") i
broken_places_line entry (PairGiven i) = broken_place_line entry (codes "pair-given") i
broken_places_line entry (Illegal i) = broken_place_line entry (codes "illegal") i
broken_places_line entry (Absent k) =
    codes "broken entry=" ++ (decimal entry ++ (codes " cause=absent rec=" ++ (decimal k ++ codes "\n")))
broken_places_line entry NoMemory = []

-- the end of a line that reports a pair: ` shard=H` if the shard isn't 0, and a line feed
-- Source: profile.
abbrev pub shard_end : ℕ → List ℕ
shard_end h = if h == 0 then codes "\n" else codes " shard=" ++ (decimal h ++ codes "\n")

-- The line of a witness that doesn't cover its history: `broken doc=I cause=doc-missing`; that of an entry
-- with the cause `doc-twice` or `doc-stranger`; that of a fault of its places; or `broken term=T seq=S
-- cause=pair-twice` with the end of its shard. Being out of memory has no line.
-- Source: profile.
abbrev pub broken_line : VerifyFault → List ℕ
broken_line (fault.DocMissing k) = codes "broken doc=" ++ (decimal k ++ codes " cause=doc-missing\n")
broken_line (fault.DocTwice i) = broken_entry_line i (codes "doc-twice")
broken_line (fault.DocStranger i) = broken_entry_line i (codes "doc-stranger")
broken_line (fault.Broken i broken) = broken_places_line i broken
broken_line (fault.PairTwice shard pair) =
    codes "broken term=" ++ (decimal pair.term ++ (codes " seq=" ++ (decimal pair.seq ++ (codes " cause=pair-twice" ++ shard_end shard))))
broken_line fault.NoMemory = []

-- the line `refused line=L cause=C` of the body of a bulk request, or of its reply
abbrev pub refused_bulk_line : ℕ → List ℕ → List ℕ
refused_bulk_line line name = codes "refused line=" ++ (decimal line ++ (codes " cause=" ++ (name ++ codes "\n")))

-- The line of a bulk that is refused: that of a line, with the cause `syntax`, `action`, `source`, `half` or
-- `range`; `refused cause=count`; or `refused item=I cause=kind`. Being out of memory has no line.
-- Source: profile.
abbrev pub bulk_fault_line : BulkFault → List ℕ
bulk_fault_line (bulk.Syntax n) = refused_bulk_line n (codes "syntax")
bulk_fault_line (bulk.Action n) = refused_bulk_line n (codes "action")
bulk_fault_line (bulk.Source n) = refused_bulk_line n (codes "source")
bulk_fault_line (bulk.Half n) = refused_bulk_line n (codes "half")
bulk_fault_line (bulk.Range n) = refused_bulk_line n (codes "range")
bulk_fault_line bulk.Count = codes "refused cause=count\n"
bulk_fault_line (bulk.Kind i) = codes "refused item=" ++ (decimal i ++ codes " cause=kind\n")
bulk_fault_line bulk.NoMemory = []
