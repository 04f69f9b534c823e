-- What was heard of a call: which pair it took, and whether the reply says that a write was performed.
use Rattle.std.specs.Prelude.{◌≡◌, ◌≢◌, ℕ, Option, None, Some, if◌then◌else◌, nat_lt}
use Rattle.version_pair.specs.declared.pair.Pair.{Pair}
use Rattle.doc_register.specs.Run.{pair_taken}
use Rattle.doc_register.specs.declared.op.Op.TheVariants.{Get}
use Rattle.doc_register.specs.declared.reply.Reply.{Reply}
use Rattle.doc_register.specs.declared.reply.Reply.TheVariants.{Conflict}
use Rattle.doc_register.specs.declared.state.Conflicts.{Conflicts}
use Rattle.doc_register.specs.declared.state.Conflicts.TheVariants.{Maybe}
use Rattle.events.specs.declared.record.Rec.{Rec}

-- the pair that a call takes: the one that its reply shows, or, of a conflict or an unanswered call, the one
-- that is given to its place (`pair_taken`)
abbrev pub taken_by : Option (ℕ × Reply) → Option Pair → Option Pair
taken_by None given = given
taken_by (Some heard) given = pair_taken heard.1 given

-- the pair that an answered write was performed with, if its reply shows it
abbrev pub pair_of : Option (ℕ × Reply) → Option Pair
pair_of None = None
pair_of (Some heard) = pair_taken heard.1 None

-- what was heard, if its reply comes before the position of an event; otherwise nothing
abbrev pub heard_before : ℕ → Option (ℕ × Reply) → Option (ℕ × Reply)
heard_before event None = None
heard_before event (Some heard) = if nat_lt heard.0 event then Some heard else None

-- the call as it was known before an event: with what was heard before it
abbrev pub known_before : ℕ → Rec → Rec
known_before event r = record { no = r.no; op = r.op; call_at = r.call_at; heard = heard_before event r.heard }

-- a reply was heard, and it says whether a write was performed: under Maybe a conflict does not
abbrev pub ShowsOutcome : Conflicts → Option (ℕ × Reply) → Type 0
ShowsOutcome conflicts None = ⊥
ShowsOutcome conflicts (Some heard) = conflicts ≡ Maybe → heard.1 ≢ Conflict

-- the record is complete: the call is a get, or such a reply was heard (`ShowsOutcome`)
-- Source: profile.
abbrev pub IsComplete : Conflicts → Rec → Type 0
IsComplete conflicts r = r.op ≢ Get → ShowsOutcome conflicts r.heard
