-- The way back: what is found in the history that is judged is reported of the calls and events of the text.
use Rattle.std.specs.Prelude.{◌≡◌, ◌/◌, ℕ, List, Option, Some, None, IsTrue, option_map, slice_get, unwrap_or}
use Rattle.events.specs.declared.event.Event.{Event}
use Rattle.events.specs.declared.event.Event.TheVariants.{Call, Reply, Lost}
use Rattle.events.specs.Events.{is_ending, place_of}
use Rattle.evidence.specs.declared.refuted.Refuted.{Refuted}
use Rattle.evidence.specs.declared.refuted.Refuted.TheVariants as evidence
use Rattle.history.specs.declared.text_read.TextRead.{TextRead}
use Rattle.history.specs.declared.text_rules.Writes.{Writes}
use Rattle.history.specs.declared.text_rules.Writes.TheVariants as writes
use Rattle.readings.specs.Reading.{leaves_events}
use Rattle.readings.specs.declared.reading.Reading.{Reading}

-- the number of the call of an event
abbrev pub number_of : Event → ℕ
number_of (Call h n d op) = n
number_of (Reply n r) = n
number_of (Lost n) = n

-- The number in the text of the call that has the number n in what is judged. If writes may be performed twice, both
-- attempts of the call at the position i have numbers whose half is i.
-- Source: profile.
abbrev pub number_in_text : Writes → List Event → ℕ → ℕ
number_in_text writes.Once events n = n
number_in_text writes.Repeated events n = unwrap_or (option_map number_of (slice_get events (n / 2))) 0

-- The position in the text of the reply at the position i of what is judged, if it answers the call that has the
-- number n in the text.
-- Source: profile.
abbrev pub reply_in_text : Writes → List Event → ℕ → ℕ → ℕ
reply_in_text writes.Once events i n = i
reply_in_text writes.Repeated events i n = unwrap_or (place_of (is_ending n) events) 0

-- the evidence with the numbers of its calls in the text
-- Source: profile.
abbrev pub evidence_in_text : Writes → List Event → Refuted → Refuted
evidence_in_text w events (evidence.PairTwice a b) = evidence.PairTwice (number_in_text w events a) (number_in_text w events b)
evidence_in_text w events (evidence.NoWriter g) = evidence.NoWriter (number_in_text w events g)
evidence_in_text w events (evidence.StaleGet g x) = evidence.StaleGet (number_in_text w events g) (number_in_text w events x)
evidence_in_text w events (evidence.MissedWrite g x) = evidence.MissedWrite (number_in_text w events g) (number_in_text w events x)
evidence_in_text w events (evidence.StaleSwap a b) = evidence.StaleSwap (number_in_text w events a) (number_in_text w events b)
evidence_in_text w events (evidence.RuledOut n) = evidence.RuledOut (number_in_text w events n)

-- What is kept of a text beside the history that is judged: what was read of it; nothing only if the reading leaves
-- the events as they are, which then are the history that is judged.
-- Source: profile.
abbrev pub IsKept : Reading → TextRead → List Event → Option TextRead → Type 0
IsKept reading read judged None = (judged ≡ read.history) × IsTrue (leaves_events reading)
IsKept reading read judged (Some text) = text ≡ read
