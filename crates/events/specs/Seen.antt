-- The greatest term and the greatest sequence number that a history names.
use Rattle.std.specs.Prelude.{List, Option, Some, None, fold, max}
use Rattle.version_pair.specs.declared.pair.Pair.{Pair}
use Rattle.doc_register.specs.Register.{condition_of, pair_of_reply}
use Rattle.events.specs.declared.event.Event.{Event}
use Rattle.events.specs.declared.event.Event.TheVariants.{Call, Reply, Lost}
use Rattle.events.specs.declared.seen.Seen.{Seen}

-- the pair that an event names: the condition of a call, or the pair of a reply
abbrev pub pair_named : Event → Option Pair
pair_named (Call h n d op) = condition_of op
pair_named (Reply n r) = pair_of_reply r
pair_named (Lost n) = None

-- the greatest numbers with those of one more pair, if there is one
-- Source: profile.
abbrev pub seen_with : Seen → Option Pair → Seen
seen_with seen None = seen
seen_with seen (Some p) = record { term = max seen.term p.term; seq = max seen.seq p.seq }

-- The greatest term and the greatest sequence number of all the pairs that the events name, 0 and 0 if they
-- name none.
-- Source: profile.
abbrev pub seen_in : List Event → Seen
seen_in events = fold (λ seen e. seen_with seen (pair_named e)) (record { term = 0; seq = 0 }) events
