-- What is next in a strand, while lists are merged, and which lists can be merged.
use Rattle.std.specs.Prelude.{◌≡◌, ℕ, List, Option, Some, None, length, option_map, slice_get, take}
use Rattle.std.specs.List.{sum_by}
use Rattle.events.specs.declared.event.Event.{Event}
use Rattle.events.specs.Refusal.{refusal_of}
use Rattle.recorder.specs.Clock.{numbers_below}
use Rattle.recorder.specs.Recordings.{entries_of}
use Rattle.recorder.specs.aids.Notes.{numbers_of}

-- the number of the first entry
abbrev pub next_number : List (ℕ × Event) → Option ℕ
next_number entries = option_map (λ entry. entry.0) (slice_get entries 0)

-- The entries of the lists together have the numbers below the number of entries, each once: whatever is
-- summed over either, the sum is the same.
abbrev pub AreDense : List (List (ℕ × Event)) → Type 0
AreDense lists = (f : ℕ → ℕ) → sum_by f (numbers_of (entries_of lists)) ≡ sum_by f (numbers_below (length (entries_of lists)))

-- no event is refused by the history of those before it
abbrev pub AreAccepted : List Event → Type 0
AreAccepted events = (i : ℕ) (e : Event) → slice_get events i ≡ Some e → refusal_of (take i events) e ≡ None
