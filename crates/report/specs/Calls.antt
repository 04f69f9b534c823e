-- How many calls a history has that is answered with yes.
use Rattle.std.specs.Prelude.{◌≡◌, ◌≢◌, ℕ, List, Option, MatchOption}
use Rattle.compose.specs.Counts.{calls_of}
use Rattle.events.specs.declared.event.Event.{Event}
use Rattle.history.specs.Text.{IsHistoryText}
use Rattle.stream_io.specs.declared.status.Status.{Status}
use Rattle.stream_io.specs.declared.status.Status.TheVariants.{Yes}

-- the input is the text of a history with that many calls
-- Source: profile.
abbrev pub HasCalls : List ℕ → ℕ → Type 0
HasCalls input n = (events : List Event) × IsHistoryText input events × (calls_of events ≡ n)

-- the number of calls that comes with an answer: that of the history if the answer is yes, and else none
abbrev pub CountsCalls : List ℕ → Status → Option ℕ → Type 0
CountsCalls input status calls = MatchOption calls (status ≢ Yes) (λ n. (status ≡ Yes) × HasCalls input n)
