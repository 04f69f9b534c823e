-- What a command came to, beside what it wrote.
use Rattle.std.specs.Prelude.{◌<◌, ◌≤◌, ℕ, List}
use Rattle.casbench.specs.declared.outcome.Outcome.{Outcome}
use Rattle.casbench.specs.declared.outcome.Outcome.TheVariants.{Answered, TooFew}
use Rattle.report.specs.Calls.{HasCalls}
use Rattle.stream_io.specs.declared.status.Status.{Status}
use Rattle.stream_io.specs.declared.status.Status.TheVariants.{Yes, No, Refuted, Refused}

-- the status of what was written: `TooFew` was answered yes
-- Source: profile.
abbrev pub status_of : Outcome → Status
status_of (Answered status) = status
status_of TooFew = Yes

-- it is an answer, with a status for which P holds, and not `TooFew`
-- Source: profile.
abbrev pub IsAnswerWith : (Status → Type 0) → Outcome → Type 0
IsAnswerWith P (Answered status) = P status
IsAnswerWith P TooFew = ⊥

-- The outcome of a check that asks for at least that many calls: `TooFew` if the input got yes and has fewer;
-- a yes otherwise has as many or more.
-- Source: profile.
abbrev pub IsJudged : ℕ → List ℕ → Outcome → Type 0
IsJudged least input TooFew = (n : ℕ) × HasCalls input n × (n < least)
IsJudged least input (Answered Yes) = (n : ℕ) × HasCalls input n × (least ≤ n)
IsJudged least input (Answered No) = Unit {0}
IsJudged least input (Answered Refuted) = Unit {0}
IsJudged least input (Answered Refused) = Unit {0}
