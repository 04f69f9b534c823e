-- What a prefix keeps beside its history, and how it is cut from it: aids of its type and its contracts.
use Rattle.std.specs.Prelude.{◌≡◌, ℕ, ◌≤◌, List, [], ◌∷◌, length, take, Option, Some, None, Bool, false, nat_lt, if◌then◌else◌}
use Rattle.events.specs.declared.event.Event.{Event}
use Rattle.events.specs.Events.{documents_of}

-- the first events up to the end, with the number of their documents
pub record IsFront (events : List Event) (end docs : ℕ) : Type 0 where
  pub within : end ≤ length events
  pub documents : docs ≡ length (documents_of (take end events))

-- the number, if it is below the bound
abbrev pub when_below : ℕ → Option ℕ → Option ℕ
when_below bound None = None
when_below bound (Some i) = if nat_lt i bound then Some i else None

-- the first of the positions is below the bound
abbrev pub starts_below : ℕ → List ℕ → Bool
starts_below bound [] = false
starts_below bound (p ∷ ps) = nat_lt p bound
