-- How far clients are that are played in turns.
use Rattle.std.specs.Prelude.{◌≡◌, ℕ, ◌+◌, ◌-◌, ◌*◌, ◌<◌, All, Bool, true, false, List, length, sum_by}
use Rattle.workload.specs.Playing.{IsPlayedOut}
use Rattle.workload.specs.aids.Seats.{turns_of, visits_for}
use Rattle.workload.specs.declared.player.Player.{Player}
use Rattle.workload.specs.declared.turn.Turn.{Turn}

-- the greatest number of visits that a client takes: for each turn that isn't begun one that begins it, and
-- those of its call
abbrev pub visits_owed : List (List Turn) → ℕ → Player → ℕ
visits_owed clients polls player = (length (turns_of clients player.client) - player.begun) * (polls + 2) + visits_for player.open_call

-- If there was something to do at a visit, fewer visits are left after it; otherwise the client is done, and
-- nothing has changed.
pub record Advances (polls : ℕ) (clients : List (List Turn)) (old new : Player) (acted : Bool) : Type 0 where
  pub same_client : new.client ≡ old.client
  pub fewer : acted ≡ true → visits_owed clients polls new < visits_owed clients polls old
  pub done : acted ≡ false → (new ≡ old) × IsPlayedOut clients old

-- the same for a round
pub record AdvanceEach (polls : ℕ) (clients : List (List Turn)) (old new : List Player) (acted : Bool) : Type 0 where
  pub fewer : acted ≡ true → sum_by (visits_owed clients polls) new < sum_by (visits_owed clients polls) old
  pub done : acted ≡ false → (new ≡ old) × All (IsPlayedOut clients) old
