-- The log of a group: writes, each after those of an earlier position, and what is held at each position.
use Rattle.std.specs.Prelude.{◌≡◌, ℕ, ◌<◌, ◌≤◌, ◌==◌, List, [], ◌∷◌, ◌++◌, Some, length, slice_get, unwrap_or}
use Rattle.std.specs.Map.{lookup}
use Rattle.repl_group.specs.declared.held_write.HeldWrite.{HeldWrite}
use Rattle.repl_group.specs.declared.write_log.Logged.{Logged}

-- what is held at the position; nothing if there is no such position
abbrev pub held_at : List (List (ℕ × HeldWrite)) → ℕ → List (ℕ × HeldWrite)
held_at sets p = unwrap_or (slice_get sets p) []

-- what is held after the write is put after its position
abbrev pub held_behind : List (List (ℕ × HeldWrite)) → Logged → List (ℕ × HeldWrite)
held_behind sets e = held_at sets e.before ++ (e.ticket, e.write) ∷ []

-- one more position for each write
abbrev pub sets_from : List (List (ℕ × HeldWrite)) → List Logged → List (List (ℕ × HeldWrite))
sets_from sets [] = sets
sets_from sets (e ∷ es) = sets_from (sets ++ held_behind sets e ∷ []) es

-- what is held at each position: nothing at position 0, and at each later one what the next write of the log
-- makes
abbrev pub held_sets : List Logged → List (List (ℕ × HeldWrite))
held_sets es = sets_from ([] ∷ []) es

-- each write comes after a position before its own, and no write of a ticket comes before the first one that
-- is kept
pub record IsLog (entries : List Logged) (first : List (ℕ × ℕ)) : Type 0 where
  pub behind : (i : ℕ) (e : Logged) → slice_get entries i ≡ Some e → e.before ≤ i
  pub found : (i : ℕ) (e : Logged) → slice_get entries i ≡ Some e → (f : ℕ) × (lookup (◌==◌ e.ticket) first ≡ Some f) × (f ≤ i)
  pub within : (t f : ℕ) → lookup (◌==◌ t) first ≡ Some f → f < length entries
