-- What a pen keeps beside its list, and what that says of the list.
use Rattle.std.specs.Prelude.{◌≡◌, ℕ, ◌<◌, ◌==◌, Bool, false, true, List, Option, Some, None, All, cond, map, option_map, slice_get, take}
use Rattle.std.specs.Map.{lookup}
use Rattle.events.specs.declared.event.Event.{Event}
use Rattle.events.specs.declared.event.Event.TheVariants.{Call, Reply, Lost}
use Rattle.events.specs.Refusal.{op_of}
use Rattle.recorder.specs.declared.own_call.OwnCall.{OwnCall}
use Rattle.recorder.specs.declared.unnumbered.Unnumbered.{Unnumbered}
use Rattle.recorder.specs.declared.unnumbered.Unnumbered.TheVariants as bare
use Rattle.recorder.specs.Pens.{IsRising, PenState, events_in, is_ended, refusal_of}

-- the event under its number; a call is numbered by it, on shard 0
abbrev pub numbered : Unnumbered → ℕ → Event
numbered (bare.Call d op) n = Call 0 n d op
numbered (bare.Reply m r) n = Reply m r
numbered (bare.Lost m) n = Lost m

-- what notes are: a pen's state, and whether there is room for one more entry
pub record NotesState : Type 0 where
  pub pen : PenState
  pub has_room : Bool

-- an event as it is recorded under the number n: a call is numbered by it, on shard 0; an ending is of an
-- earlier number
abbrev pub IsEntryAt : ℕ → Event → Type 0
IsEntryAt n (Call h m d op) = (m ≡ n) × (h ≡ 0)
IsEntryAt n (Reply m r) = m < n
IsEntryAt n (Lost m) = m < n

-- what the list says of the call numbered n
abbrev pub own_call_of : List (ℕ × Event) → ℕ → Option OwnCall
own_call_of list n = option_map (λ op. record { op = op; is_ended = is_ended list n }) (op_of (events_in list) n)

-- the call is added under the number, and what is kept under each other number stays as it was
abbrev pub IsNotedAt : ℕ → OwnCall → List (ℕ × OwnCall) → List (ℕ × OwnCall) → Type 0
IsNotedAt n call old new = (q : ℕ) → lookup (◌==◌ q) new ≡ cond (n == q) (Some call) (lookup (◌==◌ q) old)

-- the event is added: a call under the number, an ending with its call
abbrev pub NotesEvent : Unnumbered → ℕ → List (ℕ × OwnCall) → List (ℕ × OwnCall) → Type 0
NotesEvent (bare.Call d op) n old new = IsNotedAt n (record { op = op; is_ended = false }) old new
NotesEvent (bare.Reply m r) n old new = (call : OwnCall) → lookup (◌==◌ m) old ≡ Some call → IsNotedAt m (record call { is_ended = true }) old new
NotesEvent (bare.Lost m) n old new = (call : OwnCall) → lookup (◌==◌ m) old ≡ Some call → IsNotedAt m (record call { is_ended = true }) old new

-- the numbers of the entries
abbrev pub numbers_of : List (ℕ × Event) → List ℕ
numbers_of list = map (λ entry. entry.0) list

-- A pen's list: the numbers rise, each entry has the form that recording gives it, and the entries before it
-- permit it.
pub record IsPenList (list : List (ℕ × Event)) : Type 0 where
  pub rising : IsRising list
  pub formed : All (λ entry. IsEntryAt entry.0 entry.1) list
  pub accepted : (i : ℕ) (entry : ℕ × Event) → slice_get list i ≡ Some entry → refusal_of (take i list) entry.1 ≡ None

-- It is a pen's list, and the calls have under each number what the list says of its call.
pub record AreNoted (list : List (ℕ × Event)) (calls : List (ℕ × OwnCall)) : Type 0 where
  pub list_kept : IsPenList list
  pub found : (n : ℕ) → lookup (◌==◌ n) calls ≡ own_call_of list n
