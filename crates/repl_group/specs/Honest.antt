-- What holds of an honest group at each moment.
use Rattle.std.specs.Prelude.{◌≡◌, ℕ, ◌<◌, ◌==◌, List, Option, Some, None, slice_get, true}
use Rattle.std.specs.Map.{lookup}
use Rattle.version_pair.specs.declared.pair.Pair.{Pair}
use Rattle.doc_register.specs.Run.{pair_taken}
use Rattle.repl_group.specs.declared.fault.Fault.TheVariants as fault
use Rattle.repl_group.specs.declared.request.Request.{Request}
use Rattle.repl_group.specs.declared.request.Stage.{Stage}
use Rattle.repl_group.specs.declared.request.Stage.TheVariants.{Queued, InFlight, Answered, Lost}
use Rattle.repl_group.specs.Copies.{ShardCopy}
use Rattle.repl_group.specs.declared.step.Step.{Step}
use Rattle.repl_group.specs.Group.{GroupState, IsRun, start, write_of}

-- the pair that was given to the ticket, if one was: while it is in flight, when it is answered Indexed or
-- Deleted, and after it is lost
abbrev pub pair_given : Stage → Option Pair
pair_given Queued = None
pair_given (InFlight q before) = Some q
pair_given (Answered r) = pair_taken r None
pair_given (Lost q) = Some q

-- the pair of a write that is answered Indexed or Deleted
abbrev pub pair_acknowledged : Stage → Option Pair
pair_acknowledged Queued = None
pair_acknowledged (InFlight q before) = None
pair_acknowledged (Answered r) = pair_taken r None
pair_acknowledged (Lost q) = None

-- no pair is given to two tickets
-- Source: profile.
abbrev pub GivesNoPairTwice : GroupState → Type 0
GivesNoPairTwice w = (t u : ℕ) (x y : Request) (q : Pair) → slice_get w.requests t ≡ Some x → slice_get w.requests u ≡ Some y
    → pair_given x.stage ≡ Some q → pair_given y.stage ≡ Some q → t ≡ u

-- each copy in sync holds, under its ticket, each write that is answered Indexed or Deleted: its document,
-- its operation, and the pair of that answer
-- Source: profile.
abbrev pub HoldsAcknowledged : GroupState → Type 0
HoldsAcknowledged w = (t c : ℕ) (x : Request) (y : ShardCopy) (q : Pair) → slice_get w.requests t ≡ Some x → slice_get w.copies c ≡ Some y
    → pair_acknowledged x.stage ≡ Some q → y.is_in_sync ≡ true → lookup (◌==◌ t) y.writes ≡ Some (write_of x q)

-- the group is honest
pub record IsHonest (w : GroupState) : Type 0 where
  -- no pair is given to two tickets
  pub pairs : GivesNoPairTwice w
  -- each copy in sync holds each write that is answered Indexed or Deleted
  pub acknowledged : HoldsAcknowledged w

-- if the group's fault is None, the group is honest
abbrev pub IsHonestUnlessFaulty : GroupState → Type 0
IsHonestUnlessFaulty w = w.fault ≡ fault.None → IsHonest w

-- whatever steps a group with the fault None and at least one copy takes from its start, it is honest after
-- them
-- Source: profile.
pub record HonestGroups : Type 0 where
  -- the number of copies and the steps may be any
  pub always : (count : ℕ) (steps : List Step) (n : GroupState) → 0 < count → IsRun (start fault.None count) steps n → IsHonest n
