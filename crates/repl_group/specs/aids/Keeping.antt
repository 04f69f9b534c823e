-- What is kept of each copy: its position in the log, and what is kept beside it.
use Rattle.std.specs.Prelude.{◌≡◌, ℕ, ◌<◌, true, false, List, [], Some, if◌then◌else◌, length, slice_get}
use Rattle.repl_group.specs.declared.held_write.HeldWrite.{HeldWrite}
use Rattle.repl_group.specs.declared.replica.Replica.{Replica}
use Rattle.repl_group.specs.declared.copy_flags.CopyFlags.{CopyFlags}
use Rattle.repl_group.specs.Copies.{ShardCopy}
use Rattle.repl_group.specs.aids.Holding.{HeldState}
use Rattle.repl_group.specs.aids.Logging.{held_at}
use Rattle.repl_group.specs.aids.Tracking.{AreNoted}

-- the copy that is kept in this way
abbrev pub copy_of : List (List (ℕ × HeldWrite)) → Replica → ShardCopy
copy_of sets y = record { writes = held_at sets y.held.place; is_cut = y.is_cut; is_in_sync = y.is_in_sync }

-- the state of the copy in the group
abbrev pub flags_of : ShardCopy → CopyFlags
flags_of y = record { is_cut = y.is_cut; is_in_sync = y.is_in_sync }

-- the position exists, and what is held there is kept beside it
pub record IsKept (sets : List (List (ℕ × HeldWrite))) (held : HeldState) : Type 0 where
  pub there : held.place < length sets
  pub noted : AreNoted (held_at sets held.place) held.documents held.next_seq

-- each copy is kept in this way
pub record AreKept (sets : List (List (ℕ × HeldWrite))) (replicas : List Replica) : Type 0 where
  pub kept : (c : ℕ) (y : Replica) → slice_get replicas c ≡ Some y → IsKept sets y.held

-- a copy that holds nothing, in sync and reached
abbrev pub new_replica : Replica
new_replica = record { held = record { place = 0; documents = []; next_seq = 0 }; is_cut = false; is_in_sync = true }

-- a copy after another one that holds this became the primary
abbrev pub taken_by : HeldState → Replica → Replica
taken_by held z = if z.is_in_sync then (if z.is_cut then record z { is_in_sync = false } else record z { held = held }) else z
