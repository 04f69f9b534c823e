-- Which copies take the writes of a new primary.
use Rattle.std.specs.Prelude.{Bool, ◌&&◌, not}
use Rattle.repl_group.specs.declared.replica.Replica.{Replica}

-- it is in sync, and not cut
abbrev pub follows : Replica → Bool
follows y = y.is_in_sync && not y.is_cut
