-- What always holds of the machine of a group.
use Rattle.std.specs.Prelude.{ℕ, ◌<◌, ◌≤◌, ◌^◌, List, length}
use Rattle.repl_group.specs.Group.{IsCopyCount}
use Rattle.repl_group.specs.Copies.{ShardCopy}

pub record IsFormed (term primary : ℕ) (copies : List ShardCopy) : Type 0 where
  pub term_from_one : 1 ≤ term
  pub term_fits : term < 2 ^ 63
  pub count : IsCopyCount (length copies)
  pub primary_there : primary < length copies
