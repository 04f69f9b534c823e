-- What the steps of an honest group preserve.
use Rattle.std.specs.Prelude.{◌≡◌, ℕ, ◌≤◌, ◌==◌, List, Some, false, slice_get, true}
use Rattle.std.specs.Map.{lookup}
use Rattle.version_pair.specs.declared.pair.Pair.{Pair}
use Rattle.doc_register.specs.declared.state.DocState.{DocState}
use Rattle.repl_group.specs.declared.fault.Fault.TheVariants as fault
use Rattle.repl_group.specs.declared.held_write.HeldWrite.{HeldWrite}
use Rattle.repl_group.specs.declared.request.Request.{Request}
use Rattle.repl_group.specs.Copies.{ShardCopy, holds}
use Rattle.repl_group.specs.Group.{GroupState, write_of}
use Rattle.repl_group.specs.Honest.{pair_acknowledged, pair_given}
use Rattle.repl_group.specs.Operations.{is_get}
use Rattle.repl_group.specs.Requests.{flight_of}

-- the write under the ticket is that of its request, with the pair that it was given
pub record IsOwn (requests : List Request) (t : ℕ) (write : HeldWrite) : Type 0 where
  pub request : Request
  pub found : slice_get requests t ≡ Some request
  pub given : pair_given request.stage ≡ Some write.pair
  pub same : write ≡ write_of request write.pair

pub record IsSound (term primary : ℕ) (requests : List Request) (copies : List ShardCopy) : Type 0 where
  -- the primary exists, and is in sync
  pub leads : (y : ShardCopy) × (slice_get copies primary ≡ Some y) × (y.is_in_sync ≡ true)
  -- a pair has at most the term, and if it has exactly the term, the primary holds its write
  pub terms : (t : ℕ) (x : Request) (q : Pair) → slice_get requests t ≡ Some x → pair_given x.stage ≡ Some q → q.term ≤ term
  pub recent : (t : ℕ) (x : Request) (q : Pair) (y : ShardCopy) → slice_get requests t ≡ Some x → pair_given x.stage ≡ Some q → q.term ≡ term
      → slice_get copies primary ≡ Some y → holds y.writes t ≡ true
  -- what a copy holds was asked for
  pub own : (c t : ℕ) (y : ShardCopy) (write : HeldWrite) → slice_get copies c ≡ Some y → lookup (◌==◌ t) y.writes ≡ Some write → IsOwn requests t write
  -- what is in flight is a write
  pub writes : (t : ℕ) (x : Request) (q : Pair) (before : DocState) → slice_get requests t ≡ Some x → flight_of x.stage ≡ Some (q, before) → is_get x.op ≡ false
  -- no pair is given twice
  pub pairs : (t u : ℕ) (x y : Request) (q : Pair) → slice_get requests t ≡ Some x → slice_get requests u ≡ Some y
      → pair_given x.stage ≡ Some q → pair_given y.stage ≡ Some q → t ≡ u
  -- each copy in sync holds what is acknowledged
  pub acknowledged : (t c : ℕ) (x : Request) (y : ShardCopy) (q : Pair) → slice_get requests t ≡ Some x → slice_get copies c ≡ Some y
      → pair_acknowledged x.stage ≡ Some q → y.is_in_sync ≡ true → holds y.writes t ≡ true

-- if the group does nothing wrong, it is sound
abbrev pub IsSoundUnlessFaulty : GroupState → Type 0
IsSoundUnlessFaulty w = w.fault ≡ fault.None → IsSound w.term w.primary w.requests w.copies
