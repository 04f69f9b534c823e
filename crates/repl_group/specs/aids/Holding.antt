-- What is kept of what a copy holds.
use Rattle.std.specs.Prelude.{ℕ, List}
use Rattle.doc_register.specs.declared.state.DocState.{DocState}

-- its position in the log, the states of its documents, and the next sequence number
pub record HeldState : Type 0 where
  pub place : ℕ
  pub documents : List (ℕ × DocState)
  pub next_seq : ℕ
