-- What a copy holds: writes, each under the ticket that asked for it, in the order in which they came.
use Rattle.std.specs.Prelude.{ℕ, ◌+◌, ◌==◌, ◌&&◌, ◌||◌, Bool, true, List, [], ◌∷◌, ◌++◌, fold, if◌then◌else◌, is_some, max, nat_lt}
use Rattle.std.specs.Map.{lookup}
use Rattle.version_pair.specs.declared.pair.Pair.{Pair}
use Rattle.doc_register.specs.Register.{performed_state}
use Rattle.doc_register.specs.declared.state.DocState.{DocState}
use Rattle.doc_register.specs.declared.state.DocState.TheVariants.{Never, Gone, Here}
use Rattle.repl_group.specs.declared.held_write.HeldWrite.{HeldWrite}

-- A copy of the shard that a group keeps.
-- Source: profile.
pub record ShardCopy : Type 0 where
  -- the writes that it holds
  pub writes : List (ℕ × HeldWrite)
  -- whether it is cut off from the others
  pub is_cut : Bool
  -- whether it is in sync: each acknowledged write must be on it
  pub is_in_sync : Bool

-- the write of the ticket is held
abbrev pub holds : List (ℕ × HeldWrite) → ℕ → Bool
holds writes t = is_some (lookup (◌==◌ t) writes)

-- The writes, with that of the ticket, which comes last; as they were if it was held already. So a copy holds
-- a set.
-- Source: profile.
abbrev pub with_write : List (ℕ × HeldWrite) → ℕ → HeldWrite → List (ℕ × HeldWrite)
with_write writes t write = if holds writes t then writes else writes ++ (t, write) ∷ []

-- ---- documents at a copy

-- p is the smaller of the two pairs, as a test that computes
-- Source: profile.
abbrev pub is_below : Pair → Pair → Bool
is_below p q = nat_lt p.term q.term || (p.term == q.term && nat_lt p.seq q.seq)

-- the pair is greater than that of the document's last change, if it has one, as a test that computes
-- Source: profile.
abbrev pub is_above : Pair → DocState → Bool
is_above q Never = true
is_above q (Gone p) = is_below p q
is_above q (Here p k) = is_below p q

-- the state of its document after the write
-- Source: OpenSearch.
abbrev pub made_by : HeldWrite → DocState
made_by write = performed_state Never write.op write.pair

-- the document numbered d after the write: if that is a write on it with a greater pair than the last one,
-- the write determines its state; otherwise it stays as it was
abbrev pub document_after : ℕ → DocState → HeldWrite → DocState
document_after d state write = if write.doc == d && is_above write.pair state then made_by write else state

-- The document numbered d, as determined by the write with the greatest pair; Never if there is none.
-- Source: profile.
abbrev pub document_in : List (ℕ × HeldWrite) → ℕ → DocState
document_in writes d = fold (λ state entry. document_after d state entry.1) Never writes

-- the sequence number of the next write: 0 if nothing is held, otherwise one more than the greatest that is
-- held
-- Source: OpenSearch.
abbrev pub next_seq : List (ℕ × HeldWrite) → ℕ
next_seq writes = fold (λ next entry. max next (entry.1.pair.seq + 1)) 0 writes
