-- The chain: the performed answered writes of a document by pair, and the state of the document in each
-- stretch of it. Contracts of write_chain alone cite these definitions; no answer is defined by them.
use Rattle.std.specs.Prelude.{◌≡◌, ℕ, suc, List, [], ◌∷◌, Option, Some, None, IsPermutation, IsSorted, slice_get}
use Rattle.std.specs.declared.cmp.Ordering.{Ordering}
use Rattle.std.specs.Ordering.{nat_cmp, ordering_then}
use Rattle.version_pair.specs.declared.pair.Pair.{Pair}
use Rattle.version_pair.specs.PairOrder.{IsBelow}
use Rattle.doc_register.specs.declared.state.DocState.{DocState}
use Rattle.doc_register.specs.declared.state.DocState.TheVariants.{Never}
use Rattle.doc_register.specs.Register.{performed_state}
use Rattle.events.specs.Heard.{pair_of}
use Rattle.events.specs.declared.record.Rec.{Rec}

-- the links of a list, with that of the record numbered k before them if its write was performed with a pair
abbrev pub link_at : ℕ → Option Pair → List (Pair × ℕ) → List (Pair × ℕ)
link_at k None rest = rest
link_at k (Some q) rest = (q, k) ∷ rest

-- the performed answered writes, each with its pair and the number of its record, if the first record is
-- numbered k
abbrev pub performed_records : ℕ → List Rec → List (Pair × ℕ)
performed_records k [] = []
performed_records k (r ∷ rs) = link_at k (pair_of r.heard) (performed_records (suc k) rs)

-- how two pairs compare: by term, then by sequence number
abbrev pub pair_cmp : Pair → Pair → Ordering
pair_cmp p q = ordering_then (nat_cmp p.term q.term) (nat_cmp p.seq q.seq)

-- how two links compare: by pair, then by number
abbrev pub by_pair : Pair × ℕ → Pair × ℕ → Ordering
by_pair a b = ordering_then (pair_cmp a.0 b.0) (nat_cmp a.1 b.1)

-- the chain has the performed answered writes by pair
pub record IsChain (records : List Rec) (chain : List (Pair × ℕ)) : Type 0 where
  -- each of them once
  pub all : IsPermutation (performed_records 0 records) chain
  -- by pair, then by number
  pub in_order : IsSorted by_pair chain

-- each pair is below the next
abbrev pub Rises : List (Pair × ℕ) → Type 0
Rises chain = (k : ℕ) (a b : Pair × ℕ) → slice_get chain k ≡ Some a → slice_get chain (suc k) ≡ Some b → IsBelow a.0 b.0

-- the document after a record's write with the pair q
abbrev pub written : Option Rec → Pair → DocState
written None q = Never
written (Some r) q = performed_state Never r.op q

-- the document after the write of the link
abbrev pub after_link : List Rec → Pair × ℕ → DocState
after_link records link = written (slice_get records link.1) link.0
