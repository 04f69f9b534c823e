-- What is noted beside the writes of a copy stays right where a write is added.
use Rattle.std.proofs.Common.{ℕ, ◌≡◌, ◌≤◌, ◌+◌, ◌^◌, ◌<◌, List, [], ◌∷◌, ◌++◌, sym, ap, ◌∙◌, arith, true, false, max}
use Rattle.std.specs.Prelude.{◌==◌, if◌then◌else◌, unwrap_or}
use Rattle.std.specs.Map.{lookup}
use Rattle.std.proofs.lemmas.List.Sums.{fold-append}
use Rattle.doc_register.specs.declared.state.DocState.{DocState}
use Rattle.doc_register.specs.declared.state.DocState.TheVariants.{Never}
use Rattle.repl_group.specs.declared.held_write.HeldWrite.{HeldWrite}
use Rattle.repl_group.specs.Copies.{document_after, document_in, holds, next_seq, with_write}
use Rattle.repl_group.specs.aids.Tracking.{AreNoted}

pub with_write-absent : (writes : List (ℕ × HeldWrite)) (t : ℕ) (write : HeldWrite) → holds writes t ≡ false → with_write writes t write ≡ writes ++ (t, write) ∷ []
with_write-absent writes t write absent = ap (λ b. if b then writes else writes ++ (t, write) ∷ []) absent

pub with_write-there : (writes : List (ℕ × HeldWrite)) (t : ℕ) (write : HeldWrite) → holds writes t ≡ true → with_write writes t write ≡ writes
with_write-there writes t write there = ap (λ b. if b then writes else writes ++ (t, write) ∷ []) there

pub document_in-append : (writes : List (ℕ × HeldWrite)) (t : ℕ) (write : HeldWrite) (d : ℕ)
    → document_in (writes ++ (t, write) ∷ []) d ≡ document_after d (document_in writes d) write
document_in-append writes t write d = fold-append (λ (s : DocState) (e : ℕ × HeldWrite). document_after d s e.1) Never writes ((t, write) ∷ [])

pub next_seq-append : (writes : List (ℕ × HeldWrite)) (t : ℕ) (write : HeldWrite)
    → next_seq (writes ++ (t, write) ∷ []) ≡ max (next_seq writes) (write.pair.seq + 1)
next_seq-append writes t write = fold-append (λ (n : ℕ) (e : ℕ × HeldWrite). max n (e.1.pair.seq + 1)) 0 writes ((t, write) ∷ [])

pub noted_after : (writes : List (ℕ × HeldWrite)) (old new : List (ℕ × DocState)) (next : ℕ) (t : ℕ) (write : HeldWrite)
    → AreNoted writes old next
    → ((d : ℕ) → unwrap_or (lookup (◌==◌ d) new) Never ≡ document_after d (unwrap_or (lookup (◌==◌ d) old) Never) write)
    → AreNoted (writes ++ (t, write) ∷ []) new (max next (write.pair.seq + 1))
noted_after writes old new next t write noted at = record {
  noted = λ d. at d ∙ (ap (λ s. document_after d s write) (noted.noted d) ∙ sym (document_in-append writes t write d));
  next_is = ap (λ n. max n (write.pair.seq + 1)) noted.next_is ∙ sym (next_seq-append writes t write);
  next_fits = let fits : write.pair.seq < 2 ^ 63 = write.pair.seq_fits in let now : next ≤ 2 ^ 63 = noted.next_fits in omega arith;
}
