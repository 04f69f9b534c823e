-- Documents that calls are made on: the pairs used so far, and the step of a performed write.
use Rattle.std.proofs.Common.{◌≡◌, ◌==◌, ◌++◌, ◌<◌, ℕ, zero, suc, List, [], ◌∷◌, length, map, reverse, Bool, true, false, ◌||◌, cond, Contains, Some, None, IfSome, option_to_list, Ok, Err, sym, ap, subst, ◌∙◌, refl, arith, nat_eq}
use Rattle.std.specs.Prelude.{Result, ◌&&◌, if◌then◌else◌}
use Rattle.std.specs.Cmp.Lexicographic.{pointwise}
use Rattle.std.specs.List.{cons_option, list_any}
use Rattle.std.proofs.Math.Bool.{or-true}
use Rattle.std.proofs.lemmas.Bool.{and_from, eq-eqb}
use Rattle.std.proofs.lemmas.List.Sorted.{Contains-permutation, IsPermutation-reverse, IsPermutation-sym}
use Rattle.std.proofs.lemmas.Map.Views.{Contains-from_any}
use Rattle.indexmap.specs.IndexSet.{insert_key}
use Rattle.version_pair.specs.declared.pair.Pair.{Pair}
use Rattle.version_pair.proofs.PairLemmas.{same_by_test}
use Rattle.doc_register.specs.declared.map_fault.MapFault.{MapFault}
use Rattle.doc_register.specs.declared.op.Op.{Op}
use Rattle.doc_register.specs.declared.op.Op.TheVariants.{Get, Index, Delete, Create}
use Rattle.doc_register.specs.declared.reply.Reply.{Reply}
use Rattle.doc_register.specs.declared.state.DocState.{DocState}
use Rattle.doc_register.specs.Documents.{Accepts, AreAnswered, Call, Documents, IsAnswered, accepted, as_state, entry_by, entry_of, no_documents, state_of}
use Rattle.doc_register.specs.Register.{DocStep, Exceeds, IsPerformed, performed_reply, performed_state}
use Rattle.doc_register.specs.Run.{IsLegalRun, IsRun, pair_taken, taken}
use Rattle.doc_register.proofs.RunLemmas.{other_id, same_id, taken_of}

-- ---- pairs that are used

-- the test by which a set of pairs finds a pair
abbrev pub is_pair : Pair → Pair → Bool
is_pair p q = nat_eq p.term q.term && nat_eq p.seq q.seq

is_pair-same : (p : Pair) → is_pair p p ≡ true
is_pair-same p = and_from (nat_eq p.term p.term) (nat_eq p.seq p.seq) (eq-eqb p.term p.term refl) (eq-eqb p.seq p.seq refl)

pub found_used : (q : Pair) (qs : List Pair) → list_any (is_pair q) qs ≡ true → Contains qs q
found_used q qs found = Contains-from_any {eq = is_pair} same_by_test q qs found

pub used_found : (q : Pair) (qs : List Pair) → Contains qs q → list_any (is_pair q) qs ≡ true
used_found q [] (k, within, at) = absurd (omega (arith, within))
used_found q (p ∷ qs) (zero, within, at) = ap (λ b. b || list_any (is_pair q) qs) (ap (is_pair q) at ∙ is_pair-same q)
used_found q (p ∷ qs) (suc k, within, at) =
    ap (λ b. is_pair q p || b) (used_found q qs (k, omega (arith, within), at)) ∙ or-true (is_pair q p)

not_found : (q : Pair) (qs : List Pair) → ¬ Contains qs q → list_any (is_pair q) qs ≡ false
not_found q qs unused = by_test (list_any (is_pair q) qs) refl where
  by_test : (b : Bool) → list_any (is_pair q) qs ≡ b → b ≡ false
  by_test true is = absurd (unused (found_used q qs is))
  by_test false is = refl

-- a pair that is not used goes last
pub insert_key-unused : (q : Pair) (qs : List Pair) → ¬ Contains qs q → insert_key is_pair qs q ≡ qs ++ q ∷ []
insert_key-unused q qs unused = ap (λ b. if b then qs else qs ++ q ∷ []) (not_found q qs unused)

pub Contains-reversed : {X : Type 0} (xs : List X) (x : X) → Contains xs x → Contains (reverse xs) x
Contains-reversed xs x has = Contains-permutation xs (reverse xs) x (IsPermutation-reverse xs) has

pub Contains-from_reversed : {X : Type 0} (xs : List X) (x : X) → Contains (reverse xs) x → Contains xs x
Contains-from_reversed xs x has = Contains-permutation (reverse xs) xs x (IsPermutation-sym xs (reverse xs) (IsPermutation-reverse xs)) has

-- ---- a performed write

performs : (s : DocState) (op : Op) (q : Pair) → IsPerformed s op → Exceeds q s → DocStep s op (performed_reply s op q) None (performed_state s op q)
performs s Get q performed above = absurd performed
performs s (Index k c) q performed above = (record { allowed = performed; rises = above; leaves = refl }, refl)
performs s (Delete c) q performed above = (record { allowed = performed; rises = above; leaves = refl }, refl)
performs s (Create k) q performed above = (record { allowed = performed; rises = above; leaves = refl }, refl)

takes_pair : (s : DocState) (op : Op) (q : Pair) → IsPerformed s op → pair_taken (performed_reply s op q) None ≡ Some q
takes_pair s Get q performed = absurd performed
takes_pair s (Index k c) q performed = refl
takes_pair s (Delete c) q performed = refl
takes_pair s (Create k) q performed = refl

-- the pairs of the shard 0
in_shard : (q : Pair) (qs : List Pair) → Contains {X = ℕ × Pair} (map (λ (p : Pair). (0, p)) qs) (0, q) → Contains qs q
in_shard q [] (k, within, at) = absurd (omega (arith, within))
in_shard q (p ∷ qs) (zero, within, at) = (zero, omega arith, ap (λ (x : ℕ × Pair). x.1) at)
in_shard q (p ∷ qs) (suc k, within, at) =
    let later : Contains qs q = in_shard q qs (k, omega (arith, within), at) in
    let less : later.0 < length qs = later.1 in
    (suc later.0, omega arith, later.2)

-- the documents after a performed write: its own is changed, and its pair is used
pub accepts_write : (m n : Documents) (d : List ℕ) (op : Op) (q : Pair) → IsPerformed (state_of m d) op → Exceeds q (state_of m d) → ¬ Contains m.used q
    → ((x : List ℕ) → state_of n x ≡ cond (pointwise ◌==◌ d x) (performed_state (state_of m d) op q) (state_of m x)) → n.used ≡ q ∷ m.used
    → Accepts m d op q (performed_reply (state_of m d) op q) n
accepts_write m n d op q performed above unused states used = record {
  step = record {
    own = subst (λ t. DocStep (state_of m d) op (performed_reply (state_of m d) op q) None t)
        (sym (states d ∙ ap (λ b. cond b (performed_state (state_of m d) op q) (state_of m d)) (same_id d)))
        (performs (state_of m d) op q performed above);
    others = λ x differs. states x ∙ ap (λ b. cond b (performed_state (state_of m d) op q) (state_of m x)) (other_id d x differs);
    unused = subst (λ o. IfSome o (λ p. ¬ Contains (as_state m).used p)) (sym takes) (λ has. unused (in_shard q m.used has));
    used = ap (map (λ (p : Pair). (0, p))) used ∙ ap (λ o. option_to_list o ++ (as_state m).used) (sym takes);
  };
  carried = subst (λ o. IfSome o (λ p. p ≡ q)) (sym (takes_pair (state_of m d) op q performed)) refl;
} where
  takes : taken (entry_of d op (performed_reply (state_of m d) op q)) ≡ Some (0, q)
  takes = taken_of (entry_of d op (performed_reply (state_of m d) op q)) (Some q) (takes_pair (state_of m d) op q performed)

-- ---- many calls

run_answered : (m n : Documents) (cs : List Call) → AreAnswered m cs n → IsRun (as_state m) (accepted cs) (as_state n)
run_answered m n [] same = ap as_state same
run_answered m n (c ∷ cs) (k, first, rest) = by_answer (run_answered k n cs rest) c.answer first where
  by_answer : IsRun (as_state k) (accepted cs) (as_state n) → (a : Result Reply MapFault) → IsAnswered m c.doc c.op c.pair a k
      → IsRun (as_state m) (cons_option (entry_by c.doc c.op a) (accepted cs)) (as_state n)
  by_answer later (Ok r) accepts = (as_state k, accepts.step, later)
  by_answer later (Err fault) same = subst (λ j. IsRun (as_state j) (accepted cs) (as_state n)) same later

-- the accepted calls are a legal run
pub accepted_legal : (n : Documents) (cs : List Call) → AreAnswered no_documents cs n → IsLegalRun (accepted cs)
accepted_legal n cs answered = (as_state n, run_answered no_documents n cs answered)
