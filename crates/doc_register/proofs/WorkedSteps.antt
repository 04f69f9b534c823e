-- The worked cases, proved.
use Rattle.std.proofs.Common.{◌≡◌, ◌≢◌, ℕ, zero, suc, List, [], ◌∷◌, Bool, true, false, cond, nat_eq, Contains, sym, ap, ◌∙◌, refl, arith, rules, lit<, Some, None}
use Rattle.std.specs.Cmp.Lexicographic.{pointwise, same_text}
use Rattle.version_pair.specs.declared.pair.Pair.{Pair}
use Rattle.doc_register.specs.Run.{State, Step, start}
use Rattle.doc_register.specs.WorkedSteps.{WorkedSteps, one_zero, one_one, three_two, created_once}
use Rattle.doc_register.specs.declared.state.DocState.{DocState}
use Rattle.doc_register.specs.declared.state.DocState.TheVariants.{Never, Here}

other_number : one_one ≢ one_zero
other_number e = let n : 1 ≡ 0 = ap (λ (p : Pair). p.seq) e in absurd (omega (arith, n))

other_term : one_zero ≢ three_two
other_term e = let n : 1 ≡ 3 = ap (λ (p : Pair). p.term) e in absurd (omega (arith, n))

-- the documents "d" and "e" are a and b, and no other was written
abbrev documents : DocState → DocState → List ℕ → DocState
documents a b x = cond (pointwise nat_eq x (100 ∷ [])) a (cond (pointwise nat_eq x (101 ∷ [])) b Never)

abbrev state : DocState → DocState → List (ℕ × Pair) → State
state a b ps = record { document = documents a b; used = ps }

differ : (x y : List ℕ) → x ≢ y → pointwise nat_eq x y ≡ false
differ x y n =
    let go : (b : Bool) → b ≡ pointwise nat_eq x y → b ≡ false = elim [ false ↦ λ e. refl | true ↦ λ e. absurd (n (same_text x y e)) ] in go _ refl

never : (x : List ℕ) → documents Never Never x ≡ Never
never x =
    let go : (b c : Bool) → cond b Never (cond c Never Never) ≡ Never = elim [ false ↦ elim [ false ↦ refl | true ↦ refl ] | true ↦ λ c. refl ] in go _ _

others_than_d : (a a' b : DocState) (x : List ℕ) → x ≢ 100 ∷ [] → documents a' b x ≡ documents a b x
others_than_d a a' b x n = rw (differ x (100 ∷ []) n) refl

others_than_e : (a b b' : DocState) (x : List ℕ) → x ≢ 101 ∷ [] → documents a b' x ≡ documents a b x
others_than_e a b b' x n = rw (differ x (101 ∷ []) n) refl

not_the_one : {X : Type 0} (y x : X) → y ≢ x → ¬ Contains (y ∷ []) x
not_the_one y x n (zero, l, e) = n e
not_the_one y x n (suc k, l, e) = omega (arith, l)

abbrev after_creation : State
after_creation = state (Here one_zero 1) Never ((0, one_zero) ∷ [])

creation : Step start created_once after_creation
creation = record {
  own = search rules;
  others = λ x n. others_than_d Never (Here one_zero 1) Never x n ∙ never x;
  unused = λ w. omega (arith, w.1);
  used = refl;
}

pub worked_steps : WorkedSteps
worked_steps = record {
  get_shows_document = search rules;
  get_of_another_number = λ t h. grind arith;
  get_of_another_pair = λ t h. let e : one_one ≡ one_zero = cc in other_number e;
  get_of_never_written = search rules;
  get_of_deleted = search rules;
  get_misses_document = λ t h. grind arith;
  get_hides_pair = λ t h. let impossible : Some one_one ≡ None = h.1 in cc;
  index_creates = search rules;
  index_creates_unsaid = λ t h. grind arith;
  index_takes_low_pair = λ t h. grind arith;
  index_takes_same_pair = λ t h. grind arith;
  term_before_sequence_number = search (rules, arith);
  delete_of_document = search (rules, arith);
  delete_of_missing = search (rules, arith);
  delete_of_missing_found = λ t h. grind arith;
  conflict_without_condition = λ t h. h.0 tt;
  condition_met = search (rules, arith);
  performed_though_not_met = λ t h. other_number h.0.allowed;
  performed_on_deleted = λ t h. h.0.allowed;
  conflict_on_missing = search rules;
  conflict_though_met = λ t h. h.0 refl;
  conflict_with_hidden_pair = search (rules, arith);
  hidden_pair_of_answered_write = λ t h. h;
  hidden_pair_though_not_met = λ t h. h.allowed;
  hidden_pair_is_low = λ t h. grind arith;
  hidden_pair_is_same = λ t h. grind arith;
  delete_under_condition_met = search (rules, arith);
  delete_conflict_though_met = λ t h. h.0 refl;
  create_of_absent = search (rules, arith);
  create_over_document = λ t h. grind arith;
  create_refused = search rules;
  create_refused_on_never_written = λ t h. h.0 refl;
  create_refused_on_deleted = λ t h. h.0 refl;
  overlapping_gets =
      let last : State = state (Here one_one 2) Never ((0, one_one) ∷ (0, one_zero) ∷ []) in (
        last,
        (
          after_creation,
          creation,
          (
            after_creation,
            record { own = search rules; others = λ x n. refl; unused = tt; used = refl },
            (
              last,
              record {
                own = search (rules, arith);
                others = others_than_d _ _ _;
                unused = not_the_one _ _ (λ e. other_number (sym (ap (λ (p : ℕ × Pair). p.1) e)));
                used = refl;
              },
              (last, record { own = search rules; others = λ x n. refl; unused = tt; used = refl }, refl),
            ),
          ),
        ),
      );
  conflict_without_cause = λ (t, (m, first, (n, second, e))). second.own.0 (rw first.own.0.leaves refl);
  lost_write_explains_conflict =
      let last : State = state (Here three_two 2) Never ((0, three_two) ∷ (0, one_zero) ∷ []) in (
        last,
        (
          after_creation,
          creation,
          (
            last,
            record {
              own = search (rules, arith);
              others = others_than_d _ _ _;
              unused = not_the_one _ _ (λ e. other_term (ap (λ (p : ℕ × Pair). p.1) e));
              used = refl;
            },
            (last, record { own = (λ e. other_term (sym e), refl); others = λ x n. refl; unused = tt; used = refl }, refl),
          ),
        ),
      );
  pair_twice_in_a_shard = λ (t, (m, first, (n, second, e))). second.unused (rw first.used (0, lit< tt, refl));
  same_pair_in_two_shards =
      let last : State = state (Here one_zero 1) (Here one_zero 1) ((1, one_zero) ∷ (0, one_zero) ∷ []) in (
        last,
        (
          after_creation,
          creation,
          (
            last,
            record {
              own = search rules;
              others = others_than_e _ _ _;
              unused = not_the_one _ _ (λ e. let n : 0 ≡ 1 = ap (λ (p : ℕ × Pair). p.0) e in absurd (omega (arith, n)));
              used = refl;
            },
            refl,
          ),
        ),
      );
  hidden_pair_was_used = λ (t, (m, first, (n, second, e))). second.unused (rw first.used (0, lit< tt, refl));
  hidden_pair_used_again = λ (t, (m, first, (n, second, e))). second.unused (rw first.used (0, lit< tt, refl));
  hidden_pair_of_its_own =
      let last : State = state (Here one_zero 1) (Here one_one 1) ((0, one_one) ∷ (0, one_zero) ∷ []) in (
        last,
        (
          after_creation,
          creation,
          (
            last,
            record {
              own = search rules;
              others = others_than_e _ _ _;
              unused = not_the_one _ _ (λ e. other_number (sym (ap (λ (p : ℕ × Pair). p.1) e)));
              used = refl;
            },
            refl,
          ),
        ),
      );
}
