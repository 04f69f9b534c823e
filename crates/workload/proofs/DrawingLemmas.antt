-- The drawn turns one by one, and that drawn turns are a plan.
use Rattle.std.proofs.Common.{◌≡◌, ℕ, zero, suc, ◌+◌, ◌*◌, ◌<◌, ◌≤◌, ◌==◌, ◌%◌, ◌∙◌, false, [], ◌∷◌, ◌++◌, None, add-one, ap, arith, length, refl, sym, zero-mul}
use Rattle.std.specs.Prelude.{nat_le}
use Rattle.std.specs.List.{list_any}
use Rattle.std.proofs.lemmas.Bool.{le-ltb}
use Rattle.std.proofs.lemmas.Bool.Decides.{nat_tests}
use Rattle.std.proofs.lemmas.List.Sums.{sum_by-cons}
use Rattle.rand_pcg.specs.Lcg.{Lcg}
use Rattle.workload.specs.Drawing.{after_turn, after_turns, clients_drawn, turn_drawn, turns_drawn}
use Rattle.workload.specs.Plans.{is_far, is_idle, most_clients, most_docs, most_turns, refusal_of, turn_count}
use Rattle.workload.proofs.PlanLemmas.{none_refused}

-- the generator after the words of so many clients
unfoldable pub after_clients : ℕ → ℕ → Lcg → Lcg
after_clients calls zero g = g
after_clients calls (suc n) g = after_clients calls n (after_turns calls g)

-- ---- one more

after_turns_suc : (n : ℕ) (g : Lcg) → after_turns (suc n) g ≡ after_turn (after_turns n g)
unfolding after_turns
after_turns_suc zero g = refl
after_turns_suc (suc n) g = after_turns_suc n (after_turn g)

pub after_turns_more : (n : ℕ) (g : Lcg) → after_turns (n + 1) g ≡ after_turn (after_turns n g)
after_turns_more n g = ap (λ m. after_turns m g) (add-one n) ∙ after_turns_suc n g

turns_drawn_suc : (docs n : ℕ) (g : Lcg) → turns_drawn docs (suc n) g ≡ turns_drawn docs n g ++ turn_drawn docs (after_turns n g) ∷ []
unfolding after_turns turns_drawn
turns_drawn_suc docs zero g = refl
turns_drawn_suc docs (suc n) g = ap (λ turns. turn_drawn docs g ∷ turns) (turns_drawn_suc docs n (after_turn g))

pub turns_drawn_more : (docs n : ℕ) (g : Lcg) → turns_drawn docs (n + 1) g ≡ turns_drawn docs n g ++ turn_drawn docs (after_turns n g) ∷ []
turns_drawn_more docs n g = ap (λ m. turns_drawn docs m g) (add-one n) ∙ turns_drawn_suc docs n g

after_clients_suc : (calls n : ℕ) (g : Lcg) → after_clients calls (suc n) g ≡ after_turns calls (after_clients calls n g)
unfolding after_clients
after_clients_suc calls zero g = refl
after_clients_suc calls (suc n) g = after_clients_suc calls n (after_turns calls g)

pub after_clients_more : (calls n : ℕ) (g : Lcg) → after_clients calls (n + 1) g ≡ after_turns calls (after_clients calls n g)
after_clients_more calls n g = ap (λ m. after_clients calls m g) (add-one n) ∙ after_clients_suc calls n g

clients_drawn_suc : (docs calls n : ℕ) (g : Lcg)
    → clients_drawn docs calls (suc n) g ≡ clients_drawn docs calls n g ++ turns_drawn docs calls (after_clients calls n g) ∷ []
unfolding after_clients clients_drawn
clients_drawn_suc docs calls zero g = refl
clients_drawn_suc docs calls (suc n) g =
    ap (λ drawn. turns_drawn docs calls g ∷ drawn) (clients_drawn_suc docs calls n (after_turns calls g))

pub clients_drawn_more : (docs calls n : ℕ) (g : Lcg)
    → clients_drawn docs calls (n + 1) g ≡ clients_drawn docs calls n g ++ turns_drawn docs calls (after_clients calls n g) ∷ []
clients_drawn_more docs calls n g = ap (λ m. clients_drawn docs calls m g) (add-one n) ∙ clients_drawn_suc docs calls n g

pub ruleset more_turns = (after_turns_more, turns_drawn_more)

pub ruleset more_clients = (after_clients_more, clients_drawn_more)

-- ---- drawn turns are a plan

length-turns_drawn : (docs n : ℕ) (g : Lcg) → length (turns_drawn docs n g) ≡ n
unfolding turns_drawn
length-turns_drawn docs zero g = refl
length-turns_drawn docs (suc n) g = ap suc (length-turns_drawn docs n (after_turn g))

length-clients_drawn : (docs calls n : ℕ) (g : Lcg) → length (clients_drawn docs calls n g) ≡ n
unfolding clients_drawn
length-clients_drawn docs calls zero g = refl
length-clients_drawn docs calls (suc n) g = ap suc (length-clients_drawn docs calls n (after_turns calls g))

-- a number modulo at most the most documents is no far document
near : (docs x : ℕ) → 0 < docs → docs ≤ most_docs → nat_le most_docs (x % docs) ≡ false
near docs x some few = grind (arith, nat_tests)

turns_near : (docs n : ℕ) (g : Lcg) → 0 < docs → docs ≤ most_docs → list_any is_far (turns_drawn docs n g) ≡ false
unfolding turns_drawn turn_drawn
turns_near docs zero g some few = refl
turns_near docs (suc n) g some few = rw (near docs _ some few) (turns_near docs n (after_turn g) some few)

clients_near : (docs calls n : ℕ) (g : Lcg) → 0 < docs → docs ≤ most_docs → list_any (list_any is_far) (clients_drawn docs calls n g) ≡ false
unfolding clients_drawn
clients_near docs calls zero g some few = refl
clients_near docs calls (suc n) g some few =
    rw (turns_near docs calls g some few) (clients_near docs calls n (after_turns calls g) some few)

not_zero : (n : ℕ) → 0 < n → (n == 0) ≡ false
not_zero n some = grind (arith, nat_tests)

clients_busy : (docs calls n : ℕ) (g : Lcg) → 0 < calls → list_any is_idle (clients_drawn docs calls n g) ≡ false
unfolding clients_drawn
clients_busy docs calls zero g some = refl
clients_busy docs calls (suc n) g some =
    rw (length-turns_drawn docs calls g, not_zero calls some) (clients_busy docs calls n (after_turns calls g) some)

turn_count-clients_drawn : (docs calls n : ℕ) (g : Lcg) → turn_count (clients_drawn docs calls n g) ≡ n * calls
unfolding clients_drawn
turn_count-clients_drawn docs calls zero g = sym (zero-mul calls)
turn_count-clients_drawn docs calls (suc n) g =
    rw (
      sum_by-cons length (turns_drawn docs calls g) (clients_drawn docs calls n (after_turns calls g)),
      length-turns_drawn docs calls g,
      turn_count-clients_drawn docs calls n (after_turns calls g),
    ) (omega arith)

pub drawn_is_plan : (docs calls clients : ℕ) (g : Lcg) → 0 < clients → clients ≤ most_clients → 0 < calls → clients * calls ≤ most_turns
    → 0 < docs → docs ≤ most_docs → refusal_of (clients_drawn docs calls clients g) ≡ None
drawn_is_plan docs calls clients g some few busy short document near_all =
    none_refused (clients_drawn docs calls clients g)
    (rw (length-clients_drawn docs calls clients g) (not_zero clients some))
    (clients_busy docs calls clients g busy)
    (rw (length-clients_drawn docs calls clients g) (le-ltb most_clients clients few))
    (rw (turn_count-clients_drawn docs calls clients g) (le-ltb most_turns (clients * calls) short))
    (clients_near docs calls clients g document near_all)
