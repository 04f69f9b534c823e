-- What is held at the places of a log.
use Rattle.std.proofs.Common.{ℕ, zero, suc, ◌≡◌, ◌≢◌, ◌≤◌, ◌+◌, ◌-◌, ◌<◌, List, [], ◌∷◌, ◌++◌, get_or, length, refl, sym, ap, ◌∙◌, add-zero, one-add, arith, Option, Some, None, Bool, true, false, inl, inr}
use Rattle.std.specs.Prelude.{◌==◌, ◌||◌, if◌then◌else◌, is_some, slice_get, unwrap_or}
use Rattle.std.specs.Map.{lookup}
use Rattle.std.proofs.lemmas.Bool.{eq-eqb, ne_eqb}
use Rattle.std.proofs.lemmas.List.{get_or_append_left, length_push}
use Rattle.std.proofs.lemmas.Option.{slice_get_read, unwrap_or-slice_get}
use Rattle.std.proofs.Math.Bool.{or-false}
use Rattle.repl_group.specs.declared.held_write.HeldWrite.{HeldWrite}
use Rattle.repl_group.specs.declared.write_log.Logged.{Logged}
use Rattle.repl_group.specs.Copies.{holds}
use Rattle.repl_group.specs.aids.Logging.{IsLog, held_at, held_behind, held_sets, sets_from}
use Rattle.version_pair.proofs.ListLemmas.{get_last, get_snoc, get_within, none_is_not_some, same_some}
use Rattle.version_pair.proofs.TruthLemmas.{or-true}

abbrev Writes : Type 0
Writes = List (ℕ × HeldWrite)

-- ---- places

-- what is held at a place stays when places are added
pub held_at-append : (sets more : List Writes) (p : ℕ) → p < length sets → held_at (sets ++ more) p ≡ held_at sets p
held_at-append sets more p less =
    unwrap_or-slice_get (sets ++ more) p [] ∙ (get_or_append_left sets more [] p less ∙ sym (unwrap_or-slice_get sets p []))

-- and at the new place is what was added
pub held_at-last : (sets : List Writes) (set : Writes) → held_at (sets ++ set ∷ []) (length sets) ≡ set
held_at-last sets set = ap (λ o. unwrap_or o []) (get_last sets set)

-- ---- the places of a log

stays : (sets : List Writes) (es : List Logged) (p : ℕ) → p < length sets → held_at (sets_from sets es) p ≡ held_at sets p
stays sets [] p less = refl
stays sets (e ∷ es) p less =
    let longer : length (sets ++ held_behind sets e ∷ []) ≡ length sets + 1 = length_push sets (held_behind sets e) in
    stays (sets ++ held_behind sets e ∷ []) es p (omega arith) ∙ held_at-append sets (held_behind sets e ∷ []) p less

pub sets-append : (sets : List Writes) (es : List Logged) (e : Logged) → sets_from sets (es ++ e ∷ []) ≡ sets_from sets es ++ held_behind (sets_from sets es) e ∷ []
sets-append sets [] e = refl
sets-append sets (f ∷ es) e = sets-append (sets ++ held_behind sets f ∷ []) es e

sets-length : (sets : List Writes) (es : List Logged) → length (sets_from sets es) ≡ length sets + length es
sets-length sets [] = omega arith
sets-length sets (e ∷ es) =
    let longer : length (sets ++ held_behind sets e ∷ []) ≡ length sets + 1 = length_push sets (held_behind sets e) in
    let rest : length (sets_from (sets ++ held_behind sets e ∷ []) es) ≡ length (sets ++ held_behind sets e ∷ []) + length es = sets-length (sets ++ held_behind sets e ∷ []) es in
    omega arith

pub places : (es : List Logged) → length (held_sets es) ≡ length es + 1
places es = let whole : length (sets_from ([] ∷ []) es) ≡ 1 + length es = sets-length ([] ∷ []) es in omega arith

-- at the place that a write makes it is held, behind what is held at its own earlier place
made : (sets : List Writes) (es : List Logged) (i : ℕ) (e : Logged) → slice_get es i ≡ Some e → e.before < length sets + i
    → held_at (sets_from sets es) (length sets + i) ≡ held_at (sets_from sets es) e.before ++ (e.ticket, e.write) ∷ []
made sets [] i e at less = absurd (none_is_not_some e at)
made sets (f ∷ es) zero e at less =
    let same : f ≡ e = same_some _ _ at in
    let next : List Writes = sets ++ held_behind sets f ∷ [] in
    let longer : length next ≡ length sets + 1 = length_push sets (held_behind sets f) in
    let before : e.before < length sets = omega (arith, less) in
    ap (held_at (sets_from next es)) (add-zero (length sets))
    ∙ (stays next es (length sets) (omega arith)
    ∙ (held_at-last sets (held_behind sets f)
    ∙ (ap (held_behind sets) same
    ∙ ap (λ s. s ++ (e.ticket, e.write) ∷ []) (sym (held_at-append sets (held_behind sets f ∷ []) e.before before) ∙ sym (stays next es e.before (omega arith))))))
made sets (f ∷ es) (suc i) e at less =
    let next : List Writes = sets ++ held_behind sets f ∷ [] in
    let longer : length next ≡ length sets + 1 = length_push sets (held_behind sets f) in
    let number : length sets + suc i ≡ length next + i = omega arith in
    ap (held_at (sets_from next es)) number ∙ made next es i e at (omega (arith, less))

pub made_at : (es : List Logged) (i : ℕ) (e : Logged) → slice_get es i ≡ Some e → e.before ≤ i
    → held_at (held_sets es) (suc i) ≡ held_at (held_sets es) e.before ++ (e.ticket, e.write) ∷ []
made_at es i e at behind = ap (held_at (held_sets es)) (sym (one-add i)) ∙ made ([] ∷ []) es i e at (omega (arith, behind))

-- ---- who holds what

holds-last : (writes : Writes) (u : ℕ) (write : HeldWrite) (t : ℕ) → holds (writes ++ (u, write) ∷ []) t ≡ (holds writes t || (t == u))
holds-last [] u write t = by_test (t == u) where
  by_test : (b : Bool) → is_some (if b then Some write else None) ≡ b
  by_test true = refl
  by_test false = refl
holds-last ((v, w) ∷ writes) u write t = by_test (t == v) (holds-last writes u write t) where
  by_test : (b : Bool) → holds (writes ++ (u, write) ∷ []) t ≡ (holds writes t || (t == u))
      → is_some (if b then Some w else lookup (◌==◌ t) (writes ++ (u, write) ∷ [])) ≡ (is_some (if b then Some w else lookup (◌==◌ t) writes) || (t == u))
  by_test true rest = refl
  by_test false rest = rest

-- at the place that a write makes
pub holds_at : (es : List Logged) (i : ℕ) (e : Logged) (t : ℕ) → slice_get es i ≡ Some e → e.before ≤ i
    → holds (held_at (held_sets es) (suc i)) t ≡ (holds (held_at (held_sets es) e.before) t || (t == e.ticket))
holds_at es i e t at behind = ap (λ s. holds s t) (made_at es i e at behind) ∙ holds-last (held_at (held_sets es) e.before) e.ticket e.write t

-- before the first write of a ticket none holds it
pub none_before : (es : List Logged) (first : List (ℕ × ℕ)) (t f : ℕ) → IsLog es first
    → ((i : ℕ) (e : Logged) → slice_get es i ≡ Some e → i < f → (t == e.ticket) ≡ false)
    → (bound p : ℕ) → p ≤ bound → p ≤ f → p ≤ length es → holds (held_at (held_sets es) p) t ≡ false
none_before es first t f log none bound zero below early within = ap (λ s. holds s t) (stays ([] ∷ []) es 0 (omega arith))
none_before es first t f log none zero (suc p) below early within = absurd (omega (arith, below))
none_before es first t f log none (suc bound) (suc p) below early within =
    let there = get_within es p (omega (arith, within)) in
    let behind : there.0.before ≤ p = log.behind p there.0 there.1 in
    holds_at es p there.0 t there.1 behind
    ∙ (ap (λ b. b || (t == there.0.ticket)) (none_before es first t f log none bound there.0.before (omega (arith, behind, below)) (omega (arith, behind, early)) (omega (arith, behind, within)))
    ∙ none p there.0 there.1 (omega (arith, early)))

-- a place at or before the first write of the ticket, or any place where there is none
pub unheld_at : (es : List Logged) (first : List (ℕ × ℕ)) (t p : ℕ) (o : Option ℕ) → IsLog es first → lookup (◌==◌ t) first ≡ o → p ≤ length es
    → ((f : ℕ) → o ≡ Some f → p ≤ f) → holds (held_at (held_sets es) p) t ≡ false
unheld_at es first t p o log is within early = none_before es first t p log none p p (omega arith) (omega arith) within where
  none : (i : ℕ) (e : Logged) → slice_get es i ≡ Some e → i < p → (t == e.ticket) ≡ false
  none i e at less = ne_eqb t e.ticket (λ same.
      let noted = log.found i e at in
      let low : p ≤ noted.0 = early noted.0 (sym is ∙ (ap (λ u. lookup (◌==◌ u) first) same ∙ noted.1)) in absurd (omega (arith, low, noted.2, less)))

-- a place of the log is at most the number of its writes
pub place_within : (es : List Logged) (sets : List Writes) (p : ℕ) → held_sets es ≡ sets → p < length sets → p ≤ length es
place_within es sets p view less =
    let whole : length (held_sets es) ≡ length es + 1 = places es in
    let same : length (held_sets es) ≡ length sets = ap length view in omega (arith, less)

step_number : (at : ℕ) → 0 < at → suc (at - 1) ≡ at
step_number at some = omega (arith, some)

-- the write by which the place was made is that of the ticket
pub held_here : (es : List Logged) (first : List (ℕ × ℕ)) (t at : ℕ) (e : Logged) → IsLog es first → 0 < at → at ≤ length es → e ≡ get_or es (at - 1) e
    → e.ticket ≡ t → holds (held_at (held_sets es) at) t ≡ true
held_here es first t at e log some within is same =
    let there : slice_get es (at - 1) ≡ Some e = slice_get_read es (length es) (at - 1) e refl (omega (arith, some, within)) is in
    let ticket : (t == e.ticket) ≡ true = eq-eqb t e.ticket (sym same) in
    ap (λ p. holds (held_at (held_sets es) p) t) (sym (step_number at some))
    ∙ (holds_at es (at - 1) e t there (log.behind (at - 1) e there) ∙ ap (λ b. holds (held_at (held_sets es) e.before) t || b) ticket ∙ or-true (holds (held_at (held_sets es) e.before) t))

-- it is that of another ticket
pub held_further : (es : List Logged) (first : List (ℕ × ℕ)) (t at : ℕ) (e : Logged) → IsLog es first → 0 < at → at ≤ length es → e ≡ get_or es (at - 1) e
    → e.ticket ≢ t → (e.before < at) × (holds (held_at (held_sets es) at) t ≡ holds (held_at (held_sets es) e.before) t)
held_further es first t at e log some within is other =
    let there : slice_get es (at - 1) ≡ Some e = slice_get_read es (length es) (at - 1) e refl (omega (arith, some, within)) is in
    let behind : e.before ≤ at - 1 = log.behind (at - 1) e there in (
      omega (arith, some, behind),
      ap (λ p. holds (held_at (held_sets es) p) t) (sym (step_number at some))
          ∙ (holds_at es (at - 1) e t there behind ∙ (ap (λ b. holds (held_at (held_sets es) e.before) t || b) (ne_eqb t e.ticket (λ same. other (sym same))) ∙ or-false (holds (held_at (held_sets es) e.before) t))),
    )

-- ---- one write more

-- where the number of the first write of a ticket is noted, if none was
abbrev pub first_after : List (ℕ × ℕ) → ℕ → ℕ → ℕ → Option ℕ
first_after first ticket number t =
    if is_some (lookup (◌==◌ ticket) first) then lookup (◌==◌ t) first else (if t == ticket then Some number else lookup (◌==◌ t) first)

pub log_after : (es : List Logged) (first next : List (ℕ × ℕ)) (e : Logged) → IsLog es first → e.before ≤ length es
    → ((t : ℕ) → lookup (◌==◌ t) next ≡ first_after first e.ticket (length es) t) → IsLog (es ++ e ∷ []) next
log_after es first next e log before noted = record {
  behind = λ i x at. elim (get_snoc es e x i at) [
    | inl old ↦ log.behind i x old
    | inr last ↦ let place : i ≡ length es = last.0 in let same : e.before ≡ x.before = ap (λ (y : Logged). y.before) last.1 in omega (arith, before)
  ];
  found = λ i x at. elim (get_snoc es e x i at) [
    | inl old ↦ earlier i x old (log.found i x old)
    | inr last ↦ own i x last.0 (sym last.1) (lookup (◌==◌ e.ticket) first) refl
  ];
  within = λ t f at. bounded t f (lookup (◌==◌ e.ticket) first) refl (t == e.ticket) refl at;
} where
  -- what is noted where there was a write of the ticket, and where there was none
  still : (t g : ℕ) → lookup (◌==◌ e.ticket) first ≡ Some g → lookup (◌==◌ t) next ≡ lookup (◌==◌ t) first
  still t g is = noted t ∙ ap (λ o. if is_some o then lookup (◌==◌ t) first else (if t == e.ticket then Some (length es) else lookup (◌==◌ t) first)) is

  fresh : (t : ℕ) (b : Bool) → lookup (◌==◌ e.ticket) first ≡ None → (t == e.ticket) ≡ b → lookup (◌==◌ t) next ≡ (if b then Some (length es) else lookup (◌==◌ t) first)
  fresh t b is same =
      noted t ∙ (ap (λ o. if is_some o then lookup (◌==◌ t) first else (if t == e.ticket then Some (length es) else lookup (◌==◌ t) first)) is
      ∙ ap (λ c. if c then Some (length es) else lookup (◌==◌ t) first) same)

  -- the ticket of the write itself
  own : (i : ℕ) (x : Logged) → i ≡ length es → x ≡ e → (o : Option ℕ) → lookup (◌==◌ e.ticket) first ≡ o → (f : ℕ) × (lookup (◌==◌ x.ticket) next ≡ Some f) × (f ≤ i)
  own i x place same (Some g) is =
      let less : g < length es = log.within e.ticket g is in
      (g, ap (λ (y : Logged). lookup (◌==◌ y.ticket) next) same ∙ (still e.ticket g is ∙ is), omega (arith, less, place))
  own i x place same None is =
      (length es, ap (λ (y : Logged). lookup (◌==◌ y.ticket) next) same ∙ fresh e.ticket true is (eq-eqb e.ticket e.ticket refl), omega (arith, place))

  -- what was noted stays
  kept : (t f : ℕ) → lookup (◌==◌ t) first ≡ Some f → (o : Option ℕ) → lookup (◌==◌ e.ticket) first ≡ o → lookup (◌==◌ t) next ≡ Some f
  kept t f at (Some g) is = still t g is ∙ at
  kept t f at None is = fresh t false is (ne_eqb t e.ticket (λ same. none_is_not_some f (sym (ap (λ u. lookup (◌==◌ u) first) same ∙ is) ∙ at))) ∙ at

  earlier : (i : ℕ) (x : Logged) → slice_get es i ≡ Some x → (f : ℕ) × (lookup (◌==◌ x.ticket) first ≡ Some f) × (f ≤ i) → (f : ℕ) × (lookup (◌==◌ x.ticket) next ≡ Some f) × (f ≤ i)
  earlier i x old (f, at, below) = (f, kept x.ticket f at (lookup (◌==◌ e.ticket) first) refl, below)

  longer : length (es ++ e ∷ []) ≡ length es + 1
  longer = length_push es e

  bounded : (t f : ℕ) → (o : Option ℕ) → lookup (◌==◌ e.ticket) first ≡ o → (b : Bool) → (t == e.ticket) ≡ b → lookup (◌==◌ t) next ≡ Some f → f < length (es ++ e ∷ [])
  bounded t f (Some g) is b same at = omega (arith, log.within t f (sym (still t g is) ∙ at), longer)
  bounded t f None is true same at = let number : length es ≡ f = same_some _ _ (sym (fresh t true is same) ∙ at) in omega (arith, longer)
  bounded t f None is false same at = omega (arith, log.within t f (sym (fresh t false is same) ∙ at), longer)

-- the places after it
pub sets_after : (es : List Logged) (sets : List Writes) (e : Logged) → held_sets es ≡ sets → held_sets (es ++ e ∷ []) ≡ sets ++ (held_at sets e.before ++ (e.ticket, e.write) ∷ []) ∷ []
sets_after es sets e view = sets-append ([] ∷ []) es e ∙ ap (λ s. s ++ held_behind s e ∷ []) view

pub next_place : (es : List Logged) (sets : List Writes) → held_sets es ≡ sets → length es + 1 ≡ length sets
next_place es sets view = sym (places es) ∙ ap length view
