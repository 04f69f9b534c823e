-- The check's walk over places: what is late, what steps, and what holds after one place more.
use Rattle.std.proofs.Common.{ℕ, zero, suc, ◌≡◌, ◌<◌, ◌≤◌, ◌↔◌, ◌⊎◌, inl, inr, List, [], ◌∷◌, ◌++◌, length, take, refl, sym, ap, subst, ◌∙◌, arith, Bool, true, false, Option, Some, None, slice_get}
use Rattle.std.specs.Prelude.{IsSome, MatchOption, set}
use Rattle.std.proofs.Math.Seq.{take-length}
use Rattle.version_pair.specs.declared.pair.Pair.{Pair}
use Rattle.doc_register.specs.declared.op.Op.{Op}
use Rattle.doc_register.specs.declared.reply.Reply.{Reply}
use Rattle.doc_register.specs.declared.state.Conflicts.{Conflicts}
use Rattle.doc_register.specs.declared.state.DocState.{DocState}
use Rattle.doc_register.specs.declared.state.DocState.TheVariants.{Never}
use Rattle.doc_register.specs.Register.{performed_reply}
use Rattle.doc_register.proofs.RunLaws.{step_decided}
use Rattle.events.specs.declared.record.Rec.{Rec}
use Rattle.version_pair.proofs.ListLemmas.{get_front, get_last, get_snoc, get_take, none_is_not_some, same_some, slice_get-set_other, slice_get-set_same, take_one_more}
use Rattle.std.proofs.lemmas.Bool.{cases_eq}
use Rattle.std.proofs.lemmas.List.{length-set}
use Rattle.std.proofs.lemmas.Option.{slice_get_within}
use Rattle.places.specs.declared.broken.Broken.{Broken}
use Rattle.places.specs.declared.broken.Broken.TheVariants.{Stranger, Twice, Absent, Late, PairMissing, PairGiven, Illegal, NoMemory}
use Rattle.places.specs.declared.place.Place.{Place}
use Rattle.places.specs.Places.{AreValidSoFar, AreValid, GivesAsMay, IsHeardBefore, IsNamed, IsPlaceOf, IsPlaceRun, IsUnansweredGet, StepsAt}
use Rattle.places.specs.Faults.{IsFirstFault, IsFresh, IsLate, IsReached}
use Rattle.places.specs.aids.Walks.{AllNamedBelow, IsAbsent, IsNextStep, IsWalked}

-- ---- late

heard_later : (heard : Option (ℕ × Reply)) (a b : ℕ) → a ≤ b → IsHeardBefore heard a → IsHeardBefore heard b
heard_later None a b less before = before
heard_later (Some h) a b less before = omega arith

not_before_start : (heard : Option (ℕ × Reply)) (a : ℕ) → a ≡ 0 → IsHeardBefore heard a → ⊥
not_before_start None a none before = before
not_before_start (Some h) a none before = omega arith

pub late_is : (conflicts : Conflicts) (records : List Rec) (places : List Place) (i : ℕ) (marks : List Bool) (latest : ℕ) (s : DocState) (r : Rec)
    → IsWalked conflicts records (take i places) marks latest s → IsHeardBefore r.heard r.call_at ⊎ IsHeardBefore r.heard latest → IsLate records places i r
late_is conflicts records places i marks latest s r walked (inl own) = inl own
late_is conflicts records places i marks latest s r walked (inr before) = elim walked.reached as (λ _. IsLate records places i r) [
  | inl none ↦ absurd (not_before_start r.heard latest none before)
  | inr some ↦ inr (some.0, some.1, some.2, some.3, some.4, heard_later r.heard latest some.2.call_at (let same = some.5 in omega arith) before)
]

pub late_not : (conflicts : Conflicts) (records : List Rec) (places : List Place) (i : ℕ) (marks : List Bool) (latest : ℕ) (s : DocState) (r : Rec)
    → IsWalked conflicts records (take i places) marks latest s → ((IsHeardBefore r.heard r.call_at ⊎ IsHeardBefore r.heard latest) → ⊥) → IsLate records places i r → ⊥
late_not conflicts records places i marks latest s r walked not (inl own) = not (inl own)
late_not conflicts records places i marks latest s r walked not (inr other) =
    not (inr (heard_later r.heard other.2.call_at latest (walked.greatest other.0 other.1 other.2 other.3 other.4) other.5))

-- ---- steps

pub steps_decided : (s : DocState) (op : Op) (heard : Option (ℕ × Reply)) (pair : Option Pair) (t u : DocState) → StepsAt s op heard pair t → StepsAt s op heard pair u → t ≡ u
steps_decided s op (Some h) pair t u a b = step_decided s op h.1 pair t u a b
steps_decided s op None (Some q) t u a b = step_decided s op (performed_reply s op q) None t u a b
steps_decided s op None None t u a b = absurd a

pub only_state : (records : List Rec) (s : DocState) (ps : List Place) (t u : DocState) → IsPlaceRun records s ps t → IsPlaceRun records s ps u → t ≡ u
only_state records s [] t u a b = a ∙ sym b
only_state records s (p ∷ ps) t u a b =
    let same : a.1 ≡ b.1 = same_some a.1 b.1 (sym a.2 ∙ b.2) in
    let middle : a.0 ≡ b.0 = steps_decided s b.1.op b.1.heard p.pair a.0 b.0 (subst (λ r. StepsAt s r.op r.heard p.pair a.0) same a.3) b.3 in
    only_state records b.0 ps t u (subst (λ m. IsPlaceRun records m ps t) middle a.4) b.4

pub stuck_along : (records : List Rec) (front : List Place) (m : DocState) (r : Rec) (pair : Option Pair) → IsPlaceRun records Never front m
    → ((t : DocState) → StepsAt m r.op r.heard pair t → ⊥) → (s t : DocState) → IsPlaceRun records Never front s → StepsAt s r.op r.heard pair t → ⊥
stuck_along records front m r pair run stuck s t other step =
    stuck t (subst (λ k. StepsAt k r.op r.heard pair t) (only_state records Never front s m other run) step)

-- ---- one place

pub reached_at : (conflicts : Conflicts) (records : List Rec) (places : List Place) (i : ℕ) (p : Place) (marks : List Bool) (latest : ℕ) (s : DocState)
    → slice_get places i ≡ Some p → IsWalked conflicts records (take i places) marks latest s → IsReached conflicts records places i p
reached_at conflicts records places i p marks latest s here walked = record { here = here; right = walked.right }

pub fresh_at : (conflicts : Conflicts) (records : List Rec) (places : List Place) (i : ℕ) (p : Place) (r : Rec) (marks : List Bool) (latest : ℕ) (s : DocState)
    → slice_get places i ≡ Some p → IsWalked conflicts records (take i places) marks latest s → IsPlaceOf records p r → (IsUnansweredGet r → ⊥)
    → slice_get marks p.rec ≡ Some false → IsFresh conflicts records places i p r
fresh_at conflicts records places i p r marks latest s here walked names known unmarked = record {
  reached = reached_at conflicts records places i p marks latest s here walked;
  names = names;
  known = known;
  fresh = λ named.
      let marked : slice_get marks p.rec ≡ Some true = (walked.marked p.rec).1 named in
      let impossible : Some true ≡ Some false = sym marked ∙ unmarked in
      cc;
}

pub pair_fault_is : (conflicts : Conflicts) (records : List Rec) (places : List Place) (i : ℕ) (p : Place) (r : Rec) (heard : Option (ℕ × Reply)) (pair : Option Pair) (b : Broken)
    → r.heard ≡ heard → p.pair ≡ pair → IsFresh conflicts records places i p r → (GivesAsMay conflicts r.heard p.pair → ⊥) → MatchOption heard (b ≡ PairMissing i) (λ _. b ≡ PairGiven i)
    → IsFirstFault conflicts records places b
pair_fault_is conflicts records places i p r None None b is pair_is fresh not fault =
    subst (IsFirstFault conflicts records places) (sym fault) (p, r, fresh, is, pair_is)
pair_fault_is conflicts records places i p r None (Some q) b is pair_is fresh not fault =
    absurd (not (subst (λ h. GivesAsMay conflicts h p.pair) (sym is) (subst (λ o. IsSome o) (sym pair_is) refl)))
pair_fault_is conflicts records places i p r (Some h) pair b is pair_is fresh not fault =
    subst (IsFirstFault conflicts records places) (sym fault) (p, r, fresh, subst (λ o. IsSome o) (sym is) refl, not)

-- ---- lists

-- ---- one place more

pub run_append : (records : List Rec) (s m t : DocState) (ps qs : List Place) → IsPlaceRun records s ps m → IsPlaceRun records m qs t → IsPlaceRun records s (ps ++ qs) t
run_append records s m t [] qs a b = subst (λ k. IsPlaceRun records k qs t) a b
run_append records s m t (p ∷ ps) qs a b = (a.0, a.1, a.2, a.3, run_append records a.0 m t ps qs a.4 b)

-- what the next place brings: its record, which may be named and is not yet, with a pair as it may give, in time, and its step
record IsNext (conflicts : Conflicts) (records : List Rec) (front : List Place) (p : Place) (r : Rec) (s t : DocState) : Type 0 where
  names : IsPlaceOf records p r
  known : IsUnansweredGet r → ⊥
  fresh : IsNamed front p.rec → ⊥
  gives : GivesAsMay conflicts r.heard p.pair
  own_in_time : IsHeardBefore r.heard r.call_at → ⊥
  in_time : (j : ℕ) (q : Place) (o : Rec) → slice_get front j ≡ Some q → IsPlaceOf records q o → IsHeardBefore r.heard o.call_at → ⊥
  steps : StepsAt s r.op r.heard p.pair t

run_more : (conflicts : Conflicts) (records : List Rec) (front : List Place) (p : Place) (r : Rec) (s t : DocState)
    → IsPlaceRun records Never front s → IsNext conflicts records front p r s t → IsPlaceRun records Never (front ++ p ∷ []) t
run_more conflicts records front p r s t run next = run_append records Never s t front (p ∷ []) run (t, r, next.names, next.steps, refl)

right_more : (conflicts : Conflicts) (records : List Rec) (front : List Place) (p : Place) (r : Rec) (s t : DocState)
    → AreValidSoFar conflicts records front → IsPlaceRun records Never front s → IsNext conflicts records front p r s t → AreValidSoFar conflicts records (front ++ p ∷ [])
right_more conflicts records front p r s t right run next = record {
  known = λ i q at. elim (get_snoc front p q i at) as (λ _. (o : Rec) × IsPlaceOf records q o × (IsUnansweredGet o → ⊥)) [
    | inl before ↦ right.known i q before
    | inr last ↦ (r, subst (λ o. IsPlaceOf records o r) last.1 next.names, next.known)
  ];
  once = λ i j q u at bt same. elim (get_snoc front p q i at) as (λ _. i ≡ j) [
    | inl before ↦ elim (get_snoc front p u j bt) as (λ _. i ≡ j) [
      | inl first ↦ right.once i j q u before first same
      | inr last ↦ absurd (next.fresh (i, q, before, same ∙ ap (λ o. o.rec) (sym last.1)))
    ]
    | inr end ↦ elim (get_snoc front p u j bt) as (λ _. i ≡ j) [
      | inl first ↦ absurd (next.fresh (j, u, first, sym same ∙ ap (λ o. o.rec) (sym end.1)))
      | inr last ↦ end.0 ∙ sym last.0
    ]
  ];
  pairs = λ i q o at names. elim (get_snoc front p q i at) as (λ _. GivesAsMay conflicts o.heard q.pair) [
    | inl before ↦ right.pairs i q o before names
    | inr last ↦
        let named : IsPlaceOf records p o = subst (λ u. IsPlaceOf records u o) (sym last.1) names in
        let same : r ≡ o = same_some r o (sym next.names ∙ named) in
        subst (λ u. GivesAsMay conflicts o.heard u.pair) last.1 (subst (λ k. GivesAsMay conflicts k.heard p.pair) same next.gives)
  ];
  in_time = λ i j q u o v less at bt of_q of_u. elim (get_snoc front p u j bt) as (λ _. IsHeardBefore v.heard o.call_at → ⊥) [
    | inl first ↦ elim (get_snoc front p q i at) as (λ _. IsHeardBefore v.heard o.call_at → ⊥) [
      | inl before ↦ right.in_time i j q u o v less before first of_q of_u
      | inr end ↦ let within : j < length front = slice_get_within front j u first in let here : i ≡ length front = end.0 in absurd (omega arith)
    ]
    | inr last ↦
        let named : IsPlaceOf records p v = subst (λ k. IsPlaceOf records k v) (sym last.1) of_u in
        let same : r ≡ v = same_some r v (sym next.names ∙ named) in
        elim (get_snoc front p q i at) as (λ _. IsHeardBefore v.heard o.call_at → ⊥) [
          | inl before ↦ λ late. next.in_time i q o before of_q (subst (λ k. IsHeardBefore k.heard o.call_at) (sym same) late)
          | inr end ↦
              let own : IsPlaceOf records p o = subst (λ k. IsPlaceOf records k o) (sym end.1) of_q in
              let mine : r ≡ o = same_some r o (sym next.names ∙ own) in
              λ late. next.own_in_time (subst (λ k. IsHeardBefore r.heard k.call_at) (sym mine) (subst (λ k. IsHeardBefore k.heard o.call_at) (sym same) late))
        ]
  ];
  legal = (t, run_more conflicts records front p r s t run next);
}

named_before : (front : List Place) (p : Place) (k : ℕ) → IsNamed front k → IsNamed (front ++ p ∷ []) k
named_before front p k named = (named.0, named.1, get_front front (p ∷ []) named.0 named.1 named.2, named.3)

named_last : (front : List Place) (p : Place) → IsNamed (front ++ p ∷ []) p.rec
named_last front p = (length front, p, get_last front p, refl)

named_or_last : (front : List Place) (p : Place) (k : ℕ) → IsNamed (front ++ p ∷ []) k → IsNamed front k ⊎ (k ≡ p.rec)
named_or_last front p k named = elim (get_snoc front p named.1 named.0 named.2) as (λ _. IsNamed front k ⊎ (k ≡ p.rec)) [
  | inl before ↦ inl (named.0, named.1, before, named.3)
  | inr last ↦ inr (sym (ap (λ o. o.rec) last.1 ∙ named.3))
]

marked_more : (front : List Place) (p : Place) (marks : List Bool) → p.rec < length marks → ((k : ℕ) → (slice_get marks k ≡ Some true) ↔ IsNamed front k)
    → (k : ℕ) → (slice_get (set marks p.rec true) k ≡ Some true) ↔ IsNamed (front ++ p ∷ []) k
marked_more front p marks within marked k = elim (cases_eq k p.rec) as (λ _. (slice_get (set marks p.rec true) k ≡ Some true) ↔ IsNamed (front ++ p ∷ []) k) [
  | inl same ↦ (
    λ _. subst (IsNamed (front ++ p ∷ [])) (sym same) (named_last front p),
    λ _. subst (λ j. slice_get (set marks p.rec true) j ≡ Some true) (sym same) (slice_get-set_same marks p.rec true within),
  )
  | inr other ↦ (
    λ set_is. named_before front p k ((marked k).0 (sym (slice_get-set_other marks p.rec k true other) ∙ set_is)),
    λ named. elim (named_or_last front p k named) as (λ _. slice_get (set marks p.rec true) k ≡ Some true) [
      | inl before ↦ slice_get-set_other marks p.rec k true other ∙ (marked k).1 before
      | inr same ↦ absurd (other same)
    ],
  )
]

-- the latest call after one place more
record IsLatest (old at new : ℕ) : Type 0 where
  grows : old ≤ new
  within : at ≤ new
  one : (new ≡ old) ⊎ (new ≡ at)

walked_more : (conflicts : Conflicts) (records : List Rec) (front : List Place) (marks : List Bool) (latest new : ℕ) (p : Place) (r : Rec) (s t : DocState)
    → IsWalked conflicts records front marks latest s → IsNext conflicts records front p r s t → IsLatest latest r.call_at new
    → IsWalked conflicts records (front ++ p ∷ []) (set marks p.rec true) new t
walked_more conflicts records front marks latest new p r s t walked next later =
    let size = walked.size in
    let named : p.rec < length records = slice_get_within records p.rec r next.names in
    record {
      right = right_more conflicts records front p r s t walked.right walked.run next;
      run = run_more conflicts records front p r s t walked.run next;
      size = length-set marks p.rec true ∙ size;
      marked = marked_more front p marks (omega arith) walked.marked;
      greatest = λ i q o at names. elim (get_snoc front p q i at) as (λ _. o.call_at ≤ new) [
        | inl before ↦ let old : o.call_at ≤ latest = walked.greatest i q o before names in let grows : latest ≤ new = later.grows in omega arith
        | inr last ↦
            let same : r ≡ o = same_some r o (sym next.names ∙ subst (λ u. IsPlaceOf records u o) (sym last.1) names) in
            subst (λ k. k.call_at ≤ new) same later.within
      ];
      reached = elim later.one as (λ _. (new ≡ 0) ⊎ ((i : ℕ) × (q : Place) × (o : Rec) × (slice_get (front ++ p ∷ []) i ≡ Some q) × IsPlaceOf records q o × (o.call_at ≡ new))) [
        | inl kept ↦ elim walked.reached as (λ _. (new ≡ 0) ⊎ ((i : ℕ) × (q : Place) × (o : Rec) × (slice_get (front ++ p ∷ []) i ≡ Some q) × IsPlaceOf records q o × (o.call_at ≡ new))) [
          | inl none ↦ inl (kept ∙ none)
          | inr some ↦ inr (some.0, some.1, some.2, get_front front (p ∷ []) some.0 some.1 some.3, some.4, some.5 ∙ sym kept)
        ]
        | inr is ↦ inr (length front, p, r, get_last front p, next.names, sym is)
      ];
    }

next_of_step : (conflicts : Conflicts) (records : List Rec) (places : List Place) (i : ℕ) (r : Rec) (s t : DocState) → (n : IsNextStep conflicts records places i r s t)
    → IsNext conflicts records (take i places) n.place r s t
next_of_step conflicts records places i r s t n = record {
  names = n.fresh.names;
  known = n.fresh.known;
  fresh = n.fresh.fresh;
  gives = n.gives;
  own_in_time = λ late. n.in_time (inl late);
  in_time = λ j q o at of_q late. n.in_time (inr (j, q, o, at, of_q, late));
  steps = n.steps;
}

-- the walk goes on over the place at i
pub walked_next : (conflicts : Conflicts) (records : List Rec) (places : List Place) (i : ℕ) (marks news : List Bool) (latest new : ℕ) (p : Place) (r : Rec) (s t u : DocState)
    → IsWalked conflicts records (take i places) marks latest s → IsNextStep conflicts records places i r s t → slice_get places i ≡ Some p → news ≡ set marks p.rec true
    → u ≡ t → (latest ≤ new) × (r.call_at ≤ new) × ((new ≡ latest) ⊎ (new ≡ r.call_at)) → IsWalked conflicts records (take (suc i) places) news new u
walked_next conflicts records places i marks news latest new p r s t u walked n at set_is state_is later =
    let same : n.place ≡ p = same_some n.place p (sym n.fresh.reached.here ∙ at) in
    let next : IsNext conflicts records (take i places) p r s t = subst (λ q. IsNext conflicts records (take i places) q r s t) same (next_of_step conflicts records places i r s t n) in
    subst (λ k. IsWalked conflicts records (take (suc i) places) news new k) (sym state_is)
    (subst (λ ms. IsWalked conflicts records (take (suc i) places) ms new t) (sym set_is)
    (subst (λ ps. IsWalked conflicts records ps (set marks p.rec true) new t) (sym (take_one_more places i p at))
    (walked_more conflicts records (take i places) marks latest new p r s t walked next (record { grows = later.0; within = later.1; one = later.2 }))))

-- the record of the next place has a mark to set
pub within_marks : (conflicts : Conflicts) (records : List Rec) (places : List Place) (i : ℕ) (marks : List Bool) (latest : ℕ) (p : Place) (r : Rec) (s t : DocState)
    → IsWalked conflicts records (take i places) marks latest s → IsNextStep conflicts records places i r s t → slice_get places i ≡ Some p → p.rec < length marks
within_marks conflicts records places i marks latest p r s t walked n at =
    let same : n.place ≡ p = same_some n.place p (sym n.fresh.reached.here ∙ at) in
    let named : p.rec < length records = slice_get_within records p.rec r (subst (λ q. IsPlaceOf records q r) same n.fresh.names) in
    let size = walked.size in
    omega arith

-- ---- the end of the walk

pub all_valid : (conflicts : Conflicts) (records : List Rec) (places : List Place) (marks : List Bool) (latest : ℕ) (s : DocState)
    → IsWalked conflicts records places marks latest s → AllNamedBelow records marks (length records) → AreValid conflicts records places
all_valid conflicts records places marks latest s walked named = record {
  right = walked.right;
  answered = λ k r at heard. (walked.marked k).0 (named k r (slice_get_within records k r at) at heard);
}

pub one_absent : (conflicts : Conflicts) (records : List Rec) (places : List Place) (marks : List Bool) (latest : ℕ) (s : DocState) (k : ℕ)
    → IsWalked conflicts records places marks latest s → IsAbsent records marks k → AllNamedBelow records marks k → IsFirstFault conflicts records places (Absent k)
one_absent conflicts records places marks latest s k walked missing named = (
  missing.0,
  walked.right,
  missing.1,
  missing.2,
  λ at. missing.3 ((walked.marked k).1 at),
  λ j r less at heard. (walked.marked j).0 (named j r less at heard),
)

-- ---- a fault rules out that the places are valid

run_at : (records : List Rec) (s t : DocState) (places : List Place) (i : ℕ) (p : Place) → IsPlaceRun records s places t → slice_get places i ≡ Some p
    → (m u : DocState) × (r : Rec) × IsPlaceRun records s (take i places) m × IsPlaceOf records p r × StepsAt m r.op r.heard p.pair u
run_at records s t [] i p run at = absurd (none_is_not_some p at)
run_at records s t (q ∷ places) zero p run at =
    (s, run.0, run.1, refl, subst (λ k. IsPlaceOf records k run.1) (same_some q p at) run.2, subst (λ k. StepsAt s run.1.op run.1.heard k.pair run.0) (same_some q p at) run.3)
run_at records s t (q ∷ places) (suc i) p run at =
    let rest = run_at records run.0 t places i p run.4 at in
    (rest.0, rest.1, rest.2, (run.0, run.1, run.2, run.3, rest.3), rest.4, rest.5)

missing_pair : (conflicts : Conflicts) (heard : Option (ℕ × Reply)) (pair : Option Pair) → heard ≡ None → pair ≡ None → GivesAsMay conflicts heard pair → ⊥
missing_pair conflicts None None is none gives = let impossible : false ≡ true = gives in cc
missing_pair conflicts None (Some q) is none gives = none_is_not_some q (sym none)
missing_pair conflicts (Some h) pair is none gives = none_is_not_some h (sym is)

late_not_valid : (conflicts : Conflicts) (records : List Rec) (places : List Place) (i : ℕ) (p : Place) (r : Rec) → AreValidSoFar conflicts records places
    → slice_get places i ≡ Some p → IsPlaceOf records p r → IsLate records places i r → ⊥
late_not_valid conflicts records places i p r right at names (inl own) = right.in_time i i p p r r (omega arith) at at names names own
late_not_valid conflicts records places i p r right at names (inr other) =
    let before = get_take places i other.0 other.1 other.3 in
    let less : other.0 < i = before.1 in
    right.in_time other.0 i other.1 p other.2 r (omega arith) before.0 at other.4 names other.5

illegal_not_valid : (conflicts : Conflicts) (records : List Rec) (places : List Place) (i : ℕ) (p : Place) (r : Rec) → AreValidSoFar conflicts records places
    → slice_get places i ≡ Some p → IsPlaceOf records p r → ((s t : DocState) → IsPlaceRun records Never (take i places) s → StepsAt s r.op r.heard p.pair t → ⊥) → ⊥
illegal_not_valid conflicts records places i p r right at names stuck =
    let here = run_at records Never right.legal.0 places i p right.legal.1 at in
    let same : here.2 ≡ r = same_some here.2 r (sym here.4 ∙ names) in
    stuck here.0 here.1 here.3 (subst (λ k. StepsAt here.0 k.op k.heard p.pair here.1) same here.5)

pub fault_not_valid : (conflicts : Conflicts) (records : List Rec) (places : List Place) (b : Broken) → IsFirstFault conflicts records places b → AreValid conflicts records places → ⊥
fault_not_valid conflicts records places (Stranger i) fault valid =
    let known = valid.right.known i fault.0 fault.1.here in known.2 (fault.2 known.0 known.1)
fault_not_valid conflicts records places (Twice i) fault valid =
    let named = fault.5 in
    let before = get_take places i named.0 named.1 named.2 in
    let less : named.0 < i = before.1 in
    let same : named.0 ≡ i = valid.right.once named.0 i named.1 fault.0 before.0 fault.2.here named.3 in
    omega arith
fault_not_valid conflicts records places (PairMissing i) fault valid =
    missing_pair conflicts fault.1.heard fault.0.pair fault.3 fault.4 (valid.right.pairs i fault.0 fault.1 fault.2.reached.here fault.2.names)
fault_not_valid conflicts records places (PairGiven i) fault valid = fault.4 (valid.right.pairs i fault.0 fault.1 fault.2.reached.here fault.2.names)
fault_not_valid conflicts records places (Late i) fault valid = late_not_valid conflicts records places i fault.0 fault.1 valid.right fault.2.reached.here fault.2.names fault.4
fault_not_valid conflicts records places (Illegal i) fault valid =
    illegal_not_valid conflicts records places i fault.0 fault.1 valid.right fault.2.reached.here fault.2.names fault.5
fault_not_valid conflicts records places (Absent k) fault valid = fault.4 (valid.answered k fault.0 fault.2 fault.3)
fault_not_valid conflicts records places NoMemory fault valid = absurd fault

-- a walk to the end of the places is over them all
pub walked_all : (conflicts : Conflicts) (records : List Rec) (places : List Place) (i : ℕ) (marks : List Bool) (latest : ℕ) (s : DocState)
    → i ≡ length places → IsWalked conflicts records (take i places) marks latest s → IsWalked conflicts records places marks latest s
walked_all conflicts records places i marks latest s end walked =
    subst (λ front. IsWalked conflicts records front marks latest s) (ap (λ k. take k places) end ∙ take-length places) walked
