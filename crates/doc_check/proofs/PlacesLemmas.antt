-- Valid places that give no pair: their performed writes are the chain, and each answered record stands in a stretch that it
-- fits.
use Rattle.std.proofs.Common.{ℕ, zero, suc, ◌≡◌, ◌<◌, ◌≤◌, ◌+◌, inl, inr, List, [], ◌∷◌, length, refl, sym, ap, subst, ◌∙◌, arith, Option, Some, None, slice_get, slice_index_or, map}
use Rattle.std.specs.Prelude.{IsSome}
use Rattle.std.proofs.lemmas.Bool.{cases_lt}
use Rattle.version_pair.specs.declared.pair.Pair.{Pair}
use Rattle.version_pair.specs.PairOrder.{IsBelow}
use Rattle.doc_register.specs.declared.op.Op.{Op}
use Rattle.doc_register.specs.declared.op.Op.TheVariants.{Get, Index, Delete, Create}
use Rattle.doc_register.specs.declared.reply.Reply.{Reply}
use Rattle.doc_register.specs.declared.state.Conflicts.{Conflicts}
use Rattle.doc_register.specs.declared.state.DocState.{DocState}
use Rattle.doc_register.specs.declared.state.DocState.TheVariants.{Never, Gone, Here}
use Rattle.doc_register.specs.Register.{DocStep, Exceeds, Performs, performed_state}
use Rattle.doc_register.proofs.RunLemmas.{below_new, leaves_pair, step_kind}
use Rattle.events.specs.declared.record.Rec.{Rec}
use Rattle.version_pair.proofs.ListLemmas.{none_is_not_some, same_some}
use Rattle.places.specs.declared.place.Place.{Place}
use Rattle.places.specs.Places.{AreValid, IsHeardBefore, IsPlaceOf, IsPlaceRun, StepsAt}
use Rattle.doc_check.specs.NoOrders.{AreUnpaired}
use Rattle.write_chain.specs.Chain.{IsChain, after_link, link_at, performed_records, written}
use Rattle.events.specs.Heard.{pair_of}
use Rattle.doc_check.specs.aids.Stretches.{Fits, FitsAs, ReadFits, cap, state_in, states_of}
use Rattle.doc_check.specs.aids.Sweep.{AreSpread, StandsIn, level, link_count, pair_at}
use Rattle.version_pair.proofs.SortedLists.{Has, has_back, has_moved}
use Rattle.doc_check.proofs.ChainLemmas.{Climbs, chain_climbs, link_record, performed_has, same_climbing}

-- the performed writes of the places, in their order
abbrev pub links : List Rec → List Place → List (Pair × ℕ)
links records [] = []
links records (p ∷ ps) = link_at p.rec (pair_at (slice_get records p.rec)) (links records ps)

-- ---- one step without a given pair

-- an answered call without a given pair takes the pair that its reply shows, or changes nothing
data Kind (s : DocState) (r : Rec) (t : DocState) : Type 0 where
  takes : (q : Pair) → pair_of r.heard ≡ Some q → Performs s r.op q t → Kind s r t
  stays : pair_of r.heard ≡ None → t ≡ s → Kind s r t

kind_of : (s : DocState) (r : Rec) (heard : Option (ℕ × Reply)) (pair : Option Pair) (t : DocState) → r.heard ≡ heard → pair ≡ None → StepsAt s r.op heard pair t → Kind s r t
kind_of s r None None t is none step = absurd step
kind_of s r None (Some q) t is none step = absurd (none_is_not_some q (sym none))
kind_of s r (Some h) pair t is none step =
    elim (step_kind s r.op h.1 None t (subst (λ o. DocStep s r.op h.1 o t) none step)) as (λ _. Kind s r t) [
      | inl nothing ↦ stays (ap pair_of is ∙ nothing.0) nothing.1
      | inr write ↦ takes write.0 (ap pair_of is ∙ write.1) write.2
    ]

-- what a performed write leaves depends on nothing before it
written_is : (s : DocState) (op : Op) (q : Pair) (t : DocState) → Performs s op q t → t ≡ performed_state Never op q
written_is s Get q t w = absurd w.allowed
written_is s (Index k c) q t w = w.leaves
written_is s (Delete c) q t w = w.leaves
written_is s (Create k) q t w = w.leaves

after_is : (records : List Rec) (p : Place) (r : Rec) (s : DocState) (q : Pair) (t : DocState) → IsPlaceOf records p r → Performs s r.op q t
    → t ≡ after_link records (q, p.rec)
after_is records p r s q t names w = written_is s r.op q t w ∙ sym (ap (λ o. written o q) names)

-- ---- the pairs rise

AllExceed : DocState → List (Pair × ℕ) → Type 0
AllExceed s cs = (i : ℕ) (c : Pair × ℕ) → slice_get cs i ≡ Some c → Exceeds c.0 s

-- a pair above the one that a write left
above_left : (s : DocState) (op : Op) (q : Pair) (t : DocState) (p : Pair) → Performs s op q t → Exceeds p t → IsBelow q p
above_left s op q t p w x = below_new q p t (leaves_pair s op q t q w (inl refl)) x

still_exceeds : (s : DocState) (op : Op) (q : Pair) (t : DocState) (p : Pair) → Performs s op q t → Exceeds p t → Exceeds p s
still_exceeds Never op q t p w x = tt
still_exceeds (Gone o) op q t p w x = below_new o p t (leaves_pair (Gone o) op q t o w (inr w.rises)) x
still_exceeds (Here o k) op q t p w x = below_new o p t (leaves_pair (Here o k) op q t o w (inr w.rises)) x

-- the performed writes take pairs above the document's, each above those before it
record Rising (s : DocState) (cs : List (Pair × ℕ)) : Type 0 where
  above : AllExceed s cs
  climbs : Climbs cs

rising_run : (records : List Rec) (s : DocState) (ps : List Place) (t : DocState) → AreUnpaired ps → IsPlaceRun records s ps t → Rising s (links records ps)
unfolding AllExceed
rising_run records s [] t none run = record { above = λ i c at. absurd (none_is_not_some c at); climbs = λ i j a b less at bt. absurd (none_is_not_some a at) }
rising_run records s (p ∷ ps) t none (m, r, names, step, rest) =
    by_kind (kind_of s r r.heard p.pair m refl (none 0 p refl) step) (rising_run records m ps t (λ i q at. none (suc i) q at) rest) where
      by_kind : Kind s r m → Rising m (links records ps) → Rising s (link_at p.rec (pair_at (slice_get records p.rec)) (links records ps))
      by_kind (stays is same) later = subst (λ o. Rising s (link_at p.rec o (links records ps))) (sym (ap pair_at names ∙ is)) (subst (λ k. Rising k (links records ps)) same later)
      by_kind (takes q is w) later = subst (λ o. Rising s (link_at p.rec o (links records ps))) (sym (ap pair_at names ∙ is)) (record {
        above = first_above q w later;
        climbs = first_climbs q w later;
      }) where
        first_above : (q : Pair) → Performs s r.op q m → Rising m (links records ps) → AllExceed s ((q, p.rec) ∷ links records ps)
        first_above q w later zero c at = subst (λ d. Exceeds d.0 s) (same_some (q, p.rec) c at) w.rises
        first_above q w later (suc i) c at = still_exceeds s r.op q m c.0 w (later.above i c at)

        first_climbs : (q : Pair) → Performs s r.op q m → Rising m (links records ps) → Climbs ((q, p.rec) ∷ links records ps)
        first_climbs q w later zero zero a b less at bt = absurd (omega arith)
        first_climbs q w later zero (suc j) a b less at bt = subst (λ d. IsBelow d.0 b.0) (same_some (q, p.rec) a at) (above_left s r.op q m b.0 w (later.above j b bt))
        first_climbs q w later (suc i) zero a b less at bt = absurd (omega arith)
        first_climbs q w later (suc i) (suc j) a b less at bt = later.climbs i j a b (omega arith) at bt

-- ---- which links they are

-- a place's link stands among them, at its level
pub link_at_level : (records : List Rec) (ps : List Place) (i : ℕ) (p : Place) (q : Pair) → slice_get ps i ≡ Some p → pair_at (slice_get records p.rec) ≡ Some q
    → slice_get (links records ps) (level records ps i) ≡ Some (q, p.rec)
link_at_level records [] i p q at is = absurd (none_is_not_some p at)
link_at_level records (o ∷ ps) zero p q at is =
    let same : o ≡ p = same_some o p at in
    ap (λ k. slice_get (link_at k.rec (pair_at (slice_get records k.rec)) (links records ps)) 0) same
    ∙ ap (λ d. slice_get (link_at p.rec d (links records ps)) 0) is
link_at_level records (o ∷ ps) (suc i) p q at is = by_link (pair_at (slice_get records o.rec)) (link_at_level records ps i p q at is) where
  by_link : (d : Option Pair) → slice_get (links records ps) (level records ps i) ≡ Some (q, p.rec)
      → slice_get (link_at o.rec d (links records ps)) (link_count d + level records ps i) ≡ Some (q, p.rec)
  by_link None here = ap (slice_get (links records ps)) (let e : 0 + level records ps i ≡ level records ps i = omega arith in e) ∙ here
  by_link (Some c) here =
      ap (slice_get ((c, o.rec) ∷ links records ps)) (let e : 1 + level records ps i ≡ suc (level records ps i) = omega arith in e) ∙ here

-- each link is of a place
pub link_of_place : (records : List Rec) (ps : List Place) (j : ℕ) (c : Pair × ℕ) → slice_get (links records ps) j ≡ Some c
    → (i : ℕ) × (p : Place) × (slice_get ps i ≡ Some p) × (p.rec ≡ c.1) × (pair_at (slice_get records p.rec) ≡ Some c.0)
link_of_place records [] j c at = absurd (none_is_not_some c at)
link_of_place records (p ∷ ps) j c at = by_link (pair_at (slice_get records p.rec)) refl j at (λ k e. link_of_place records ps k c e) where
  by_link : (d : Option Pair) → pair_at (slice_get records p.rec) ≡ d → (j : ℕ) → slice_get (link_at p.rec d (links records ps)) j ≡ Some c
      → ((k : ℕ) → slice_get (links records ps) k ≡ Some c → (i : ℕ) × (o : Place) × (slice_get ps i ≡ Some o) × (o.rec ≡ c.1) × (pair_at (slice_get records o.rec) ≡ Some c.0))
      → (i : ℕ) × (o : Place) × (slice_get (p ∷ ps) i ≡ Some o) × (o.rec ≡ c.1) × (pair_at (slice_get records o.rec) ≡ Some c.0)
  by_link None is j at later = let l = later j at in (suc l.0, l.1, l.2, l.3, l.4)
  by_link (Some q) is zero at later =
      let same : (q, p.rec) ≡ c = same_some (q, p.rec) c at in
      (0, p, refl, ap (λ d. d.1) same, is ∙ ap (λ d. Some d.0) same)
  by_link (Some q) is (suc j) at later = let l = later j at in (suc l.0, l.1, l.2, l.3, l.4)

-- ---- levels

pub level_next : (records : List Rec) (ps : List Place) (i : ℕ) (p : Place) → slice_get ps i ≡ Some p
    → level records ps (suc i) ≡ link_count (pair_at (slice_get records p.rec)) + level records ps i
level_next records [] i p at = absurd (none_is_not_some p at)
level_next records (o ∷ []) zero p at = ap (λ k. link_count (pair_at (slice_get records k.rec)) + 0) (same_some o p at)
level_next records (o ∷ (u ∷ ps)) zero p at = ap (λ k. link_count (pair_at (slice_get records k.rec)) + 0) (same_some o p at)
level_next records (o ∷ ps) (suc i) p at =
    let rest : level records ps (suc i) ≡ link_count (pair_at (slice_get records p.rec)) + level records ps i = level_next records ps i p at in
    omega arith

pub level_grows : (records : List Rec) (ps : List Place) (i j : ℕ) → i ≤ j → level records ps i ≤ level records ps j
level_grows records [] i j less = omega arith
level_grows records (p ∷ ps) zero j less = omega arith
level_grows records (p ∷ ps) (suc i) zero less = absurd (omega arith)
level_grows records (p ∷ ps) (suc i) (suc j) less = let rest = level_grows records ps i j (omega arith) in omega arith

pub level_within : (records : List Rec) (ps : List Place) (i : ℕ) → level records ps i ≤ length (links records ps)
level_within records [] i = omega arith
level_within records (p ∷ ps) zero = omega arith
level_within records (p ∷ ps) (suc i) = by_link (pair_at (slice_get records p.rec)) (level_within records ps i) where
  by_link : (d : Option Pair) → level records ps i ≤ length (links records ps) → link_count d + level records ps i ≤ length (link_at p.rec d (links records ps))
  by_link None few = omega arith
  by_link (Some q) few = omega arith

-- ---- the document at a place

-- the document in each stretch, from a document on
abbrev pub from_state : List Rec → DocState → List (Pair × ℕ) → ℕ → DocState
from_state records s cs j = slice_index_or (s ∷ map (after_link records) cs) j Never

level_zero : (records : List Rec) (ps : List Place) → level records ps 0 ≡ 0
level_zero records [] = refl
level_zero records (p ∷ ps) = refl

-- after the first place the stretches go on
shift : (records : List Rec) (s : DocState) (o : Place) (ps : List Place) (r : Rec) (m : DocState) (j : ℕ) → IsPlaceOf records o r → Kind s r m
    → from_state records m (links records ps) j ≡ from_state records s (links records (o ∷ ps)) (link_count (pair_at (slice_get records o.rec)) + j)
shift records s o ps r m j names (stays is same) =
    ap (λ k. from_state records k (links records ps) j) same
    ∙ (ap (from_state records s (links records ps)) (let e : j ≡ 0 + j = omega arith in e)
    ∙ sym (ap (λ d. from_state records s (link_at o.rec d (links records ps)) (link_count d + j)) (ap pair_at names ∙ is)))
shift records s o ps r m j names (takes q is w) =
    ap (λ k. from_state records k (links records ps) j) (after_is records o r s q m names w)
    ∙ (ap (from_state records s ((q, o.rec) ∷ links records ps)) (let e : suc j ≡ 1 + j = omega arith in e)
    ∙ sym (ap (λ d. from_state records s (link_at o.rec d (links records ps)) (link_count d + j)) (ap pair_at names ∙ is)))

-- the step at a place leads from the stretch before its call to its own
place_step : (records : List Rec) (s : DocState) (ps : List Place) (t : DocState) (i : ℕ) (p : Place) → AreUnpaired ps → IsPlaceRun records s ps t → slice_get ps i ≡ Some p
    → (r : Rec) × IsPlaceOf records p r
    × StepsAt (from_state records s (links records ps) (level records ps i)) r.op r.heard None (from_state records s (links records ps) (level records ps (suc i)))
place_step records s [] t i p none run at = absurd (none_is_not_some p at)
place_step records s (o ∷ ps) t zero p none (m, r, names, step, rest) at = (
  r,
  subst (λ k. IsPlaceOf records k r) (same_some o p at) names,
  subst (λ k. StepsAt s r.op r.heard None k) here (subst (λ d. StepsAt s r.op r.heard d m) (none 0 o refl) step),
) where
  here : m ≡ from_state records s (links records (o ∷ ps)) (level records (o ∷ ps) 1)
  here =
      ap (from_state records m (links records ps)) (sym (level_zero records ps))
      ∙ shift records s o ps r m (level records ps 0) names (kind_of s r r.heard o.pair m refl (none 0 o refl) step)
place_step records s (o ∷ ps) t (suc i) p none (m, r, names, step, rest) at =
    let later = place_step records m ps t i p (λ j q bt. none (suc j) q bt) rest at in
    let kind = kind_of s r r.heard o.pair m refl (none 0 o refl) step in
    let from_is = shift records s o ps r m (level records ps i) names kind in
    let to_is = shift records s o ps r m (level records ps (suc i)) names kind in (
      later.0,
      later.1,
      subst (λ k. StepsAt k later.0.op later.0.heard None (from_state records s (links records (o ∷ ps)) (level records (o ∷ ps) (suc (suc i))))) from_is
          (subst (λ k. StepsAt (from_state records m (links records ps) (level records ps i)) later.0.op later.0.heard None k) to_is later.2),
    )

-- ---- the chain is the performed writes in their order

heard_of_pair : (heard : Option (ℕ × Reply)) (q : Pair) → pair_of heard ≡ Some q → IsSome heard
heard_of_pair None q is = absurd (none_is_not_some q is)
heard_of_pair (Some h) q is = refl

into_links : (conflicts : Conflicts) (records : List Rec) (chain : List (Pair × ℕ)) (places : List Place) → IsChain records chain → AreValid conflicts records places
    → (c : Pair × ℕ) → Has chain c → Has (links records places) c
into_links conflicts records chain places is valid c has =
    let back = has_back (performed_records 0 records) chain c is.all has in
    let l = link_record records 0 back.0 c back.1 in
    let named = valid.answered l.from l.record_of l.at (heard_of_pair l.record_of.heard c.0 l.pair) in
    let number : named.1.rec ≡ c.1 = (let a : named.1.rec ≡ l.from = named.3 in let b : c.1 ≡ 0 + l.from = l.number in omega arith) in
    let pair : pair_at (slice_get records named.1.rec) ≡ Some c.0 = ap (λ k. pair_at (slice_get records k)) named.3 ∙ (ap pair_at l.at ∙ l.pair) in
    (level records places named.0, link_at_level records places named.0 named.1 c.0 named.2 pair ∙ ap (λ k. Some (c.0, k)) number)

from_links : (conflicts : Conflicts) (records : List Rec) (chain : List (Pair × ℕ)) (places : List Place) → IsChain records chain → AreValid conflicts records places
    → (c : Pair × ℕ) → Has (links records places) c → Has chain c
from_links conflicts records chain places is valid c has =
    let l = link_of_place records places has.0 c has.1 in
    let known = valid.right.known l.0 l.1 l.2 in
    let pair : pair_of known.0.heard ≡ Some c.0 = sym (ap pair_at known.1) ∙ l.4 in
    let number : 0 + l.1.rec ≡ c.1 = (let a : l.1.rec ≡ c.1 = l.3 in omega arith) in
    has_moved (performed_records 0 records) chain c is.all (subst (λ k. Has (performed_records 0 records) (c.0, k)) number (performed_has records 0 l.1.rec known.0 c.0 known.1 pair))

links_climb : (conflicts : Conflicts) (records : List Rec) (places : List Place) → AreUnpaired places → AreValid conflicts records places → Climbs (links records places)
links_climb conflicts records places none valid = (rising_run records Never places valid.right.legal.0 none valid.right.legal.1).climbs

pub forced_climbs : (conflicts : Conflicts) (records : List Rec) (chain : List (Pair × ℕ)) (places : List Place) → IsChain records chain → AreUnpaired places → AreValid conflicts records places
    → Climbs chain
forced_climbs conflicts records chain places is none valid =
    chain_climbs records chain (links records places) is (links_climb conflicts records places none valid) (into_links conflicts records chain places is valid)

pub forced_chain : (conflicts : Conflicts) (records : List Rec) (chain : List (Pair × ℕ)) (places : List Place) → IsChain records chain → AreUnpaired places → AreValid conflicts records places
    → chain ≡ links records places
forced_chain conflicts records chain places is none valid =
    same_climbing chain (links records places) (forced_climbs conflicts records chain places is none valid) (links_climb conflicts records places none valid)
    (into_links conflicts records chain places is valid) (from_links conflicts records chain places is valid)

-- ---- where the records stand

cap_counts : (d : Option Pair) (n j : ℕ) → j ≡ link_count d + n → cap d j ≡ n
cap_counts None n j is = omega arith
cap_counts (Some q) n j is = omega arith

not_heard : (heard : Option (ℕ × Reply)) (h : ℕ × Reply) (place : ℕ) → heard ≡ Some h → (IsHeardBefore heard place → ⊥) → place ≤ h.0
not_heard None h place is not = absurd (none_is_not_some h is)
not_heard (Some g) h place is not = elim (cases_lt g.0 place) as (λ _. place ≤ h.0) [
  | inl before ↦ absurd (not before)
  | inr after ↦ let same : g.0 ≡ h.0 = ap (λ x. x.0) (same_some g h is) in omega arith
]

is_heard : (heard : Option (ℕ × Reply)) (h : ℕ × Reply) (place : ℕ) → heard ≡ Some h → h.0 < place → IsHeardBefore heard place
is_heard None h place is less = absurd (none_is_not_some h is)
is_heard (Some g) h place is less = let same : g.0 ≡ h.0 = ap (λ x. x.0) (same_some g h is) in omega arith

some_heard : (heard : Option (ℕ × Reply)) (h : ℕ × Reply) → heard ≡ Some h → IsSome heard
some_heard None h is = absurd (none_is_not_some h is)
some_heard (Some g) h is = refl

-- the record that stands at a place, with its level
record Standing (records : List Rec) (places : List Place) (y j : ℕ) (r : Rec) : Type 0 where
  at_place : ℕ
  place : Place
  at : slice_get places at_place ≡ Some place
  named : place.rec ≡ y
  names : IsPlaceOf records place r
  pair : pair_at (slice_get records place.rec) ≡ pair_of r.heard
  before : cap (pair_of r.heard) j ≡ level records places at_place
  stretch : j ≡ level records places (suc at_place)
  counted : j ≡ link_count (pair_of r.heard) + level records places at_place

standing : (records : List Rec) (places : List Place) (y j : ℕ) (r : Rec) → slice_get records y ≡ Some r → StandsIn records places y j → Standing records places y j r
standing records places y j r names (i, p, at, named, is) =
    let of_place : IsPlaceOf records p r = ap (slice_get records) named ∙ names in
    let pair : pair_at (slice_get records p.rec) ≡ pair_of r.heard = ap pair_at of_place in
    let counted : j ≡ link_count (pair_of r.heard) + level records places i =
    is ∙ (level_next records places i p at ∙ ap (λ d. link_count d + level records places i) pair) in
    record {
      at_place = i;
      place = p;
      at = at;
      named = named;
      names = of_place;
      pair = pair;
      before = cap_counts (pair_of r.heard) (level records places i) j counted;
      stretch = is;
      counted = counted;
    }

step_at : (conflicts : Conflicts) (records : List Rec) (places : List Place) (y j : ℕ) (r : Rec) → AreUnpaired places → AreValid conflicts records places → Standing records places y j r
    → StepsAt (state_in (states_of records (links records places)) (cap (pair_of r.heard) j)) r.op r.heard None (state_in (states_of records (links records places)) j)
step_at conflicts records places y j r none valid st =
    let step = place_step records Never places valid.right.legal.0 st.at_place st.place none valid.right.legal.1 st.at in
    let same : step.0 ≡ r = same_some step.0 r (sym step.1 ∙ st.names) in
    let at_r = subst (λ k. StepsAt (from_state records Never (links records places) (level records places st.at_place)) k.op k.heard None (from_state records Never (links records places) (level records places (suc st.at_place)))) same step.2 in
    subst (λ n. StepsAt (from_state records Never (links records places) n) r.op r.heard None (from_state records Never (links records places) j)) (sym st.before)
    (subst (λ n. StepsAt (from_state records Never (links records places) (level records places st.at_place)) r.op r.heard None (from_state records Never (links records places) n)) (sym st.stretch) at_r)

read_fits : (states : List DocState) (op : Op) (heard : Option (ℕ × Reply)) (j : ℕ) → StepsAt (state_in states j) op heard None (state_in states j) → ReadFits states op heard j
read_fits states op None j step = absurd step
read_fits states op (Some h) j step = step

stands_fit : (conflicts : Conflicts) (records : List Rec) (places : List Place) (y j : ℕ) (r : Rec) → AreUnpaired places → AreValid conflicts records places → Standing records places y j r
    → Fits records (links records places) y r j
stands_fit conflicts records places y j r none valid st = by_pair (pair_of r.heard) refl (step_at conflicts records places y j r none valid st) where
  by_pair : (d : Option Pair) → pair_of r.heard ≡ d
      → StepsAt (state_in (states_of records (links records places)) (cap (pair_of r.heard) j)) r.op r.heard None (state_in (states_of records (links records places)) j)
      → FitsAs d (links records places) (states_of records (links records places)) y r j
  by_pair None is step = read_fits (states_of records (links records places)) r.op r.heard j
      (subst (λ d. StepsAt (state_in (states_of records (links records places)) (cap d j)) r.op r.heard None (state_in (states_of records (links records places)) j)) is step)
  by_pair (Some q) is step = (
    level records places st.at_place,
    (let e : j ≡ 1 + level records places st.at_place = st.counted ∙ ap (λ d. link_count d + level records places st.at_place) is in omega arith),
    link_at_level records places st.at_place st.place q st.at (st.pair ∙ is) ∙ ap (λ k. Some (q, k)) st.named,
  )

spread_links : (conflicts : Conflicts) (records : List Rec) (places : List Place) → AreUnpaired places → AreValid conflicts records places → AreSpread records (links records places) places
spread_links conflicts records places none valid = record {
  stands = λ y r h at is.
      let named = valid.answered y r at (some_heard r.heard h is) in
      (level records places (suc named.0), (named.0, named.1, named.2, named.3, refl));
  within = λ y j st. let is : j ≡ level records places (suc st.0) = st.4 in let few = level_within records places (suc st.0) in omega arith;
  fits = λ y j r names st. stands_fit conflicts records places y j r none valid (standing records places y j r names st);
  own = λ y r h at is.
      let named = valid.answered y r at (some_heard r.heard h is) in
      let of_place : IsPlaceOf records named.1 r = ap (slice_get records) named.3 ∙ at in
      not_heard r.heard h r.call_at is (valid.right.in_time named.0 named.0 named.1 named.1 r r (omega arith) named.2 named.2 of_place of_place);
  before = λ x y i j r s h at bt is less sx sy.
      let a = standing records places x i r at sx in
      let b = standing records places y j s bt sy in
      let later : b.at_place < a.at_place = elim (cases_lt b.at_place a.at_place) as (λ _. b.at_place < a.at_place) [
        | inl first ↦ first
        | inr not ↦ absurd (valid.right.in_time a.at_place b.at_place a.place b.place r s not a.at b.at a.names b.names (is_heard s.heard h r.call_at is less))
      ] in
      let grows = level_grows records places (suc b.at_place) a.at_place (omega arith) in
      let cap_is : cap (pair_of r.heard) i ≡ level records places a.at_place = a.before in
      let stretch : j ≡ level records places (suc b.at_place) = b.stretch in
      omega arith;
  steps = λ y j r names st. step_at conflicts records places y j r none valid (standing records places y j r names st);
}

-- valid places that give no pair spread the records over the stretches of the chain
pub spread : (conflicts : Conflicts) (records : List Rec) (chain : List (Pair × ℕ)) (places : List Place) → IsChain records chain → AreUnpaired places → AreValid conflicts records places
    → AreSpread records chain places
spread conflicts records chain places is none valid =
    subst (λ cs. AreSpread records cs places) (sym (forced_chain conflicts records chain places is none valid)) (spread_links conflicts records places none valid)
