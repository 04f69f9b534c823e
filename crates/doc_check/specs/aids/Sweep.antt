-- The sweep: the calls and replies of the answered records from the last to the first, and the stretches that
-- are given.
use Rattle.std.specs.Prelude.{◌≡◌, ◌<◌, ◌≤◌, ◌⊎◌, ℕ, zero, suc, List, [], ◌∷◌, ◌+◌, Bool, true, false, IsTrue, Option, Some, None, length, slice_get}
use Rattle.version_pair.specs.declared.pair.Pair.{Pair}
use Rattle.doc_register.specs.declared.reply.Reply.{Reply}
use Rattle.events.specs.declared.record.Rec.{Rec}
use Rattle.places.specs.declared.place.Place.{Place}
use Rattle.doc_register.specs.declared.state.Conflicts.{Conflicts}
use Rattle.places.specs.Places.{AreValid, StepsAt}
use Rattle.doc_check.specs.NoOrders.{AreUnpaired}
use Rattle.events.specs.Heard.{pair_of}
use Rattle.doc_check.specs.declared.moments.Moment.{Moment}
use Rattle.doc_check.specs.aids.Stretches.{Fits, cap, state_in, states_of}

-- the moment at the index t: the reply of the record numbered x if `replied`, else its call
abbrev pub moment_at : ℕ → Bool → ℕ → Moment
moment_at t replied x = record { index = t; is_reply = replied; rec = x }

abbrev pub moments_at : ℕ → ℕ → Option (ℕ × Reply) → List Moment → List Moment
moments_at k call None rest = rest
moments_at k call (Some heard) rest = (moment_at call false k) ∷ ((moment_at heard.0 true k) ∷ rest)

-- the calls and replies of the answered records, if the first record is numbered k
abbrev pub moments_from : ℕ → List Rec → List Moment
moments_from k [] = []
moments_from k (r ∷ rs) = moments_at k r.call_at r.heard (moments_from (suc k) rs)

-- the record's call or reply is there, and the record was answered
abbrev pub IsMoment : List Rec → Moment → Type 0
IsMoment records m = (r : Rec) × (heard : ℕ × Reply) × (slice_get records m.rec ≡ Some r) × (r.heard ≡ Some heard)
    × (IsTrue m.is_reply → m.index ≡ heard.0) × ((IsTrue m.is_reply → ⊥) → m.index ≡ r.call_at)

-- a comes before b, or they have the same index, and a is not a reply or b is one
abbrev pub IsUpTo : Moment → Moment → Type 0
IsUpTo a b = (a.index < b.index) ⊎ ((a.index ≡ b.index) × (IsTrue a.is_reply → IsTrue b.is_reply))

-- the calls and replies of the answered records, from the last to the first; among those with the same index,
-- a reply comes first
pub record AreMoments (records : List Rec) (moments : List Moment) : Type 0 where
  pub sound : (i : ℕ) (m : Moment) → slice_get moments i ≡ Some m → IsMoment records m
  pub calls : (y : ℕ) (r : Rec) (h : ℕ × Reply) → slice_get records y ≡ Some r → r.heard ≡ Some h
      → (i : ℕ) × (slice_get moments i ≡ Some (moment_at r.call_at false y))
  pub replies : (y : ℕ) (r : Rec) (h : ℕ × Reply) → slice_get records y ≡ Some r → r.heard ≡ Some h
      → (i : ℕ) × (slice_get moments i ≡ Some (moment_at h.0 true y))
  pub falls : (i j : ℕ) (a b : Moment) → i < j → slice_get moments i ≡ Some a → slice_get moments j ≡ Some b → IsUpTo b a

-- ---- the order to be found

-- 1 if there is a pair, else 0
abbrev pub link_count : Option Pair → ℕ
link_count None = 0
link_count (Some q) = 1

abbrev pub pair_at : Option Rec → Option Pair
pair_at None = None
pair_at (Some r) = pair_of r.heard

-- the number of performed writes among the first i places
abbrev pub level : List Rec → List Place → ℕ → ℕ
level records [] i = 0
level records (p ∷ ps) zero = 0
level records (p ∷ ps) (suc i) = link_count (pair_at (slice_get records p.rec)) + level records ps i

-- in the order of the places the record is in the stretch
abbrev pub StandsIn : List Rec → List Place → ℕ → ℕ → Type 0
StandsIn records places y j = (i : ℕ) × (p : Place) × (slice_get places i ≡ Some p) × (p.rec ≡ y)
    × (j ≡ level records places (suc i))

-- What is known of the order of the places if they are valid and give no pair: each answered record is in a
-- stretch of the chain that it fits; its reply is not before its call; and what was answered before a call
-- comes before it.
pub record AreSpread (records : List Rec) (chain : List (Pair × ℕ)) (places : List Place) : Type 0 where
  pub stands : (y : ℕ) (r : Rec) (h : ℕ × Reply) → slice_get records y ≡ Some r → r.heard ≡ Some h
      → (j : ℕ) × StandsIn records places y j
  pub within : (y j : ℕ) → StandsIn records places y j → j ≤ length chain
  pub fits : (y j : ℕ) (r : Rec) → slice_get records y ≡ Some r → StandsIn records places y j → Fits records chain y r j
  pub own : (y : ℕ) (r : Rec) (h : ℕ × Reply) → slice_get records y ≡ Some r → r.heard ≡ Some h → r.call_at ≤ h.0
  pub before : (x y i j : ℕ) (r s : Rec) (h : ℕ × Reply) → slice_get records x ≡ Some r → slice_get records y ≡ Some s
      → s.heard ≡ Some h → h.0 < r.call_at → StandsIn records places x i → StandsIn records places y j
      → j ≤ cap (pair_of r.heard) i
  pub steps : (y j : ℕ) (r : Rec) → slice_get records y ≡ Some r → StandsIn records places y j
      → StepsAt (state_in (states_of records chain) (cap (pair_of r.heard) j)) r.op r.heard None (state_in (states_of records chain) j)

-- ---- the stretches given

-- the record is given the stretch
abbrev pub IsGiven : List (Option ℕ) → ℕ → ℕ → Type 0
IsGiven given y j = slice_get given y ≡ Some (Some j)

-- each answered record is given a stretch that it fits; and what was answered before a call comes before it
pub record AreGiven (records : List Rec) (chain : List (Pair × ℕ)) (given : List (Option ℕ)) : Type 0 where
  pub size : length given ≡ length records
  pub all : (y : ℕ) (r : Rec) (h : ℕ × Reply) → slice_get records y ≡ Some r → r.heard ≡ Some h → (j : ℕ) × IsGiven given y j
  pub within : (y j : ℕ) → IsGiven given y j → j ≤ length chain
  pub fits : (y j : ℕ) (r : Rec) → slice_get records y ≡ Some r → IsGiven given y j → Fits records chain y r j
  pub before : (x y i j : ℕ) (r s : Rec) (h g : ℕ × Reply) → slice_get records x ≡ Some r → slice_get records y ≡ Some s
      → r.heard ≡ Some g → s.heard ≡ Some h → h.0 < r.call_at → IsGiven given x i → IsGiven given y j
      → j ≤ cap (pair_of r.heard) i

-- ---- one moment

-- At a reply the record is given the latest stretch up to the bound that it fits, if it has none yet. At a
-- call the bound falls to what may come before the record.
pub record IsMet (records : List Rec) (chain : List (Pair × ℕ)) (given : List (Option ℕ)) (bound : ℕ) (m : Moment) (r : Rec) (stretch lowered : ℕ) : Type 0 where
  pub falls : lowered ≤ bound
  pub replied : IsTrue m.is_reply → (lowered ≡ bound) × (IsGiven given m.rec stretch ⊎ ((slice_get given m.rec ≡ Some None)
      × (stretch ≤ bound) × Fits records chain m.rec r stretch
      × ((l : ℕ) → l ≤ bound → Fits records chain m.rec r l → l ≤ stretch)))
  pub called : (IsTrue m.is_reply → ⊥) → IsGiven given m.rec stretch × (lowered ≤ cap (pair_of r.heard) stretch)
      × ((lowered ≡ bound) ⊎ (lowered ≡ cap (pair_of r.heard) stretch))

-- the record has no stretch yet, and if the moment is its reply, it fits no stretch up to the bound
pub record IsStuck (records : List Rec) (chain : List (Pair × ℕ)) (given : List (Option ℕ)) (bound : ℕ) (m : Moment) (r : Rec) : Type 0 where
  pub none : slice_get given m.rec ≡ Some None
  pub nowhere : IsTrue m.is_reply → (l : ℕ) → l ≤ bound → ¬ Fits records chain m.rec r l

-- ---- the order

-- the places give no pair, and are valid if any such places are
pub record IsOfSweep (conflicts : Conflicts) (records : List Rec) (places : List Place) : Type 0 where
  pub unpaired : AreUnpaired places
  pub valid : (others : List Place) → AreUnpaired others → AreValid conflicts records others → AreValid conflicts records places
