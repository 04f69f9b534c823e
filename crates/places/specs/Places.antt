-- Valid places: which places are an order of a document's records that explains them.
use Rattle.std.specs.Prelude.{◌≡◌, ℕ, ◌<◌, ◌≤◌, List, [], ◌∷◌, Option, Some, None, IsSome, slice_get}
use Rattle.version_pair.specs.declared.pair.Pair.{Pair}
use Rattle.doc_register.specs.declared.op.Op.{Op}
use Rattle.doc_register.specs.declared.op.Op.TheVariants.{Get}
use Rattle.doc_register.specs.declared.reply.Reply.{Reply}
use Rattle.doc_register.specs.declared.reply.Reply.TheVariants.{Indexed, Deleted, Found, Missing, Conflict}
use Rattle.doc_register.specs.declared.state.Conflicts.{Conflicts}
use Rattle.doc_register.specs.declared.state.Conflicts.TheVariants.{Plain}
use Rattle.doc_register.specs.declared.state.DocState.{DocState}
use Rattle.doc_register.specs.declared.state.DocState.TheVariants.{Never}
use Rattle.doc_register.specs.Register.{DocStep, performed_reply}
use Rattle.events.specs.declared.record.Rec.{Rec}
use Rattle.places.specs.declared.place.Place.{Place}

-- the place names the record: the record with the number that it gives
abbrev pub IsPlaceOf : List Rec → Place → Rec → Type 0
IsPlaceOf records p r = slice_get records p.rec ≡ Some r

-- the call is a get, and no reply to it was heard
abbrev pub IsUnansweredGet : Rec → Type 0
IsUnansweredGet r = (r.op ≡ Get) × (r.heard ≡ None)

-- The place gives a pair as it may: that of an unanswered call gives one, and that of an answered call gives
-- none, except that under Maybe the place of a conflict may give one.
-- Source: profile.
abbrev pub GivesAsMay : Conflicts → Option (ℕ × Reply) → Option Pair → Type 0
GivesAsMay conflicts None pair = IsSome pair
GivesAsMay conflicts (Some (at, Indexed q created)) pair = pair ≡ None
GivesAsMay conflicts (Some (at, Deleted q found)) pair = pair ≡ None
GivesAsMay conflicts (Some (at, Found q k)) pair = pair ≡ None
GivesAsMay conflicts (Some (at, Missing)) pair = pair ≡ None
GivesAsMay conflicts (Some (at, Conflict)) pair = conflicts ≡ Plain → pair ≡ None

-- The call of a place is a step of the document from s to t. An answered call steps with the reply that was
-- heard, which hides a pair given to the place; an unanswered one with the reply of a performed write that
-- takes the pair given (`performed_reply`), and hides nothing. Without a reply and a pair it is no step.
-- Source: Herlihy and Wing, section 2: a history is extended by responses.
abbrev pub StepsAt : DocState → Op → Option (ℕ × Reply) → Option Pair → DocState → Type 0
StepsAt s op (Some (at, reply)) pair t = DocStep s op reply pair t
StepsAt s op None (Some q) t = DocStep s op (performed_reply s op q) None t
StepsAt s op None None t = ⊥

-- a reply was heard, and its position is before this one
abbrev pub IsHeardBefore : Option (ℕ × Reply) → ℕ → Type 0
IsHeardBefore None place = ⊥
IsHeardBefore (Some (at, reply)) place = at < place

-- the calls of the places are steps one after another, from s to t
-- Source: Herlihy and Wing, section 2, the sequential specification of an object.
abbrev pub IsPlaceRun : List Rec → DocState → List Place → DocState → Type 0
IsPlaceRun records s [] t = t ≡ s
IsPlaceRun records s (p ∷ ps) t = (m : DocState) × (r : Rec) × IsPlaceOf records p r × StepsAt s r.op r.heard p.pair m
    × IsPlaceRun records m ps t

-- All that valid places have, except that each answered call has a place.
pub record AreValidSoFar (conflicts : Conflicts) (records : List Rec) (places : List Place) : Type 0 where
  -- each place names a record, and not an unanswered get
  pub known : (i : ℕ) (p : Place) → slice_get places i ≡ Some p → (r : Rec) × IsPlaceOf records p r
      × (¬ IsUnansweredGet r)
  -- no record is named twice
  pub once : (i j : ℕ) (p q : Place) → slice_get places i ≡ Some p → slice_get places j ≡ Some q → p.rec ≡ q.rec
      → i ≡ j
  -- pairs are given as they may be
  pub pairs : (i : ℕ) (p : Place) (r : Rec) → slice_get places i ≡ Some p → IsPlaceOf records p r
      → GivesAsMay conflicts r.heard p.pair
  -- no place's reply was heard before its own call, or before the call of an earlier place, however far apart
  -- the two are
  pub in_time : (i j : ℕ) (p q : Place) (r s : Rec) → i ≤ j → slice_get places i ≡ Some p
      → slice_get places j ≡ Some q
      → IsPlaceOf records p r → IsPlaceOf records q s → ¬ IsHeardBefore s.heard r.call_at
  -- the calls are steps one after another, from a document that was never written
  pub legal : (t : DocState) × IsPlaceRun records Never places t

-- some place names the record with this number
abbrev pub IsNamed : List Place → ℕ → Type 0
IsNamed places k = (i : ℕ) × (p : Place) × (slice_get places i ≡ Some p) × (p.rec ≡ k)

-- The places are valid: they are right, and each answered record is named. So an unanswered write is left out
-- or has a place with its pair, and an unanswered get is left out.
-- Source: Herlihy and Wing, section 2, for one object: the extension and the completion of a history, and
-- both conditions of linearizability; profile: that each unanswered call that changes nothing is left out.
pub record AreValid (conflicts : Conflicts) (records : List Rec) (places : List Place) : Type 0 where
  -- they are right
  pub right : AreValidSoFar conflicts records places
  -- each answered record is named
  pub answered : (k : ℕ) (r : Rec) → slice_get records k ≡ Some r → IsSome r.heard → IsNamed places k
