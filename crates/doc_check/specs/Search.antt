-- What the search for a document answers.
use Rattle.std.specs.Prelude.{◌≡◌, ℕ, List}
use Rattle.doc_register.specs.declared.state.Conflicts.{Conflicts}
use Rattle.events.specs.declared.record.Rec.{Rec}
use Rattle.places.specs.declared.place.Place.{Place}
use Rattle.places.specs.Places.{AreValid}
use Rattle.doc_check.specs.NoOrders.{AreUnpaired, HasNoOrder}
use Rattle.doc_check.specs.ReplyOrder.{IsReplyOrder}
use Rattle.doc_check.specs.declared.search.DocAnswer.{DocAnswer}
use Rattle.doc_check.specs.declared.search.DocAnswer.TheVariants.{Found, NotFound}
use Rattle.doc_check.specs.declared.search.OrderAmong.{OrderAmong}
use Rattle.doc_check.specs.declared.search.OrderAmong.TheVariants.{Order, Stuck}

-- The answer is about the document, its records and this reading of conflicts: an order found is valid for
-- them (`AreValid`); if none is found, no places without a given pair are (`HasNoOrder`).
-- Source: profile.
abbrev pub IsAbout : List ℕ → List Rec → Conflicts → DocAnswer → Type 0
IsAbout doc records conflicts (Found w) = (w.doc ≡ doc) × (w.records ≡ records) × (w.conflicts ≡ conflicts) × AreValid conflicts records w.places
IsAbout doc records conflicts (NotFound n) = (n.doc ≡ doc) × (n.records ≡ records) × (n.conflicts ≡ conflicts) × HasNoOrder conflicts records

-- An order found beside other documents is of the document, its records and this reading of conflicts, and
-- valid.
abbrev pub IsOrderFor : List ℕ → List Rec → Conflicts → OrderAmong → Type 0
IsOrderFor doc records conflicts (Order w) = (w.doc ≡ doc) × (w.records ≡ records) × (w.conflicts ≡ conflicts) × AreValid conflicts records w.places
IsOrderFor doc records conflicts (Stuck furthest) = Unit {0}

-- the id of the document that an answer is about
abbrev pub id_of : DocAnswer → List ℕ
id_of (Found w) = w.doc
id_of (NotFound n) = n.doc

-- the records that an answer is about
abbrev pub records_of : DocAnswer → List Rec
records_of (Found w) = w.records
records_of (NotFound n) = n.records

-- how conflicts are read in an answer
abbrev pub conflict_mode_of : DocAnswer → Conflicts
conflict_mode_of (Found w) = w.conflicts
conflict_mode_of (NotFound n) = n.conflicts

-- an order is found, with exactly these places
-- Source: profile.
abbrev pub IsFoundWith : List Place → DocAnswer → Type 0
IsFoundWith places (Found w) = w.places ≡ places
IsFoundWith places (NotFound n) = ⊥

-- if response order is valid, it is the order found
-- Source: profile.
abbrev pub FollowsReplies : Conflicts → List Rec → DocAnswer → Type 0
FollowsReplies conflicts records answer = (places : List Place) → IsReplyOrder records places → AreValid conflicts records places
    → IsFoundWith places answer

-- an order is found, and it gives no pair: it is one of the answered calls alone
-- Source: profile.
abbrev pub IsFoundUnpaired : DocAnswer → Type 0
IsFoundUnpaired (Found w) = AreUnpaired w.places
IsFoundUnpaired (NotFound n) = ⊥

-- if any places without a given pair are valid, such places are found
-- Source: profile.
abbrev pub FindsUnpaired : Conflicts → List Rec → DocAnswer → Type 0
FindsUnpaired conflicts records answer = (places : List Place) → AreUnpaired places → AreValid conflicts records places → IsFoundUnpaired answer
