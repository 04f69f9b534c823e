-- Readings that leave each event as it is.
use Rattle.std.proofs.Common.{ap, ℕ, ◌≡◌, List, [], ◌∷◌, refl, Bool, true, false}
use Rattle.std.specs.Prelude.{IsTrue}
use Rattle.doc_register.specs.declared.reply.Reply.TheVariants.{Indexed, Deleted, Found, Missing, Conflict}
use Rattle.events.specs.declared.event.Event.{Event}
use Rattle.events.specs.declared.event.Event.TheVariants.{Call, Reply, Lost}
use Rattle.history.specs.declared.text_rules.Failed.{Failed}
use Rattle.history.specs.declared.text_rules.Failed.TheVariants as failed
use Rattle.history.specs.declared.text_rules.Writes.{Writes}
use Rattle.history.specs.declared.text_rules.Writes.TheVariants as writes
use Rattle.readings.specs.Reading.{is_alone, is_shown, leaves_events, read_as}
use Rattle.readings.specs.declared.reading.ConflictReading.{ConflictReading}
use Rattle.readings.specs.declared.reading.ConflictReading.TheVariants as conflict
use Rattle.readings.specs.declared.reading.Gets.{Gets}
use Rattle.readings.specs.declared.reading.Gets.TheVariants as gets
use Rattle.readings.specs.declared.reading.Reading.{Reading}

-- gets show the last change, and conflicts something
reading_of : ConflictReading → Reading
reading_of conflicts = record { gets = gets.Last; conflicts = conflicts; writes = writes.Once; failed = failed.Lost }

plain_stays : (voids : List ℕ) (events : List Event) → read_as (reading_of conflict.Plain) voids events ≡ events
unfolding reading_of
plain_stays voids [] = refl
plain_stays voids (Call h n d op ∷ es) = ap (λ rest. Call h n d op ∷ rest) (plain_stays voids es)
plain_stays voids (Reply n (Indexed q created) ∷ es) = ap (λ rest. Reply n (Indexed q created) ∷ rest) (plain_stays voids es)
plain_stays voids (Reply n (Deleted q found) ∷ es) = ap (λ rest. Reply n (Deleted q found) ∷ rest) (plain_stays voids es)
plain_stays voids (Reply n (Found p k) ∷ es) = ap (λ rest. Reply n (Found p k) ∷ rest) (plain_stays voids es)
plain_stays voids (Reply n Missing ∷ es) = ap (λ rest. Reply n Missing ∷ rest) (plain_stays voids es)
plain_stays voids (Reply n Conflict ∷ es) = ap (λ rest. Reply n Conflict ∷ rest) (plain_stays voids es)
plain_stays voids (Lost n ∷ es) = ap (λ rest. Lost n ∷ rest) (plain_stays voids es)

maybe_stays : (voids : List ℕ) (events : List Event) → read_as (reading_of conflict.Maybe) voids events ≡ events
unfolding reading_of
maybe_stays voids [] = refl
maybe_stays voids (Call h n d op ∷ es) = ap (λ rest. Call h n d op ∷ rest) (maybe_stays voids es)
maybe_stays voids (Reply n (Indexed q created) ∷ es) = ap (λ rest. Reply n (Indexed q created) ∷ rest) (maybe_stays voids es)
maybe_stays voids (Reply n (Deleted q found) ∷ es) = ap (λ rest. Reply n (Deleted q found) ∷ rest) (maybe_stays voids es)
maybe_stays voids (Reply n (Found p k) ∷ es) = ap (λ rest. Reply n (Found p k) ∷ rest) (maybe_stays voids es)
maybe_stays voids (Reply n Missing ∷ es) = ap (λ rest. Reply n Missing ∷ rest) (maybe_stays voids es)
maybe_stays voids (Reply n Conflict ∷ es) = ap (λ rest. Reply n Conflict ∷ rest) (maybe_stays voids es)
maybe_stays voids (Lost n ∷ es) = ap (λ rest. Lost n ∷ rest) (maybe_stays voids es)

-- such a reading makes of the events what they are
pub left_as_they_are : (reading : Reading) (voids : List ℕ) (events : List Event) → leaves_events reading ≡ true → read_as reading voids events ≡ events
unfolding reading_of
left_as_they_are reading voids events leaves = by_choice reading.gets reading.conflicts reading.writes reading.failed leaves where
  by_choice : (g : Gets) (c : ConflictReading) (w : Writes) (f : Failed)
      → leaves_events (record { gets = g; conflicts = c; writes = w; failed = f }) ≡ true
      → read_as (record { gets = g; conflicts = c; writes = w; failed = f }) voids events ≡ events
  by_choice gets.Last conflict.Plain writes.Once failed.Lost leaves = plain_stays voids events
  by_choice gets.Last conflict.Maybe writes.Once failed.Lost leaves = maybe_stays voids events
  by_choice gets.Last conflict.Plain writes.Once failed.Trusted leaves = absurd (cc)
  by_choice gets.Last conflict.Maybe writes.Once failed.Trusted leaves = absurd (cc)
  by_choice gets.Last conflict.Plain writes.Repeated f leaves = absurd (cc)
  by_choice gets.Last conflict.Maybe writes.Repeated f leaves = absurd (cc)
  by_choice gets.Last conflict.Unknown w f leaves = absurd (cc)
  by_choice gets.Any c w f leaves = absurd (cc)
