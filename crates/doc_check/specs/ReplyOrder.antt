-- Response order: the answered calls of a document by the positions of their replies, unanswered ones left
-- out.
use Rattle.std.specs.Prelude.{◌≡◌, List, None, map}
use Rattle.events.specs.declared.record.Rec.{Rec}
use Rattle.places.specs.declared.place.Place.{Place}
use Rattle.write_chain.specs.AnsweredCalls.{AreAnsweredCalls}
use Rattle.write_chain.specs.declared.answers.AnsweredRec.{AnsweredRec}

-- the place of an answered call, which gives no pair
abbrev pub unpaired_place : AnsweredRec → Place
unpaired_place answer = record { rec = answer.rec; pair = None }

-- The places are those of the answered calls, each once, by the position of the reply, ties by number, with
-- no pair given.
-- Source: profile.
abbrev pub IsReplyOrder : List Rec → List Place → Type 0
IsReplyOrder records places = (answers : List AnsweredRec) × AreAnsweredCalls records answers × (places ≡ map unpaired_place answers)
