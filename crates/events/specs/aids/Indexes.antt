-- What a history keeps beside its events, and what that says of them: aids of its type and its contracts.
use Rattle.std.specs.Prelude.{◌≡◌, ℕ, ◌≤◌, ◌<◌, ◌==◌, List, [], ◌∷◌, ◌++◌, length, Option, Some, None, Bool, false, option_and_then, cond, if◌then◌else◌, slice_get}
use Rattle.std.specs.Map.{lookup}
use Rattle.std.specs.Option.{option_map_or}
use Rattle.doc_register.specs.declared.reply.Reply.{Reply as Answer}
use Rattle.doc_register.specs.Register.{fits}
use Rattle.events.specs.declared.event.Event.{Event}
use Rattle.events.specs.declared.event.Event.TheVariants.{Call, Reply, Lost}
use Rattle.events.specs.Events.{IsHistory, PassesAt, documents_of, is_call, is_call_of, is_ending, is_same, place_of, places_from}
use Rattle.events.specs.Refusal.{most_events, op_named, shard_of}

-- the positions of a document's calls
abbrev pub calls_at : List Event → List ℕ → List ℕ
calls_at events d = places_from 0 (is_call_of d) events

-- The events are a history within its limit. The first index gives the position of each call by its number,
-- the second one the position of the ending of the call at each position. The documents are in the order of
-- their first calls, each with its shard, and the lists give the positions of the calls of each, no more than
-- there are events.
pub record AreIndexed (events : List Event) (calls : List (ℕ × ℕ)) (endings : List (Option ℕ)) (documents : List (List ℕ × ℕ)) (lists : List (List ℕ)) (listed : ℕ) : Type 0 where
  pub history : IsHistory events
  pub few : length events ≤ most_events
  pub calls_found : (n : ℕ) → lookup (◌==◌ n) calls ≡ place_of (is_call n) events
  pub endings_size : length endings ≡ length events
  pub endings_found : (i n : ℕ) → PassesAt (is_call n) events i → slice_get endings i ≡ Some (place_of (is_ending n) events)
  pub endings_within : (i j : ℕ) → slice_get endings i ≡ Some (Some j) → j < length events
  pub shards_found : (d : List ℕ) → lookup (is_same d) documents ≡ shard_of events d
  pub in_order : documents ≡ documents_of events
  pub lists_size : length lists ≡ length documents
  pub lists_few : listed ≤ length events
  pub lists_found : (k : ℕ) (d : List ℕ × ℕ) → slice_get documents k ≡ Some d → slice_get lists k ≡ Some (calls_at events d.0)

-- the position is added under the number, and each other number keeps its own
abbrev pub IsNotedAt : ℕ → ℕ → List (ℕ × ℕ) → List (ℕ × ℕ) → Type 0
IsNotedAt n place old new = (q : ℕ) → lookup (◌==◌ q) new ≡ cond (n == q) (Some place) (lookup (◌==◌ q) old)

-- the list of the document with one more position; a document that has no list gets one at the end
abbrev pub with_listed : List (List ℕ × ℕ) → List (List ℕ) → List ℕ → ℕ → List (List ℕ)
with_listed [] ls d p = (p ∷ []) ∷ []
with_listed (e ∷ es) [] d p = []
with_listed (e ∷ es) (l ∷ ls) d p = if is_same d e.0 then (l ++ p ∷ []) ∷ ls else l ∷ with_listed es ls d p

-- the event is an ending of the call at the position
abbrev pub IsEndingOf : List Event → ℕ → Event → Type 0
IsEndingOf events c (Call h n d op) = ⊥
IsEndingOf events c (Reply n r) = PassesAt (is_call n) events c
IsEndingOf events c (Lost n) = PassesAt (is_call n) events c

-- the call at the position can have the reply
abbrev pub is_answerable : List Event → ℕ → Answer → Bool
is_answerable events i r = option_map_or (λ op. fits op r) (option_and_then op_named (slice_get events i)) false
