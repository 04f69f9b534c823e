-- The room that events take, event by event.
use Rattle.std.proofs.Common.{ℕ, ◌≡◌, ◌≤◌, ◌+◌, List, [], ◌∷◌, length, take, add-one, ap, ◌∙◌, arith, Some, slice_get}
use Rattle.std.proofs.Math.Seq.{take-length}
use Rattle.std.proofs.lemmas.List.Sums.{sum_by-append}
use Rattle.events.specs.declared.event.Event.{Event}
use Rattle.history.specs.ByRules.{room_of, room_taken}
use Rattle.history.specs.declared.text_rules.Writes.{Writes}
use Rattle.version_pair.proofs.ListLemmas.{take_one_more}

room_taken-one : (w : Writes) (e : Event) → room_taken w (e ∷ []) ≡ room_of w e
room_taken-one w e = omega arith

-- one more event
pub room_next : (w : Writes) (H : List Event) (i : ℕ) (e : Event) → slice_get H i ≡ Some e
    → room_taken w (take (i + 1) H) ≡ room_taken w (take i H) + room_of w e
room_next w H i e at =
    ap (λ k. room_taken w (take k H)) (add-one i)
    ∙ (ap (room_taken w) (take_one_more H i e at)
    ∙ (sum_by-append (room_of w) (take i H) (e ∷ [])
    ∙ ap (λ n. room_taken w (take i H) + n) (room_taken-one w e)))

-- all events
pub room_all : (w : Writes) (H : List Event) (n : ℕ) → n ≡ length H → room_taken w (take n H) ≡ room_taken w H
room_all w H n h = ap (λ k. room_taken w (take k H)) h ∙ ap (room_taken w) (take-length H)
