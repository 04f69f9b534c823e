-- The order of the sweep: by stretch, its write first, then in response order.
use Rattle.std.specs.Prelude.{◌≡◌, ℕ, suc, Bool, true, false, List, [], ◌∷◌, Option, Some, None, map, IsPermutation, IsSorted}
use Rattle.std.specs.declared.cmp.Ordering.{Ordering}
use Rattle.std.specs.Ordering.{bool_cmp, nat_cmp, ordering_then}
use Rattle.version_pair.specs.declared.pair.Pair.{Pair}
use Rattle.doc_register.specs.declared.reply.Reply.{Reply}
use Rattle.events.specs.declared.record.Rec.{Rec}
use Rattle.places.specs.declared.place.Place.{Place}
use Rattle.events.specs.Heard.{pair_of}
use Rattle.doc_check.specs.declared.order.StretchKey.{StretchKey}

-- whether a call isn't the write that begins its stretch: a performed write shows a pair
abbrev pub is_later : Option Pair → Bool
is_later None = true
is_later (Some q) = false

-- the sort key of the record numbered k, whose reply is at the index y, in the stretch j
abbrev pub key_of : ℕ → Bool → ℕ → ℕ → StretchKey
key_of j after y k = record { stretch = j; follows_write = after; reply_at = y; rec = k }

-- the sort key of an answered record that was given a stretch
abbrev pub standing_made : ℕ → Option (ℕ × Reply) → Option ℕ → Option StretchKey
standing_made k None given = None
standing_made k (Some heard) None = None
standing_made k (Some heard) (Some j) = Some (key_of j (is_later (pair_of (Some heard))) heard.0 k)

abbrev pub with_standing : Option StretchKey → List StretchKey → List StretchKey
with_standing None rest = rest
with_standing (Some s) rest = s ∷ rest

-- the sort keys of the answered records, if the first record is numbered k
abbrev pub standings_from : ℕ → List Rec → List (Option ℕ) → List StretchKey
standings_from k [] given = []
standings_from k (r ∷ rs) [] = []
standings_from k (r ∷ rs) (g ∷ gs) = with_standing (standing_made k r.heard g) (standings_from (suc k) rs gs)

-- by stretch, its write first, then by the index of the reply, then by number
abbrev pub by_standing : StretchKey → StretchKey → Ordering
by_standing a b =
    ordering_then (nat_cmp a.stretch b.stretch) (ordering_then (bool_cmp a.follows_write b.follows_write) (ordering_then (nat_cmp a.reply_at b.reply_at) (nat_cmp a.rec b.rec)))

-- the place of a record, which gives no pair
abbrev pub place_of : StretchKey → Place
place_of s = record { rec = s.rec; pair = None }

-- The places are the answered records by stretch, its write first, then by the index of the reply.
abbrev pub IsStretchOrder : List Rec → List (Option ℕ) → List Place → Type 0
IsStretchOrder records given places =
    (sorted : List StretchKey) × IsPermutation (standings_from 0 records given) sorted × IsSorted by_standing sorted × (places ≡ map place_of sorted)
