-- Positions of a document's calls among its known pairs. 0 is the position of a document that was never
-- written. If n known pairs are below a pair, a call that takes it has the position 2n + 1; a document that
-- has it has the position 2n + 2 if the pair is known, and otherwise 2n + 1. So positions don't fall along an
-- order of the calls.
use Rattle.std.specs.Prelude.{◌*◌, ◌==◌, ◌&&◌, ◌||◌, ℕ, suc, Bool, List, [], ◌∷◌, cond, nat_lt}
use Rattle.version_pair.specs.declared.pair.Pair.{Pair}
use Rattle.events.specs.declared.record.Rec.{Rec}
use Rattle.deciding.specs.Reported.{known_pairs}

-- the first pair is below the second
abbrev pub is_below : Pair → Pair → Bool
is_below p q = nat_lt p.term q.term || (p.term == q.term && nat_lt p.seq q.seq)

-- the number of the pairs below p
abbrev pub count_below : List Pair → Pair → ℕ
count_below [] p = 0
count_below (v ∷ vs) p = cond (is_below v p) (suc (count_below vs p)) (count_below vs p)

-- the position of a call that takes the pair; and of a document that has the pair, if it is unknown
-- Source: profile.
abbrev pub taking_position : List Rec → Pair → ℕ
taking_position records p = suc (2 * count_below (known_pairs records) p)

-- the position of a document that has the pair, which is known
-- Source: profile.
abbrev pub version_of : List Rec → Pair → ℕ
version_of records p = suc (taking_position records p)
