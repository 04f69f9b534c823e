-- The order of pairs. A `Pair` is what OpenSearch calls primary term and sequence number. Its ranges are
-- facts of the type (`term_from_one`, `term_fits`, `seq_fits`): a pair outside them does not exist in any
-- definition.
use Rattle.std.specs.Prelude.{◌≡◌, ◌<◌, ◌⊎◌}
use Rattle.version_pair.specs.declared.pair.Pair.{Pair}

-- p is below q: it has a smaller term, or the same term and a smaller sequence number
-- Source: profile.
abbrev pub IsBelow : Pair → Pair → Type 0
IsBelow p q = (p.term < q.term) ⊎ ((p.term ≡ q.term) × (p.seq < q.seq))
