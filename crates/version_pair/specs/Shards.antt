-- The shards of an index.
use Rattle.std.specs.Prelude.{ℕ}

-- the number of shards, 1,024: their numbers are below it
-- Source: OpenSearch.
abbrev pub most_shards : ℕ
most_shards = 1024
