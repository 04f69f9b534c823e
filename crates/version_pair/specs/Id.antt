-- Which texts are document ids.
use Rattle.std.specs.Prelude.{ℕ, ◌<◌, ◌≤◌}

-- the greatest length of a document id, in bytes: 512
-- Source: OpenSearch.
abbrev pub longest_id : ℕ
longest_id = 512

-- the number of bytes of a document id: 1 to 512
-- Source: OpenSearch (the bound on `_id`); profile: that an empty id is none.
pub record IsIdLength (n : ℕ) : Type 0 where
  pub some : 0 < n
  pub within : n ≤ longest_id
