-- What a walk along the events of a document is given beside the records of its calls.
use Rattle.std.specs.Prelude.{Bool}
use Rattle.version_pair.specs.declared.pair.Pair.{Pair}
use Rattle.doc_register.specs.declared.state.Conflicts.{Conflicts}

-- What is known beside the records of the document.
pub record Facts : Type 0 where
  -- how a conflict is read
  pub conflicts : Conflicts
  -- the pair is one that another document of the shard is known to have
  pub elsewhere : Pair → Bool
