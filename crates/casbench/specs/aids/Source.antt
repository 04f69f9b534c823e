-- The bytes of a text that is read from a file or from the input.
use Rattle.std.specs.Prelude.{ℕ, List, Option}
use Rattle.casbench.specs.declared.files.Source.{Source}
use Rattle.casbench.specs.declared.files.Source.TheVariants.{File, Input}

-- what the file has left, or the input
abbrev pub remaining_of : {F I : Type 0} → (F → Option (List ℕ)) → (I → Option (List ℕ)) → Source F I → Option (List ℕ)
remaining_of file input (File f) = file f
remaining_of file input (Input i) = input i
