-- What a look-up in a slice returns, as the element at its index.
use Rattle.std.proofs.Common.{ℕ, ◌≡◌, List, refl, sym, Option, Some, None, slice_get, Bor}
use Rattle.std.specs.Option.{option_copied}
use Rattle.std.specs.Slice.{IsItemAt}
use Rattle.std.proofs.lemmas.Option.{slice_get_past, slice_get_read}

pub copied_get : {X : Type 0} (xs : List X) (i : ℕ) (r : Option (Bor X)) → IsItemAt xs i r → option_copied r ≡ slice_get xs i
copied_get xs i None item = sym (slice_get_past xs i item.3)
copied_get xs i (Some x) item = sym (slice_get_read xs _ i x.now refl item.3.0 item.1)
