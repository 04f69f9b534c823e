-- Truth values, options and results, as every crate above needs them.
use Rattle.std.proofs.Common.{◌≡◌, Bool, true, false, Option, Some, None, Result, Ok, Err, refl}
use Rattle.std.specs.Prelude.{◌&&◌, ◌||◌, is_some}

-- both halves of a test
pub both : (a b : Bool) → (a && b) ≡ true → (a ≡ true) × (b ≡ true)
both true b is = (refl, is)
both false b is = absurd (cc)

pub or-true : (b : Bool) → (b || true) ≡ true
or-true true = refl
or-true false = refl

pub none_from_is_some : {X : Type 0} (o : Option X) → is_some o ≡ false → o ≡ None
none_from_is_some None is = refl
none_from_is_some (Some x) is = let impossible : true ≡ false = is in cc

pub err_is_not_ok : {A E P : Type 0} (e : E) (x : A) → Err e ≡ Ok x → P
err_is_not_ok e x is = absurd (cc)

pub same_ok : {X E : Type 0} (x y : X) → ◌≡◌ {A = Result X E} (Ok x) (Ok y) → x ≡ y
same_ok x y is = cc
