-- Operations as a group reads them.
use Rattle.std.specs.Prelude.{Bool, true, false, None}
use Rattle.doc_register.specs.declared.op.Op.{Op}
use Rattle.doc_register.specs.declared.op.Op.TheVariants.{Get, Index, Delete, Create}

-- the operation is a get
abbrev pub is_get : Op → Bool
is_get Get = true
is_get (Index k c) = false
is_get (Delete c) = false
is_get (Create k) = false

-- the operation without its condition, if it has one; a create stays a create
-- Source: profile.
abbrev pub unconditional : Op → Op
unconditional Get = Get
unconditional (Index k c) = Index k None
unconditional (Delete c) = Delete None
unconditional (Create k) = Create k
