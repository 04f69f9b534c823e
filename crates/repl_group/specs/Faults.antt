-- What a group does wrong.
use Rattle.std.specs.Prelude.{Bool, true, false}
use Rattle.repl_group.specs.declared.fault.Fault.{Fault}
use Rattle.repl_group.specs.declared.fault.Fault.TheVariants.{Dirty, Early, SameTerm, Stale, Blind}

-- the fault is Dirty
abbrev pub is_dirty : Fault → Bool
is_dirty Dirty = true
is_dirty _ = false

-- the fault is Early
abbrev pub is_early : Fault → Bool
is_early Early = true
is_early _ = false

-- the fault is SameTerm
abbrev pub is_same_term : Fault → Bool
is_same_term SameTerm = true
is_same_term _ = false

-- the fault is Stale
abbrev pub is_stale : Fault → Bool
is_stale Stale = true
is_stale _ = false

-- the fault is Blind
abbrev pub is_blind : Fault → Bool
is_blind Blind = true
is_blind _ = false
