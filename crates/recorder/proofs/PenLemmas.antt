-- What a pen's list says of a call that was recorded last.
use Rattle.std.proofs.Common.{ℕ, ◌≡◌, ◌∙◌, List, [], ◌∷◌, ◌++◌, None, Some, ap, eq-eqb, false, refl}
use Rattle.std.specs.Prelude.{◌==◌, ◌||◌, if◌then◌else◌}
use Rattle.doc_register.specs.declared.op.Op.{Op}
use Rattle.events.specs.declared.event.Event.{Event}
use Rattle.events.specs.declared.event.Event.TheVariants.{Call}
use Rattle.events.specs.Refusal.{op_of}
use Rattle.recorder.specs.Pens.{IsUnused, events_in, is_ended}
use Rattle.recorder.proofs.NoteLemmas.{is_ended-snoc, op_of-snoc}
use Rattle.std.specs.Option.{option_or}

-- the list has the call under its number, and no ending of it
pub called_last : (list : List (ℕ × Event)) (n : ℕ) (d : List ℕ) (op : Op) → IsUnused n list
    → (op_of (events_in (list ++ (n, Call 0 n d op) ∷ [])) n ≡ Some op) × (is_ended (list ++ (n, Call 0 n d op) ∷ []) n ≡ false)
called_last list n d op unused = (
  op_of-snoc list (n, Call 0 n d op) n
      ∙ ap (λ o. option_or o (if n == n then Some op else None)) unused.0
      ∙ ap (λ b. if b then Some op else None) (eq-eqb n n refl),
  is_ended-snoc list (n, Call 0 n d op) n ∙ ap (λ b. b || false) unused.1,
)
