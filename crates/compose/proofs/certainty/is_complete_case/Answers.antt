use Rattle.std.proofs.Common.{List, subst}
use Rattle.std.specs.Prelude.{◌↔◌, IsTrue}
use Rattle.doc_register.specs.declared.state.Conflicts.{Conflicts}
use Rattle.events.specs.declared.event.Event.{Event}
use Rattle.compose.specs.Laws.{IsComplete}
use Rattle.compose.proofs.certainty.is_complete_case.Goals as goal

pub returns-clause-complete : goal.returns-clause-complete
returns-clause-complete c =
    subst (λ (k : Conflicts). IsTrue c.is_complete_history.result ↔ IsComplete k c.args.case.now.events) c.conflicts.ensures
    (subst (λ (es : List Event). IsTrue c.is_complete_history.result ↔ IsComplete c.conflicts.result es) c.history.ensures.same c.is_complete_history.ensures)

pub returns-clause-none : goal.returns-clause-none
returns-clause-none c = λ yes. c.history.ensures.none.complete ((returns-clause-complete c).0 yes)
