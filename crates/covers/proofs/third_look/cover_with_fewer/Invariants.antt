use Rattle.std.specs.Prelude.{false}
use Rattle.doc_register.specs.declared.state.Conflicts.{Conflicts}
use Rattle.events.specs.Events.{documents_of}
use Rattle.covers.specs.aids.Searched.{AreSearched}
use Rattle.covers.proofs.third_look.cover_with_fewer.Given as goal

abbrev pub invariant-loop : goal.invariant-loop
invariant-loop l =
    (conflicts : Conflicts) → AreSearched conflicts l.history false (documents_of l.history) l.fn.witnesses.items
    → AreSearched conflicts l.history false (documents_of l.history) l.witnesses.items
