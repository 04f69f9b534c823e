use Rattle.std.proofs.Common.{ℕ, ◌≡◌, ◌∙◌, Option, Some, ap, subst, sym}
use Rattle.std.specs.Prelude.{◌↔◌}
use Rattle.version_pair.proofs.ListLemmas.{none_is_not_some}
use Rattle.events.specs.declared.event.Event.{Event}
use Rattle.evidence.proofs.CallsByNumber.{found_elsewhere}
use Rattle.compose.specs.Certainties.{IsDocumentOf}
use Rattle.compose.proofs.CertaintyLemmas.{document_of_call, no_document_of_call}
use Rattle.compose.proofs.certainty.document_of.Goals as goal

pub returns-in-Call : goal.returns-in-Call
returns-in-Call c = λ doc.
    let at = c.event.ensures ∙ ap (λ (e : Event). Some e) c.in-Call.is in
    subst (λ (o : Option ℕ). (o ≡ Some doc) ↔ IsDocumentOf c.args.history.now c.args.call doc) (sym c.doc_of.ensures)
    (document_of_call c.args.history.now c.args.call c.in-Some.place c.in-Call.shard c.in-Call.no c.in-Call.id c.in-Call.op c.requires (sym c.in-Some.ensures.place) at doc)

pub returns-in-Reply : goal.returns-in-Reply
returns-in-Reply c = absurd (found_elsewhere c.args.history.now c.args.call c.in-Some.place c.event.result.now (sym c.in-Some.ensures.place) c.event.ensures (λ m h d op is. cc))

pub returns-in-Reply-2 : goal.returns-in-Reply-2
returns-in-Reply-2 c = absurd (found_elsewhere c.args.history.now c.args.call c.in-Some.place c.event.result.now (sym c.in-Some.ensures.place) c.event.ensures (λ m h d op is. cc))

pub returns-in-None : goal.returns-in-None
returns-in-None c = λ doc. (
  λ never. absurd (none_is_not_some doc never),
  λ is. absurd (no_document_of_call c.args.history.now c.args.call doc (sym c.in-None.ensures.place) is),
)
