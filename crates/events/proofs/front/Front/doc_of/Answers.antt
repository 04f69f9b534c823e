use Rattle.std.proofs.Common.{◌∙◌, ap}
use Rattle.std.specs.Prelude.{position}
use Rattle.events.specs.Events.{documents_of, is_same}
use Rattle.events.specs.aids.Fronts.{when_below}
use Rattle.events.proofs.FrontLemmas.{document_number}
use Rattle.events.proofs.front.Front.doc_of.Goals as goal

pub returns : goal.returns
returns c =
    c.below.ensures
    ∙ (ap (when_below c.self.inside.docs) c.doc_of.ensures
    ∙ (document_number (λ d. is_same c.args.id.now d.0) c.self.inside.history.now c.self.inside.end c.self.inside.docs c.self.invariant.documents
    ∙ ap (λ H. position (λ d. is_same c.args.id.now d.0) (documents_of H)) c.self.view_is))
