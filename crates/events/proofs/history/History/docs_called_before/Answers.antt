use Rattle.std.proofs.Common.{◌∙◌, ap, length, take}
use Rattle.events.specs.Events.{documents_of}
use Rattle.events.proofs.FrontLemmas.{documents_cut}
use Rattle.events.proofs.history.History.docs_called_before.Goals as goal

pub returns : goal.returns
returns c =
    let events = c.self.inside.events.items in
    c.called_before.ensures (length (documents_of (take c.args.end events)))
    (documents_cut events c.args.end c.self.inside.documents.entries c.self.inside.documents.lists c.self.invariant.in_order c.self.invariant.lists_size
    c.self.invariant.lists_found)
    ∙ ap (λ H. length (documents_of (take c.args.end H))) c.self.view_is
