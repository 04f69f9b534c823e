use Rattle.events.proofs.FrontLemmas.{document_of_whole, same_document}
use Rattle.events.proofs.front.Front.doc.Goals as goal

pub doc-requires : goal.doc-requires
doc-requires c = document_of_whole c.self.inside.history.now c.args.self.now c.self.inside.end c.args.doc c.self.view_is c.requires

pub returns : goal.returns
returns c = same_document (λ d. d.0) c.self.inside.history.now c.args.self.now c.self.inside.end c.args.doc c.doc.result.now c.self.view_is c.requires c.doc.ensures
