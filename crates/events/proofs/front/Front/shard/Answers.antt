use Rattle.events.proofs.FrontLemmas.{document_of_whole, same_document}
use Rattle.events.proofs.front.Front.shard.Goals as goal

pub shard-requires : goal.shard-requires
shard-requires c = document_of_whole c.self.inside.history.now c.args.self.now c.self.inside.end c.args.doc c.self.view_is c.requires

pub returns : goal.returns
returns c = same_document (λ d. d.1) c.self.inside.history.now c.args.self.now c.self.inside.end c.args.doc c.shard.result c.self.view_is c.requires c.shard.ensures
