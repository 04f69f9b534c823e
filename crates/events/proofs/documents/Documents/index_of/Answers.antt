use Rattle.std.proofs.Common.{◌∙◌, ap}
use Rattle.std.specs.Prelude.{position}
use Rattle.indexmap.specs.IndexMap.{index_of_by}
use Rattle.events.specs.Events.{is_same}
use Rattle.events.proofs.DocumentLemmas.{position_of_id}
use Rattle.events.proofs.documents.Documents.index_of.Goals as goal

pub returns : goal.returns
returns c =
    c.get_index_of.ensures.index
    ∙ (ap (λ text. index_of_by (is_same text) c.self.inside.shards) c.of.ensures
    ∙ (position_of_id (is_same c.args.id.now) c.self.inside.shards.entries
    ∙ ap (λ d. position (λ e. is_same c.args.id.now e.0) d.entries) c.self.view_is))
