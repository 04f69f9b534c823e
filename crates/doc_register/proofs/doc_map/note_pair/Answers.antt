use Rattle.std.proofs.Common.{◌∙◌}
use Rattle.doc_register.proofs.DocumentLemmas.{insert_key-unused}
use Rattle.doc_register.proofs.doc_map.note_pair.Goals as goal

pub returns : goal.returns
returns c = c.in-Ok.ensures.keys ∙ insert_key-unused c.args.pair c.args.used.now.keys c.requires.unused
