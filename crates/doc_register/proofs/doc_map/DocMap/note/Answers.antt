use Rattle.std.proofs.Common.{◌≡◌, ap, subst, Contains, reverse, rules}
use Rattle.doc_register.proofs.DocumentLemmas.{Contains-reversed}
use Rattle.doc_register.proofs.doc_map.DocMap.note.Goals as goal

pub note_pair-requires-clause-unused : goal.note_pair-requires-clause-unused
note_pair-requires-clause-unused c = λ has.
    let same : c.reserve.new.self.keys ≡ c.self.inside.used.keys = search rules in
    let seen : reverse c.self.inside.used.keys ≡ c.args.self.now.used = ap (λ m. m.used) c.self.view_is in
    c.requires (subst (λ us. Contains us c.args.pair) seen (Contains-reversed c.self.inside.used.keys c.args.pair (subst (λ us. Contains us c.args.pair) same has)))
