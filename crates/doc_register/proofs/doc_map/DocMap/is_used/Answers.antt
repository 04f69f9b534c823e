use Rattle.std.proofs.Common.{◌≡◌, ap, sym, subst, ◌∙◌, Contains, reverse}
use Rattle.doc_register.proofs.DocumentLemmas.{Contains-from_reversed, Contains-reversed, found_used, used_found}
use Rattle.doc_register.proofs.doc_map.DocMap.is_used.Goals as goal

pub returns : goal.returns
returns c =
    let keys = c.self.inside.used.keys in
    let seen : reverse keys ≡ c.args.self.now.used = ap (λ m. m.used) c.self.view_is in (
      λ yes. subst (λ us. Contains us c.args.pair) seen (Contains-reversed keys c.args.pair (found_used c.args.pair keys (sym c.contains.ensures ∙ yes))),
      λ has. c.contains.ensures ∙ used_found c.args.pair keys (Contains-from_reversed keys c.args.pair (subst (λ us. Contains us c.args.pair) (sym seen) has)),
    )
