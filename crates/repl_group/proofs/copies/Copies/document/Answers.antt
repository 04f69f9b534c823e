use Rattle.std.proofs.Common.{◌≡◌, ◌∙◌, ap, sym, Some, None}
use Rattle.std.specs.Option.{option_copied}
use Rattle.std.specs.Prelude.{slice_get}
use Rattle.repl_group.specs.Copies.{document_in}
use Rattle.repl_group.proofs.KeepLemmas.{nothing_seen, writes_seen}
use Rattle.repl_group.proofs.copies.Copies.document.Goals as goal

pub returns-in-Some : goal.returns-in-Some
returns-in-Some c =
    let at : slice_get c.self.inside.list.items c.args.copy ≡ Some c.in-Some.replica.now =
    ap (λ l. slice_get l c.args.copy) (sym c.deref.ensures.value) ∙ (sym c.find_replica.ensures ∙ ap (λ o. option_copied o) c.in-Some.is) in
    let kept = c.self.invariant.kept c.args.copy c.in-Some.replica.now at in
    c.document.ensures ∙ (kept.noted.noted c.args.doc ∙ ap (λ w. document_in w c.args.doc) (sym (writes_seen c.self.inside.log c.self.inside.list.items c.args.self.now c.args.copy c.in-Some.replica.now c.self.view_is at)))

pub returns-in-None : goal.returns-in-None
returns-in-None c =
    let at : slice_get c.self.inside.list.items c.args.copy ≡ None =
    ap (λ l. slice_get l c.args.copy) (sym c.deref.ensures.value) ∙ (sym c.find_replica.ensures ∙ ap (λ o. option_copied o) c.in-None.is) in
    ap (λ w. document_in w c.args.doc) (sym (nothing_seen c.self.inside.log c.self.inside.list.items c.args.self.now c.args.copy c.self.view_is at))
