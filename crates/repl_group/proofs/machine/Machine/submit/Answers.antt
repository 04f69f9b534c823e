use Rattle.std.proofs.Common.{◌==◌, ◌∙◌, ap, sym}
use Rattle.std.specs.Prelude.{unwrap_or}
use Rattle.std.specs.Cmp.Lexicographic.{pointwise}
use Rattle.std.specs.List.{position, position_or_len}
use Rattle.indexmap.specs.IndexSet.{insert_key}
use Rattle.repl_group.proofs.ListLemmas.{first_or_len}
use Rattle.repl_group.proofs.MachineLemmas.{submits}
use Rattle.repl_group.proofs.machine.Machine.submit.Goals as goal

pub returns-clause-ok : goal.returns-clause-ok
returns-clause-ok c =
    submits c.args.self.now _ c.args.id c.args.op c.unwrap_or-doc.result c.len-ticket.result _ _ c.self.view_is c.len-ticket.ensures (sym c.is_full.ensures ∙ c.if-is_full.false)
    (c.in-Ok.ensures.keys ∙ ap (λ ds. insert_key (λ d e. pointwise ◌==◌ d e) ds c.args.id) c.in_ok-reserve.ensures.keys)
    (c.unwrap_or-doc.ensures
    ∙ (ap (λ o. unwrap_or o c.len.result) c.get_index_of.ensures.index ∙ (ap (unwrap_or (position (λ d. pointwise ◌==◌ c.args.id d) c.reserve.new.self.keys)) c.len.ensures.len
    ∙ (first_or_len (λ d. pointwise ◌==◌ c.args.id d) c.reserve.new.self.keys ∙ ap (position_or_len (λ d. pointwise ◌==◌ c.args.id d)) c.in_ok-reserve.ensures.keys))))
    (c.in_ok-add.ensures.ok)
