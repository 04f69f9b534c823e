use Rattle.std.proofs.Common.{◌≡◌, length, ◌<◌}
use Rattle.std.specs.List.{HoldsAt}
use Rattle.std.specs.declared.cmp.Ordering.TheVariants.{Equal}
use Rattle.write_chain.specs.Chain.{pair_cmp}
use Rattle.doc_check.proofs.StretchLemmas.{write_above, write_found, write_missed, write_other}
use Rattle.doc_check.proofs.stretches.Stretches.of_write.Goals as goal
use Rattle.doc_check.proofs.stretches.Stretches.of_write.Goals.{else-link-bound-via-then-link-bound+else-index-rec, else-link-bound-via-else-link-bound}

pub returns-then-index-rec-clause-some : goal.returns-then-index-rec-clause-some
returns-then-index-rec-clause-some c =
    write_found c.args.self.now c.args.rec c.args.pair c.args.bound c.in-Ok.link c.index.result.now c.requires
    c.in-Ok.ensures.bound
    c.in-Ok.ensures.position
    c.index.ensures c.if-index-rec.true c.if-link-bound.true

pub returns-else-link-bound-clause-none : goal.returns-else-link-bound-clause-none
returns-else-link-bound-clause-none c =
    let within : c.in-Ok.link < length c.args.self.now.pairs.items = c.in-Ok.ensures.bound in
    let holds : HoldsAt (λ y. pair_cmp y c.args.pair ≡ Equal) c.args.self.now.pairs.items c.in-Ok.link =
    c.in-Ok.ensures.position in
    elim c.else-link-bound.branch [
      | else-link-bound-via-then-link-bound+else-index-rec w ↦
          write_other c.args.self.now c.args.rec c.args.pair c.args.bound c.in-Ok.link w.index.result.now c.requires within holds w.index.ensures w.if-index-rec.false
      | else-link-bound-via-else-link-bound w ↦
          write_above c.args.self.now c.args.rec c.args.pair c.args.bound c.in-Ok.link c.requires within holds w.if-link-bound.false
    ]

pub returns-in-Err-clause-none : goal.returns-in-Err-clause-none
returns-in-Err-clause-none c =
    write_missed c.args.self.now c.args.rec c.args.pair c.args.bound c.in-Err.field-0 c.requires
    c.in-Err.ensures.position
