use Rattle.std.proofs.Common.{◌≡◌, Some, slice_get, refl, sym, ◌∙◌, arith}
use Rattle.std.proofs.lemmas.Option.{slice_get_read}
use Rattle.check_pool.proofs.SlotLemmas.{is_true, none_at, some_at}
use Rattle.check_pool.proofs.collector.take.Goals as goal

pub returns-clause-job : goal.returns-clause-job
returns-clause-job c =
    let at : slice_get c.args.jobs.now c.doc-doc.result ≡ Some c.in-Some.job.now =
    slice_get_read c.args.jobs.now _ c.doc-doc.result c.in-Some.job.now refl c.in-Some.ensures.lookup.3.0 c.in-Some.ensures.lookup.1 in
    (c.in-Some.job.now, rw c.doc-doc.ensures at at, c.is_about.ensures.0 (is_true _ c.if-not-is_about.false))

pub returns-clause-free : goal.returns-clause-free
returns-clause-free c =
    rw c.doc-doc.ensures at (none_at c.args.slots.now c.doc-doc.result c.index-slots-doc.result (omega (arith, c.in-Some.ensures.lookup.3.0, c.requires))
    (sym c.if-is_some.false ∙ c.is_some.ensures))

pub returns-then-is_some-clause-fault : goal.returns-then-is_some-clause-fault
returns-then-is_some-clause-fault c =
    let at : slice_get c.args.jobs.now c.doc-doc.result ≡ Some c.in-Some.job.now =
    slice_get_read c.args.jobs.now _ c.doc-doc.result c.in-Some.job.now refl c.in-Some.ensures.lookup.3.0 c.in-Some.ensures.lookup.1 in (
      sym c.doc-doc.ensures,
      (c.in-Some.job.now, rw c.doc-doc.ensures at at, c.is_about.ensures.0 (is_true _ c.if-not-is_about.false)),
      some_at c.args.slots.now c.doc-doc.result c.index-slots-doc.result (omega (arith, c.in-Some.ensures.lookup.3.0, c.requires))
          (sym c.if-is_some.true ∙ c.is_some.ensures),
    )
