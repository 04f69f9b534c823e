use Rattle.std.proofs.Common.{◌≡◌, ◌∙◌, ◌≤◌, ◌+◌, arith, length, sym, subst}
use Rattle.events.specs.Events.{documents_of}
use Rattle.readings.specs.Reading.{heeded_events}
use Rattle.readings.specs.aids.Unexplained.{IsJudgedSoFar}
use Rattle.readings.proofs.ReadingLaws.{heeded_history}
use Rattle.readings.proofs.UnexplainedLemmas.{explained_if, explained_more, heeded_there, judged_all, unexplained_more}
use Rattle.readings.proofs.unexplained.unexplained_get.Goals as goal
use Rattle.readings.proofs.unexplained.unexplained_get.Goals.{in-Some, in_default}

pub loop-doc-preserved : goal.loop-doc-preserved
loop-doc-preserved c =
    let reading = c.args.reading in
    let voids = c.args.voids.now in
    let text = c.args.text.now in
    let there = heeded_there reading voids text c.loop-doc.doc c.in_ok-records.field-0.items c.in_ok-records-2.records.items c.in_ok-records.ensures c.in_ok-records-2.ensures in
    elim c.match-branch-4.branch [
      | in-Some w ↦ subst (IsJudgedSoFar reading voids text (c.loop-doc.doc + 1)) (sym w.first-is)
          (unexplained_more reading voids text c.loop-doc.doc (c.loop-doc.doc + 1) c.loop-doc.first w.unexplained.result w.earlier.result
          (w.unexplained.ensures (heeded_events reading voids text) there.document.0 (heeded_history reading voids text c.len.ensures.history c.requires) (there.same ∙ sym w.deref-in-Some.ensures.value))
          w.earlier.ensures c.loop-doc.invariant)
      | in_default w ↦ subst (IsJudgedSoFar reading voids text (c.loop-doc.doc + 1)) (sym w.first-is)
          (explained_more reading voids text c.loop-doc.doc c.in_ok-records-2.records.items c.loop-doc.first there
          (explained_if reading c.deref.result.now c.in_ok-records-2.records.items c.in_ok-get.field-0 c.in_ok-get.ensures w.in_default.is c.deref.ensures.value) c.loop-doc.invariant)
    ]

pub returns : goal.returns
returns c =
    let end : c.docs-doc-end.result ≤ c.loop-doc.doc = c.loop-doc-test.false in
    let count : c.docs-doc-end.result ≡ length (documents_of c.args.text.now) = c.docs-doc-end.ensures in
    judged_all c.args.reading c.args.voids.now c.args.text.now c.loop-doc.doc c.loop-doc.first c.len.ensures.history c.requires (omega arith) c.loop-doc.invariant
