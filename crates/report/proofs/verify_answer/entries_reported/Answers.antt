use Rattle.std.proofs.Common.{map, refl, subst, sym}
use Rattle.places.specs.Documents.{doc_places}
use Rattle.readings.specs.WayBack.{IsKept}
use Rattle.report.proofs.FindingLemmas.{lost_kept}
use Rattle.report.proofs.VerifyAnswers.{IsOfEntries, entries_of, made_covered, made_kind, verify_broken}
use Rattle.report.proofs.verify_answer.entries_reported.Goals as goal

pub covered_reported-requires : goal.covered_reported-requires
covered_reported-requires c =
    lost_kept c.args.reading c.args.read c.in_ok-judged.field-0.judged c.in_ok-judged.field-0.text c.requires.void c.in_ok-judged.ensures.kept

pub returns-in-Ok-clause-answer : goal.returns-in-Ok-clause-answer
returns-in-Ok-clause-answer c =
    let it = c.in_ok-judged.field-0 in
    let proof = c.in-Ok.proof in
    let ok = c.in-Ok.ensures.ok in
    let kept = subst (λ H. IsKept c.args.reading c.args.read H it.text) (sym ok.0) c.in_ok-judged.ensures.kept in
    made_covered c.args.reading c.args.read proof (map doc_places c.args.entries.items) c.covered_reported.result c.evidence_refutes.ensures
    (entries_of c.args.reading c.args.read proof (map doc_places c.args.entries.items) it.judged _ c.in_ok-judged.ensures.judged c.conflicts_checked.ensures ok.0 ok.1 ok.2 (c.in-Ok.ensures.cover refl))
    (c.covered_reported.ensures c.args.read kept)

pub returns-in-Ok-clause-kind : goal.returns-in-Ok-clause-kind
returns-in-Ok-clause-kind c =
    let kept = subst (λ H. IsKept c.args.reading c.args.read H c.in_ok-judged.field-0.text) (sym c.in-Ok.ensures.ok.0) c.in_ok-judged.ensures.kept in
    made_kind c.args.reading c.args.read c.in-Ok.proof c.covered_reported.result (c.covered_reported.ensures c.args.read kept)

pub returns : goal.returns
returns c = record {
  answer = verify_broken c.args.reading c.args.read _ c.in_ok-judged.field-0.judged (map doc_places c.args.entries.items) c.in-Err.fault c.in_ok-judged.ensures.judged c.conflicts_checked.ensures
      (c.in-Err.ensures.fault c.in_default.not-NoMemory) (c.in-Err.ensures.no_cover c.in_default.not-NoMemory);
  kind = tt;
}
