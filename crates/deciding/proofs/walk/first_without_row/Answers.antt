use Rattle.std.proofs.Common.{rules, ◌≡◌, ◌+◌, suc, length, Some, slice_get, slice_index_or, sym, ap, subst, ◌∙◌, arith}
use Rattle.std.proofs.lemmas.Option.{get_or_from_slice_get, slice_get-get_or}
use Rattle.events.specs.declared.record.Rec.{Rec}
use Rattle.write_chain.specs.AnsweredCalls.{answer_of}
use Rattle.write_chain.specs.declared.answers.AnsweredRec.{AnsweredRec}
use Rattle.deciding.specs.aids.Walks.{IsAnswerAt}
use Rattle.deciding.proofs.EventLemmas.{IsBetween, answer_at, no_items, none_left, passes_reply, passes_to}
use Rattle.deciding.proofs.walk.first_without_row.Goals as goal

pub loop-answer-preserved : goal.loop-answer-preserved
loop-answer-preserved c =
    let records = c.args.document.now.records.now in
    let answers = c.args.answers.now in
    let i = c.loop-answer.answer-index in
    let a : AnsweredRec = slice_index_or answers i (answer_of 0 0) in
    let at : slice_get answers i ≡ Some a = slice_get-get_or answers i (answer_of 0 0) c.loop-answer-test.true in
    let e = answer_at records answers i a c.requires.sorted at in
    let same : slice_index_or records a.rec c.index-document-answer.result ≡ e.0 = get_or_from_slice_get records a.rec e.0 c.index-document-answer.result e.1.at in
    let answer = subst (λ (r : Rec). IsAnswerAt records a.rec r a.reply_at) (sym same) e.1 in
    let passed = c.in_ok-made.ensures c.requires.document (passes_to c.args.document.now answers i c.loop-answer.made a c.loop-answer.walk c.requires.document c.requires.sorted at c.loop-answer.invariant) in
    let walked = c.in_ok-answer.ensures c.requires.document answer c.if-not-branch.false passed.0 in
    let next : suc i ≡ i + 1 = omega arith in
    subst (λ n. IsBetween c.args.document.now answers n c.in_ok-made.made c.answer.new.self) next
    (passes_reply c.args.document.now answers i c.in_ok-made.made a c.answer.new.self c.requires.document c.requires.sorted at passed.1 walked)

pub returns-then-is_empty : goal.returns-then-is_empty
returns-then-is_empty c =
    let records = c.args.document.now.records.now in
    let answers = c.args.answers.now in
    let i = c.loop-answer.answer-index in
    let a : AnsweredRec = slice_index_or answers i (answer_of 0 0) in
    let at : slice_get answers i ≡ Some a = slice_get-get_or answers i (answer_of 0 0) c.loop-answer-test.true in
    let e = answer_at records answers i a c.requires.sorted at in
    let same : slice_index_or records a.rec c.index-document-answer.result ≡ e.0 = get_or_from_slice_get records a.rec e.0 c.index-document-answer.result e.1.at in
    let answer = subst (λ (r : Rec). IsAnswerAt records a.rec r a.reply_at) (sym same) e.1 in
    let passed = c.in_ok-made.ensures c.requires.document (passes_to c.args.document.now answers i c.loop-answer.made a c.loop-answer.walk c.requires.document c.requires.sorted at c.loop-answer.invariant) in
    let walked = c.in_ok-answer.ensures c.requires.document answer c.if-not-branch.false passed.0 in
    let none : length c.answer.new.self.front.items ≡ 0 = search rules in
    none_left c.args.document.now answers i a (slice_index_or records a.rec c.index-document-answer.result) c.answer.new.self c.requires.sorted at
    (e.1.at ∙ ap (λ (r : Rec). Some r) (sym same)) walked (no_items c.answer.new.self.front.items none)
