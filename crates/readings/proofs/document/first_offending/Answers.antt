use Rattle.std.proofs.Common.{rules, ◌≡◌, ◌<◌, ◌≤◌, List, arith, length, subst}
use Rattle.events.specs.declared.record.Rec.{Rec}
use Rattle.write_chain.specs.AnsweredCalls.{AreAnsweredCalls}
use Rattle.readings.proofs.JudgeLemmas.{explained_all}
use Rattle.readings.proofs.document.first_offending.Goals as goal

pub returns : goal.returns
returns c =
    let calls = c.in_ok-calls.calls in
    let answers = calls.answers.items in
    let same : calls.records.now ≡ c.args.records.now = c.in_ok-calls.ensures.records in
    let are : AreAnsweredCalls c.args.records.now answers = subst (λ (rs : List Rec). AreAnsweredCalls rs answers) same c.in_ok-calls.ensures.ready.answers in
    let end : length answers ≤ c.loop-k.k = search rules in
    explained_all c.args.reading c.args.records.now answers are (λ m a r within at there. c.loop-k.invariant m a r (omega (arith, within, end)) at there)
