use Rattle.version_pair.proofs.ListLemmas.{get_within}
use Rattle.std.proofs.Common.{ap, sym, take}
use Rattle.std.proofs.lemmas.Option.{get_or_from_slice_get}
use Rattle.write_chain.specs.declared.answers.AnsweredRec.{AnsweredRec}
use Rattle.readings.proofs.PeakLemmas.{peaks_more}
use Rattle.readings.proofs.peaks.Changes.peaks.Goals as goal

pub loop-k-preserved : goal.loop-k-preserved
loop-k-preserved c =
    let answers = c.args.answers.now in
    let at = get_within answers c.loop-k.k c.loop-k-test.true in
    peaks_more c.args.self c.args.records.now answers c.loop-k.peaks.items c.push-in-loop-k.new.self.items c.loop-k.k c.loop-k.peak c.higher-peak.result at.0 c.loop-k.invariant at.1
    (c.higher-peak.ensures (take c.loop-k.k answers) at.0 (sym (ap (λ (a : AnsweredRec). a.rec) (get_or_from_slice_get answers c.loop-k.k at.0 (record { reply_at = 0; rec = 0 }) at.1))) c.loop-k.invariant.last) c.in_ok-push-2.ensures.items
