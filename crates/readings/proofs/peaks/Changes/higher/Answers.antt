use Rattle.std.proofs.Common.{◌++◌, ◌∷◌, [], Some, ap, sym, subst, true≢false, ◌∙◌}
use Rattle.readings.specs.aids.Peaks.{IsPeakOf, pair_at}
use Rattle.readings.proofs.PeakLemmas.{peak_begins, peak_has, peak_holds, peak_rises, peak_stays}
use Rattle.readings.proofs.peaks.Changes.higher.Goals as goal

pub returns-in_default : goal.returns-in_default
returns-in_default c = λ answers a same before.
    peak_stays c.args.self c.args.records.now answers a c.args.peak (ap (pair_at c.args.self c.args.records.now) same ∙ (sym c.pair_at.ensures ∙ c.in_default.is)) before

pub returns-in_default-peak : goal.returns-in_default-peak
returns-in_default-peak c = λ answers a same before.
    subst (λ k. IsPeakOf c.args.self c.args.records.now (answers ++ a ∷ []) (Some k)) same
    (peak_begins c.args.self c.args.records.now answers a c.in-Some.pair (ap (pair_at c.args.self c.args.records.now) same ∙ (sym c.pair_at.ensures ∙ c.in-Some.is))
    (subst (IsPeakOf c.args.self c.args.records.now answers) c.in_default-peak.is before))

pub returns-in-Some-pair_at : goal.returns-in-Some-pair_at
returns-in-Some-pair_at c = λ answers a same before.
    subst (λ k. IsPeakOf c.args.self c.args.records.now (answers ++ a ∷ []) (Some k)) same
    (peak_rises c.args.self c.args.records.now answers a c.in-Some-peak.highest c.in-Some-pair_at.high c.in-Some.pair
    (ap (pair_at c.args.self c.args.records.now) same ∙ (sym c.pair_at.ensures ∙ c.in-Some.is)) (sym c.pair_at-2.ensures ∙ c.in-Some-pair_at.is)
    (c.is_below.ensures.0 c.if-is_below.true) (subst (IsPeakOf c.args.self c.args.records.now answers) c.in-Some-peak.is before))

pub returns-in-Some-2 : goal.returns-in-Some-2
returns-in-Some-2 c = λ answers a same before.
    peak_holds c.args.self c.args.records.now answers a c.in-Some-peak.highest c.in-Some-pair_at.high c.in-Some.pair
    (ap (pair_at c.args.self c.args.records.now) same ∙ (sym c.pair_at.ensures ∙ c.in-Some.is)) (sym c.pair_at-2.ensures ∙ c.in-Some-pair_at.is)
    (λ below. true≢false (sym (c.is_below.ensures.1 below) ∙ c.if-is_below.false)) (subst (IsPeakOf c.args.self c.args.records.now answers) c.in-Some-peak.is before)
