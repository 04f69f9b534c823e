use Rattle.std.proofs.Common.{rules, ◌≡◌, ◌≤◌, ◌<◌, ◌+◌, None, arith, length, nat_lt, slice_index_or}
use Rattle.std.proofs.lemmas.List.Sorted.{IsPartitionPoint-from_clause}
use Rattle.std.proofs.lemmas.Option.{slice_get-get_or}
use Rattle.write_chain.specs.declared.answers.AnsweredRec.{AnsweredRec}
use Rattle.readings.proofs.PeakLemmas.{answers_partitioned, peak_is_before}
use Rattle.readings.proofs.peaks.Changes.peak_before.Goals as goal

pub returns : goal.returns
returns c =
    let answers = c.args.answers.now in
    let peaks = c.args.peaks.now in
    let count = c.partition_point-count.result in
    let test = λ (a : AnsweredRec). nat_lt a.reply_at c.args.position in
    let point = IsPartitionPoint-from_clause test answers count c.partition_point-count.ensures.partitioned (answers_partitioned c.args.records.now answers c.args.position c.requires.answers) (λ a r q k. search rules) in
    let bound : count ≤ length answers = search rules in
    let size : length peaks ≡ length answers + 1 = c.requires.peaks.count in
    let within : count < length peaks = omega arith in
    peak_is_before c.args.self c.args.records.now answers c.args.position count (slice_index_or peaks count None) c.requires.answers bound point
    (c.requires.peaks.each count (slice_index_or peaks count None) (slice_get-get_or peaks count None within))
