use Rattle.std.proofs.Common.{suc, ◌≡◌, ◌≤◌, ◌+◌, length, replicate, subst, sym, ap, ◌∙◌, arith, Some, slice_get, refl}
use Rattle.std.proofs.lemmas.List.Sorted.{length_permutation}
use Rattle.std.proofs.lemmas.Option.{slice_get_read}
use Rattle.deciding.specs.Reported.{known_pairs}
use Rattle.deciding.specs.aids.Versions.{unreported}
use Rattle.deciding.proofs.VersionLemmas.{AreNoted, noted_all, noted_first, noted_more, shown_by}
use Rattle.deciding.proofs.versions.versions_reported.Goals as goal

pub loop-call-init : goal.loop-call-init
loop-call-init c known =
    let same : c.in_ok-versions.versions.items ≡ replicate (length c.pairs.result.now) unreported = c.in_ok-versions.ensures.items_if_clones_equal (λ y h. h) in
    let count : (length c.pairs.result.now) ≡ length (known_pairs c.args.records.now) = ap length c.pairs.ensures ∙ length_permutation (known_pairs c.args.records.now) c.args.known.now.pairs.items known.all in
    subst (AreNoted c.args.records.now 0) (sym same) (noted_first c.args.records.now (length c.pairs.result.now) count)

pub loop-call-preserved : goal.loop-call-preserved
loop-call-preserved c known =
    let i = c.loop-call.call-index in
    let call = c.call-item.result in
    let at : slice_get c.args.records.now i ≡ Some call = slice_get_read c.args.records.now _ i call refl c.loop-call-test.true c.call-item.is in
    let next : suc i ≡ i + 1 = omega arith in
    subst (λ n. AreNoted c.args.records.now n c.note_reply.new.versions.items) next
    (noted_more c.args.records.now i call c.loop-call.versions.items c.note_reply.new.versions.items at (shown_by c.args.records.now i call at)
    (c.note_reply.ensures c.args.records.now known) (c.loop-call.invariant known))

pub returns : goal.returns
returns c known =
    let end : c.loop-call.call-index ≡ length c.args.records.now = (let past : length c.args.records.now ≤ c.loop-call.call-index = c.loop-call-test.false in let within : c.loop-call.call-index ≤ length c.args.records.now = c.loop-call.auto.call-index-end in omega arith) in
    noted_all c.args.records.now c.loop-call.versions.items (subst (λ n. AreNoted c.args.records.now n c.loop-call.versions.items) end (c.loop-call.invariant known))
