use Rattle.std.proofs.Common.{rules, ◌≡◌, ◌<◌, ◌++◌, ◌∷◌, [], arith, length}
use Rattle.version_pair.proofs.ListLemmas.{get_within}
use Rattle.readings.proofs.JudgedLemmas.{has_shard, is_accepted, read_next, read_on, twin_is_accepted}
use Rattle.readings.proofs.judged.judged_history.Goals as goal

pub push_accepted-requires-clause-accepted : goal.push_accepted-requires-clause-accepted
push_accepted-requires-clause-accepted c =
    let within : c.loop-place.place < length c.args.text.now = search rules in
    let at = get_within c.args.text.now c.loop-place.place within in
    is_accepted c.args.reading c.args.voids.now c.args.text.now c.loop-place.judged c.in_ok-read.read.event _ c.len-place-end.ensures.history c.requires.void c.requires.room
    (read_next c.args.reading c.args.voids.now c.args.text.now c.loop-place.place at.0 c.loop-place.judged c.in_ok-read.read at.1 c.loop-place.invariant (c.in_ok-read.ensures at.0 at.1))

pub push_accepted-requires-clause-shard : goal.push_accepted-requires-clause-shard
push_accepted-requires-clause-shard c =
    let within : c.loop-place.place < length c.args.text.now = search rules in
    let at = get_within c.args.text.now c.loop-place.place within in
    has_shard c.args.reading c.args.voids.now c.args.text.now c.loop-place.judged c.in_ok-read.read.event _ c.len-place-end.ensures.history c.requires.void
    (read_next c.args.reading c.args.voids.now c.args.text.now c.loop-place.place at.0 c.loop-place.judged c.in_ok-read.read at.1 c.loop-place.invariant (c.in_ok-read.ensures at.0 at.1))

pub push_twin-requires : goal.push_twin-requires
push_twin-requires c =
    let within : c.loop-place.place < length c.args.text.now = search rules in
    let at = get_within c.args.text.now c.loop-place.place within in
    let grown : c.push_accepted.new.self ≡ c.loop-place.judged ++ c.in_ok-read.read.event ∷ [] = search rules in
    twin_is_accepted c.args.reading c.args.voids.now c.args.text.now c.loop-place.place at.0 c.loop-place.judged c.push_accepted.new.self c.in_ok-read.read c.len-place-end.ensures.history c.requires.void
    c.requires.room at.1 c.loop-place.invariant (c.in_ok-read.ensures at.0 at.1) grown

pub loop-place-preserved : goal.loop-place-preserved
loop-place-preserved c =
    let within : c.loop-place.place < length c.args.text.now = search rules in
    let at = get_within c.args.text.now c.loop-place.place within in
    let grown : c.push_accepted.new.self ≡ c.loop-place.judged ++ c.in_ok-read.read.event ∷ [] = search rules in
    read_on c.args.reading c.args.voids.now c.args.text.now c.loop-place.place at.0 c.loop-place.judged c.push_accepted.new.self c.push_twin.new.judged c.in_ok-read.read at.1 c.loop-place.invariant
    (c.in_ok-read.ensures at.0 at.1) grown c.in_ok-push_twin.ensures
