use Rattle.std.proofs.Common.{◌≡◌, ◌++◌, [], ◌∷◌, ◌∙◌, ap, sym, subst, rules}
use Rattle.events.specs.Events.{HasShard}
use Rattle.events.specs.Refusal.{refusal_of}
use Rattle.events.proofs.PlaceLemmas.{place_accepted, prefix_one_more, shard_at}
use Rattle.events.proofs.history.History.prefix.Goals as goal

pub push_accepted-requires-clause-accepted : goal.push_accepted-requires-clause-accepted
push_accepted-requires-clause-accepted c =
    let same : c.in_ok-copy.field-0 ≡ c.event.result.now = search rules in
    ap (refusal_of c.loop-place.history) same
    ∙ place_accepted c.args.self.now c.loop-place.history c.loop-place.place c.event.result.now c.len.ensures.history c.len.ensures.within c.event.ensures c.loop-place.invariant

pub push_accepted-requires-clause-shard : goal.push_accepted-requires-clause-shard
push_accepted-requires-clause-shard c =
    let same : c.in_ok-copy.field-0 ≡ c.event.result.now = search rules in
    subst HasShard (sym same) (shard_at c.args.self.now c.loop-place.place c.event.result.now c.len.ensures.history c.event.ensures)

pub loop-place-preserved : goal.loop-place-preserved
loop-place-preserved c =
    let same : c.in_ok-copy.field-0 ≡ c.event.result.now = search rules in
    let added : c.push_accepted.new.self ≡ c.loop-place.history ++ c.in_ok-copy.field-0 ∷ [] = search rules in
    added ∙ (ap (λ e. c.loop-place.history ++ e ∷ []) same
    ∙ prefix_one_more c.args.self.now c.loop-place.history c.loop-place.place c.event.result.now c.event.ensures c.loop-place.invariant)
