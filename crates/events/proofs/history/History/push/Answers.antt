use Rattle.std.proofs.Common.{◌≡◌, ◌∙◌, ap, sym}
use Rattle.events.specs.declared.event.Event.TheVariants.{Call}
use Rattle.events.specs.Refusal.{refusal_of, refusal_reported}
use Rattle.events.proofs.history.History.push.Goals as goal
use Rattle.events.proofs.history.History.push.Goals.{in-Call, in-Reply, in-Lost}

pub returns-clause-reason : goal.returns-clause-reason
returns-clause-reason c = elim c.match-event.branch as (λ _. refusal_reported c.match-event.pushed ≡ refusal_of c.args.self.now c.args.event) [
  | in-Call w ↦
      ap refusal_reported w.pushed-is
      ∙ (w.push_call-pushed.ensures.reason
      ∙ (ap (λ d. refusal_of c.args.self.now (Call w.in-Call.shard w.in-Call.no d w.in-Call.op)) w.text.ensures ∙ sym (ap (refusal_of c.args.self.now) w.in-Call.is)))
  | in-Reply w ↦ ap refusal_reported w.pushed-is ∙ (w.push_reply-pushed.ensures.reason ∙ sym (ap (refusal_of c.args.self.now) w.in-Reply.is))
  | in-Lost w ↦ ap refusal_reported w.pushed-is ∙ (w.push_lost-pushed.ensures.reason ∙ sym (ap (refusal_of c.args.self.now) w.in-Lost.is))
]
