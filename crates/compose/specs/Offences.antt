-- The reply at which the search for an order first fails.
use Rattle.std.specs.Prelude.{◌≡◌, ◌+◌, true, false, List}
use Rattle.doc_register.specs.declared.reply.Reply.{Reply as Answer}
use Rattle.doc_register.specs.declared.state.Conflicts.{Conflicts}
use Rattle.events.specs.declared.event.Event.{Event}
use Rattle.events.specs.Events.{IsReplyAt, prefix}
use Rattle.events.specs.Order.{IsLinearizable, IsLegalInResponseOrder}
use Rattle.compose.specs.Verdicts.{HasNoOrderFound}
use Rattle.compose.specs.declared.offence.Offence.{Offence}

-- The offence is one of the history.
-- Source: profile.
pub record IsOffence (conflicts : Conflicts) (events : List Event) (o : Offence) : Type 0 where
  -- at its position there is a reply, to the call with its number
  pub reply : (r : Answer) × IsReplyAt events o.event o.call r
  -- the events up to and including it are not legal in response order
  pub wrong : ¬ IsLegalInResponseOrder (prefix events (o.event + 1))
  -- if it says that the events before it have an order, they are linearizable
  pub shown : o.before_shown ≡ true → IsLinearizable conflicts (prefix events o.event)
  -- if it says that they have none, no order was found for them (`HasNoOrderFound`)
  pub unshown : o.before_shown ≡ false → HasNoOrderFound conflicts (prefix events o.event)
