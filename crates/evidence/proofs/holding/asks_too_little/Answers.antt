use Rattle.std.proofs.Common.{◌∙◌, sym}
use Rattle.evidence.proofs.holding.asks_too_little.Goals as goal

pub returns-then-is_below : goal.returns-then-is_below
returns-then-is_below c = (
  λ holds. record {
    condition = c.in-Some.asked;
    asks = sym c.condition.ensures ∙ c.in-Some.is;
    below = c.is_below.ensures.0 c.if-is_below.true;
    before = c.stands_first.ensures.0 holds;
  },
  λ asks. c.stands_first.ensures.1 asks.before,
)
