use Rattle.std.proofs.Common.{◌++◌, ◌∷◌, [], List, ap, ◌∙◌}
use Rattle.deciding.specs.declared.row.Row.{Row}
use Rattle.deciding.proofs.EventLemmas.{started}
use Rattle.deciding.proofs.walk.Walk.start.Goals as goal

pub returns : goal.returns
returns c d =
    started d _ c.never.result (c.in_ok-push.ensures.items ∙ ap (λ (rows : List Row). rows ++ c.never.result ∷ []) c.new-front.ensures.items) c.never.ensures.branch c.never.ensures.position
