use Rattle.std.proofs.Common.{◌∙◌, ◌++◌, ◌∷◌, [], ap, sym}
use Rattle.std.specs.Prelude.{map}
use Rattle.std.proofs.lemmas.List.{map-append}
use Rattle.workload.specs.Drawing.{after_turns, clients_drawn, turns_drawn}
use Rattle.workload.proofs.DrawingLemmas.{after_clients_more, clients_drawn_more}
use Rattle.workload.proofs.drawing.draw_clients.Goals as goal

pub loop-preserved : goal.loop-preserved
loop-preserved c = record {
  clients =
      ap (map (λ turns. turns.items)) c.in_ok-push.ensures.items
      ∙ map-append (λ turns. turns.items) c.loop.drawn.items _
      ∙ ap (λ drawn. drawn ++ c.in_ok-draw_turns.field-0.items ∷ []) c.loop.invariant.clients
      ∙ ap (λ turns. clients_drawn c.args.docs c.args.calls c.loop.counter c.args.random.now ++ turns ∷ [])
      (c.in_ok-draw_turns.ensures.turns ∙ ap (turns_drawn c.args.docs c.args.calls) c.loop.invariant.random)
      ∙ sym (clients_drawn_more c.args.docs c.args.calls c.loop.counter c.args.random.now);
  random =
      c.in_ok-draw_turns.ensures.random
      ∙ ap (after_turns c.args.calls) c.loop.invariant.random
      ∙ sym (after_clients_more c.args.calls c.loop.counter c.args.random.now);
}
