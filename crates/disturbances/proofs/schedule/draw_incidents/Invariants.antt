use Rattle.std.proofs.Common.{◌≡◌}
use Rattle.disturbances.specs.Schedules.{after_words, generator_of, incidents_drawn}
use Rattle.disturbances.proofs.schedule.draw_incidents.Given as goal

-- the incidents so far, and the generator after their words
abbrev pub invariant-loop : goal.invariant-loop
invariant-loop l = record {
  incidents : l.incidents.items ≡ incidents_drawn l.disturbance l.counter (generator_of l.seed);
  random : l.random ≡ after_words l.counter (generator_of l.seed);
}
