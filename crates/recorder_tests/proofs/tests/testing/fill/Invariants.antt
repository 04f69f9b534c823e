use Rattle.recorder_tests.proofs.tests.testing.fill.Given as goal

abbrev pub invariant-loop : goal.invariant-loop
invariant-loop g l = g.X.Recording.has_pen l.recorder l.pen
