use Rattle.repl_group.proofs.RunLemmas.{honest_unless_faulty, sound_result}
use Rattle.repl_group.proofs.group_core.Core.step.Goals as goal

pub invariant_of-self : goal.invariant_of-self
invariant_of-self c = sound_result c.self.inside.machine c.step.new.self c.args.step c.step.result c.self.invariant c.step.ensures.ok c.step.ensures.err

pub returns-clause-honest : goal.returns-clause-honest
returns-clause-honest c =
    honest_unless_faulty c.step.new.self (sound_result c.self.inside.machine c.step.new.self c.args.step c.step.result c.self.invariant c.step.ensures.ok c.step.ensures.err)
