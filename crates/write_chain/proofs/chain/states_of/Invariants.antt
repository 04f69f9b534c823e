use Rattle.std.proofs.Common.{◌≡◌, ◌∷◌, map, take}
use Rattle.doc_register.specs.declared.state.DocState.TheVariants.{Never}
use Rattle.write_chain.specs.Chain.{after_link}
use Rattle.write_chain.proofs.chain.states_of.Given as goal

abbrev pub invariant-loop-link : goal.invariant-loop-link
invariant-loop-link l = l.states.items ≡ Never ∷ map (after_link l.records) (take l.link-index l.chain)
