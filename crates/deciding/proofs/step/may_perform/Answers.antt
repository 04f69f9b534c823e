use Rattle.deciding.proofs.step.may_perform.Goals as goal

pub returns : goal.returns
returns c facts records reads are placed made m =
    c.suits.ensures records are.known placed (record { write = m.write; condition = m.condition; missing = m.missing }) m.agrees
