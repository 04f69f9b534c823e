use Rattle.std.proofs.Common.{rules, refl}
use Rattle.doc_check.proofs.stretches.Stretches.of.Goals as goal

pub returns : goal.returns
returns c = (
  record {
    chain = c.requires.chain;
    rising = c.requires.rising;
    pairs = search rules;
    states = search rules;
    absent = search rules;
    present = search rules;
  },
  refl,
)
