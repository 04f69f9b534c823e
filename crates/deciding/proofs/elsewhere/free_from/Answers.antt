use Rattle.std.proofs.Common.{◌∙◌, sym, ap}
use Rattle.std.specs.Option.{option_copied}
use Rattle.deciding.proofs.EndLemmas.{end_of, free_itself}
use Rattle.deciding.proofs.elsewhere.free_from.Goals as goal

pub returns-in-Some : goal.returns-in-Some
returns-in-Some c has = end_of c.args.ends.now c.args.pair c.in-Some.end.now has (sym c.get.ensures.value ∙ ap option_copied c.in-Some.is)

pub returns-in-None : goal.returns-in-None
returns-in-None c has = free_itself c.args.ends.now c.args.pair (sym c.get.ensures.value ∙ ap option_copied c.in-None.is)
