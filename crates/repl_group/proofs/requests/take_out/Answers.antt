use Rattle.std.proofs.Common.{◌==◌, rules}
use Rattle.std.specs.Prelude.{not}
use Rattle.std.proofs.lemmas.Fn.{filter_same}
use Rattle.repl_group.proofs.requests.take_out.Goals as goal

pub returns : goal.returns
returns c = filter_same _ (λ other. not (other == c.args.ticket)) _ (λ x b g h. search rules) _ _ c.retain.ensures.filtered
