use Rattle.std.proofs.Common.{◌∙◌, [], List, Option, ap, map}
use Rattle.std.specs.Prelude.{ℕ, unwrap_or}
use Rattle.std.proofs.lemmas.Result.{IfOk-weaker}
use Rattle.clap.proofs.WalkLemmas.{raw_values-rows}
use Rattle.clap.specs.Words.{found_of}
use Rattle.command_line.proofs.given.texts_given.Goals as goal

-- what an option has, or nothing
listed : Option (List (List ℕ)) → List (List ℕ)
listed o = unwrap_or o []

pub returns-in-Some : goal.returns-in-Some
unfolding listed
returns-in-Some c =
    IfOk-weaker c.from_slice.result _ _ (λ texts same. ap (map (λ t. t.now)) same ∙ ap listed (c.in-Some.ensures ∙ raw_values-rows (found_of c.args.given.now) c.args.argument.id.now))
    c.from_slice.ensures.items

pub returns-in-None : goal.returns-in-None
unfolding listed
returns-in-None c = ap (map (λ t. t.now)) c.new.ensures.items ∙ ap listed (c.in-None.ensures ∙ raw_values-rows (found_of c.args.given.now) c.args.argument.id.now)
