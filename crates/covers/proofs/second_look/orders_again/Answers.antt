use Rattle.std.proofs.lemmas.Result.{IfOk-weaker}
use Rattle.covers.proofs.FoundLemmas.{orders_searched}
use Rattle.covers.proofs.second_look.orders_again.Goals as goal

pub returns : goal.returns
returns c =
    IfOk-weaker c.witnesses_of.result _ _ (λ found is. orders_searched c.args.history.now c.args.answers.items c.in_ok-others.others.items found c.in_ok-others.ensures is) c.witnesses_of.ensures
