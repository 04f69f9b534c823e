use Rattle.std.proofs.lemmas.Result.{IfOk-weaker}
use Rattle.deciding.specs.Elsewhere.{is_kept}
use Rattle.evidence.proofs.RuledOutLemmas.{found_document}
use Rattle.evidence.proofs.ruled_out_calls.Rulings.call.Goals as goal

pub call_in-requires : goal.call_in-requires
call_in-requires c = c.in_ok-judged.ensures.in_order

pub returns : goal.returns
returns c =
    IfOk-weaker c.call_in.result _ _
    (λ found own. found_document c.args.self.now.conflicts c.args.self.now.history.now c.args.doc c.in_ok-judged.judged.records.items (is_kept c.in_ok-judged.judged.elsewhere.ends) found c.in_ok-judged.ensures own)
    c.call_in.ensures
