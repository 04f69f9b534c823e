use Rattle.std.proofs.Common.{Some, refl, subst}
use Rattle.std.specs.Prelude.{IfSome}
use Rattle.deciding.specs.Elsewhere.{is_kept}
use Rattle.deciding.specs.Tables.{IsRuledOut}
use Rattle.evidence.proofs.RuledOutLemmas.{found_document, made_if_found, ruled_out_if_found}
use Rattle.evidence.proofs.ruled_out_calls.Rulings.contradiction.Goals as goal

pub call_in-requires : goal.call_in-requires
call_in-requires c = c.in_ok-judged.ensures.in_order

pub returns-in-Some : goal.returns-in-Some
returns-in-Some c =
    made_if_found c.contradiction_at.result
    (ruled_out_if_found c.args.self.now.conflicts c.args.self.now.history.now c.args.doc (Some c.in-Some.call) _ refl
    (found_document c.args.self.now.conflicts c.args.self.now.history.now c.args.doc c.in_ok-judged.judged.records.items (is_kept c.in_ok-judged.judged.elsewhere.ends) (Some c.in-Some.call) c.in_ok-judged.ensures
    (subst (λ found. IfSome found (IsRuledOut (record { conflicts = c.args.self.now.conflicts; elsewhere = is_kept c.in_ok-judged.judged.elsewhere.ends }) c.in_ok-judged.judged.records.items)) c.in-Some.is c.in_ok-call.ensures)) refl)
