use Rattle.std.proofs.Common.{List, subst, sym}
use Rattle.std.specs.Prelude.{IfSome}
use Rattle.std.proofs.lemmas.Result.{IfOk-weaker}
use Rattle.events.specs.declared.record.Rec.{Rec}
use Rattle.deciding.specs.Elsewhere.{is_kept}
use Rattle.deciding.specs.Records.{AreInOrder}
use Rattle.deciding.specs.Tables.{IsRuledOut}
use Rattle.evidence.proofs.ruled_out_calls.Rulings.call_in.Goals as goal

pub ruled_out_at-requires : goal.ruled_out_at-requires
ruled_out_at-requires c = subst AreInOrder (sym c.deref.ensures.value) c.requires

pub returns : goal.returns
returns c =
    IfOk-weaker c.ruled_out_at.result _ _
    (λ found own. subst (λ (rs : List Rec). IfSome found (IsRuledOut (record { conflicts = c.args.self.now.conflicts; elsewhere = is_kept c.args.judged.now.elsewhere.ends }) rs)) c.deref.ensures.value own)
    c.ruled_out_at.ensures
