use Rattle.std.proofs.Common.{refl, subst}
use Rattle.std.specs.Prelude.{IfOk}
use Rattle.readings.specs.declared.reading.Reading.{Reading}
use Rattle.evidence.specs.declared.ruling_out.RulingOut.{RulingOut}
use Rattle.casbench.proofs.EachLemmas.{has_come}
use Rattle.casbench.proofs.check_each.check_named.Goals as goal
use Rattle.casbench.specs.aids.Checking.{IsWrittenOf}

pub returns : goal.returns
returns g c =
    let options = c.args.options in
    let own = c.shared_out-own.result in
    let written = c.check_in_form-written.result in
    let name = c.args.text.now.name.now in
    let input = g.S.Read.remaining c.args.text.now.source in
    let answered =
    subst (λ (r : RulingOut). IfOk written (IsWrittenOf r options.reading c.args.form name input)) c.shared_out-own.ensures.ruling_out
    (subst (λ (r : Reading). IfOk written (IsWrittenOf own.ruling_out r c.args.form name input)) c.shared_out-own.ensures.reading c.check_in_form-written.ensures.answered) in
    record {
      name = refl;
      come = has_come options.ruling_out options.reading c.args.form options.workers name input written answered c.check_in_form-written.ensures.reported
          (λ one. c.check_in_form-written.ensures.alone (c.shared_out-own.ensures.alone one));
    }
