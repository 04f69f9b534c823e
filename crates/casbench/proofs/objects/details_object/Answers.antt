use Rattle.std.proofs.Common.{None, refl}
use Rattle.std.proofs.lemmas.Result.{IfOk-weaker}
use Rattle.result_lines.specs.declared.facts.Facts.{Facts}
use Rattle.casbench.proofs.objects.details_object.Goals as goal

pub returns : goal.returns
returns c =
    let details = c.args.details in
    let facts : Facts = record {
      file = c.args.name;
      witness = None;
      proved = details.proved;
      reading = c.named_reading.result;
      broken_reply = details.broken_reply;
      explanation = c.args.explanation;
      milliseconds = c.args.milliseconds;
    } in
    IfOk-weaker c.object_line.result _ _ (λ text is. λ input proved. record {
      reported = details.reported;
      facts = facts;
      says = refl;
      named = refl;
      proved = proved;
      by_reading = c.named_reading.ensures;
      written = is;
    }) c.object_line.ensures
