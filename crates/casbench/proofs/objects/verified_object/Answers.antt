use Rattle.std.proofs.Common.{None, Some, refl}
use Rattle.std.proofs.lemmas.Result.{IfOk-weaker}
use Rattle.result_lines.specs.declared.facts.Facts.{Facts}
use Rattle.casbench.proofs.objects.verified_object.Goals as goal

pub returns : goal.returns
returns c =
    let facts : Facts = record {
      file = c.args.name;
      witness = Some c.args.witness;
      proved = c.proved_of.result;
      reading = c.named_reading.result;
      broken_reply = None;
      explanation = None;
      milliseconds = c.args.milliseconds;
    } in
    IfOk-weaker c.object_line.result _ _ (λ text is. λ input. record {
      reported = c.args.reported.now;
      facts = facts;
      says = refl;
      named = refl;
      proved = c.proved_of.ensures c.args.reading input;
      by_reading = c.named_reading.ensures;
      written = is;
    }) c.object_line.ensures
