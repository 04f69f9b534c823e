use Rattle.std.proofs.Common.{◌≡◌, ◌<◌, ◌∙◌, Err, ap, arith, length}
use Rattle.std.proofs.lemmas.Fmt.{length-decimal-le}
use Rattle.workload.specs.ClientRuns.{doc_name}
use Rattle.workload.proofs.asked.doc_name.Goals as goal

pub unreachable-requires-in-Err-TooLong : goal.unreachable-requires-in-Err-TooLong
unreachable-requires-in-Err-TooLong c =
    let same : c.as_str.result.now ≡ doc_name c.args.doc = c.as_str.ensures.value ∙ c.in_ok-name.ensures.ok in
    let short = length-decimal-le 10 c.args.doc (omega arith) (omega arith) (omega arith) in
    let long : 512 < length c.as_str.result.now = c.in-Err-TooLong.ensures.too_long.0 (ap Err c.in-Err-TooLong.field-0-is) in
    omega (arith, ap length same)
