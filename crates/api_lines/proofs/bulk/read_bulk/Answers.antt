use Rattle.std.proofs.Common.{◌≡◌, Ok, arith}
use Rattle.std.specs.Prelude.{IfOk}
use Rattle.std.proofs.lemmas.Grind.{common_steps}
use Rattle.api_lines.specs.Bulk.{bulk_body}
use Rattle.api_lines.proofs.BulkLaws.{if_ok_writes}
use Rattle.api_lines.proofs.bulk.read_bulk.Goals as goal

pub returns-clause-writes : goal.returns-clause-writes
returns-clause-writes c =
    let read : IfOk c.into_items.result (λ items. bulk_body c.args.body.now ≡ Ok items.items) = grind (arith, common_steps) in
    if_ok_writes c.args.body.now c.into_items.result read
