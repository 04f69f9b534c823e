use Rattle.deciding.proofs.TableLemmas.{pushed_row}
use Rattle.deciding.proofs.tables.push_row.Goals as goal

pub returns-in_ok-push : goal.returns-in_ok-push
returns-in_ok-push c = record { ok = λ records all placed. pushed_row records c.args.table.now.items c.push.new.self.items c.args.row c.in_ok-push.ensures.items all placed }
