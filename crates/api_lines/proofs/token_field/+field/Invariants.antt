use Rattle.std.proofs.Common.{◌+◌, ◌*◌, ◌-◌, length}
use Rattle.serde_json.specs.Data.{Items, Members}
use Rattle.api_lines.specs.aids.Scanning.{tokens_left}
use Rattle.api_lines.proofs.TokenLemmas.{AreItemsUpTo, IsReadUpTo}
use Rattle.api_lines.proofs.token_field.+field.Given as goal

abbrev pub decreases-field : goal.decreases-field
decreases-field l = 2 * l.depth + 1

abbrev pub decreases-pass_array : goal.decreases-pass_array
decreases-pass_array l = 2 * l.depth

abbrev pub decreases-pass_object : goal.decreases-pass_object
decreases-pass_object l = 2 * l.depth

abbrev pub invariant-pass_array-items : goal.invariant-pass_array-items
invariant-pass_array-items l = (before : Items → Items) × AreItemsUpTo (l.depth - 1) (tokens_left l.initial.scanner) (tokens_left l.scanner) before

abbrev pub decreases-pass_array-items : goal.decreases-pass_array-items
decreases-pass_array-items l = length (tokens_left l.scanner)

abbrev pub invariant-pass_object-members : goal.invariant-pass_object-members
invariant-pass_object-members l = (old : Members) × IsReadUpTo (l.depth - 1) (tokens_left l.initial.scanner) (tokens_left l.scanner) old

abbrev pub decreases-pass_object-members : goal.decreases-pass_object-members
decreases-pass_object-members l = length (tokens_left l.scanner)
