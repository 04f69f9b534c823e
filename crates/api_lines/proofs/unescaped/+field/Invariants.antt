use Rattle.std.proofs.Common.{◌+◌, ◌*◌, length}
use Rattle.serde_json.specs.Data.{Items, Members}
use Rattle.api_lines.proofs.TokenLemmas.{AreItemsUpTo, IsReadUpTo}
use Rattle.api_lines.proofs.unescaped.+field.Given as goal

abbrev pub decreases-field : goal.decreases-field
decreases-field l = 2 * l.depth

abbrev pub decreases-pass_items : goal.decreases-pass_items
decreases-pass_items l = 2 * l.depth + 1

abbrev pub decreases-pass_members : goal.decreases-pass_members
decreases-pass_members l = 2 * l.depth + 1

abbrev pub invariant-pass_items-items : goal.invariant-pass_items-items
invariant-pass_items-items l = (before : Items → Items) × AreItemsUpTo l.depth l.initial.reader l.reader before

abbrev pub decreases-pass_items-items : goal.decreases-pass_items-items
decreases-pass_items-items l = length l.reader

abbrev pub invariant-pass_members-members : goal.invariant-pass_members-members
invariant-pass_members-members l = (old : Members) × IsReadUpTo l.depth l.initial.reader l.reader old

abbrev pub decreases-pass_members-members : goal.decreases-pass_members-members
decreases-pass_members-members l = length l.reader
