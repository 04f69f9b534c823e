use Rattle.version_pair.proofs.SortedLists.{has_back}
use Rattle.evidence.proofs.known_pairs.sorted.Goals as goal

pub returns : goal.returns
returns c events are i k at =
    let was = has_back c.args.known.items c.sort_unstable.new.self.items k c.sort_unstable.ensures.permutation (i, at) in
    are was.0 k was.1
