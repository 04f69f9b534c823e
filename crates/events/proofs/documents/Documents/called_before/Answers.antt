use Rattle.std.proofs.Common.{rules, ◌≡◌, ◌≤◌, nat_lt, length, subst, sym}
use Rattle.std.proofs.lemmas.List.Sorted.{IsPartitionPoint-from_clause}
use Rattle.events.specs.declared.documents.Ends.{Ends}
use Rattle.events.specs.aids.Documents.{IsCutAt}
use Rattle.events.specs.aids.Fronts.{starts_below}
use Rattle.events.proofs.CutLemmas.{cut_partitioned, cut_point}
use Rattle.events.proofs.LinkLemmas.{cut_of_ends}
use Rattle.events.proofs.documents.Documents.called_before.Goals as goal

pub returns : goal.returns
returns c count cut =
    let ends = c.deref.result.now in
    let same : ends ≡ c.self.inside.ends.items = search rules in
    let test = λ (calls : Ends). nat_lt calls.first c.args.end in
    let front = subst (λ es. IsCutAt test es count) (sym same)
    (cut_of_ends c.self.inside.links.items c.self.inside.ends.items c.args.end count c.self.invariant (subst (λ d. IsCutAt (starts_below c.args.end) d.lists count) (sym c.self.view_is) cut)) in
    let parted = cut_partitioned test ends count front in
    let point = IsPartitionPoint-from_clause test ends c.partition_point.result c.partition_point.ensures.partitioned parted (λ a r q k. search rules) in
    let within : c.partition_point.result ≤ length ends = search rules in
    cut_point test ends count c.partition_point.result front within point
