use Rattle.std.proofs.Common.{rules, ◌≡◌, ◌≤◌, ◌∙◌, Some, ℕ, length, nat_lt, ap, sym, take}
use Rattle.std.proofs.lemmas.List.Sorted.{IsPartitionPoint-from_clause}
use Rattle.events.proofs.CutLemmas.{cut_partitioned, cut_point}
use Rattle.events.proofs.FrontLemmas.{document_of_whole, front_calls}
use Rattle.events.proofs.front.Front.calls_of_document.Goals as goal

pub calls_of_document-requires : goal.calls_of_document-requires
calls_of_document-requires c = document_of_whole c.self.inside.history.now c.args.self.now c.self.inside.end c.args.doc c.self.view_is c.requires

pub returns : goal.returns
returns c =
    let places = c.deref.result.now in
    let same : c.in_ok-calls.calls.items ≡ places = search rules in
    let count = c.partition_point-count.result in
    let test = λ (i : ℕ). nat_lt i c.self.inside.end in
    let front = front_calls c.self.inside.history.now c.args.self.now c.self.inside.end c.args.doc places c.self.view_is c.requires
    (c.in_ok-calls.ensures ∙ ap (λ is. Some is) same) in
    let parted = cut_partitioned test places front.0 front.1 in
    let point = IsPartitionPoint-from_clause test places count c.partition_point-count.ensures.partitioned parted (λ a r q k. search rules) in
    let within : count ≤ length places = search rules in
    front.2
    ∙ (ap (λ k. Some (take k places)) (sym (cut_point test places front.0 count front.1 within point))
    ∙ (ap (λ is. Some (take count is)) (sym same) ∙ ap (λ is. Some is) (sym c.truncate.ensures.items)))
