use Rattle.std.proofs.Common.{true≢false, sym, subst}
use Rattle.evidence.specs.aids.CallsWithPairs.{IsFoundAs}
use Rattle.evidence.proofs.EvidenceLemmas.{no_writer_reported, of_document}
use Rattle.evidence.proofs.holding.has_no_writer.Goals as goal

pub returns-in-Some : goal.returns-in-Some
returns-in-Some c =
    let get = c.in-Some.found in
    let x = c.in-Some.ensures in
    let reported = no_writer_reported c.args.conflicts c.args.history.now c.args.get get c.requires x in
    let is = c.is_without_writer.ensures x.doc (of_document c.args.history.now get.called c.args.get x.shard x.doc x.op x.call) in
    (λ holds. reported.0 (is.0 holds), λ evidence. is.1 (reported.1 evidence))

pub returns-in-None : goal.returns-in-None
returns-in-None c = (
  λ never. absurd (true≢false (sym never)),
  λ evidence. absurd (subst (IsFoundAs c.args.history.now c.args.get) c.in-None.is c.found_get.ensures evidence.doc evidence.replied evidence.pair evidence.number evidence.get),
)
