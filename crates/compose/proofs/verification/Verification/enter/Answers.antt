use Rattle.std.proofs.Common.{arith, ◌<◌, ◌++◌, ◌∷◌, [], sym, ◌∙◌, ap, subst, slice_set, true, length}
use Rattle.std.specs.Prelude.{if◌then◌else◌}
use Rattle.std.proofs.lemmas.Option.{slice_get_within}
use Rattle.events.specs.Events.{documents_of}
use Rattle.places.specs.Documents.{doc_places}
use Rattle.compose.specs.aids.Verified.{AreVerified}
use Rattle.compose.proofs.VerifyLemmas.{entered_next, entry_fault_document}
use Rattle.compose.proofs.verification.Verification.enter.Goals as goal

pub returns-in-Err-clause-fault : goal.returns-in-Err-clause-fault
returns-in-Err-clause-fault c = λ known before are size.
    entry_fault_document c.args.conflicts c.args.history.now before (doc_places c.args.places) c.args.self.now.entered.items c.args.self.now.witnesses.items c.args.entry c.in-Err.fault
    are size c.in-Err.ensures

pub witness_of-requires : goal.witness_of-requires
witness_of-requires c = slice_get_within (documents_of c.args.history.now) c.in-Ok.doc (c.args.places.0, c.in-Ok.ensures.0) c.in-Ok.ensures.1

pub index_mut-requires : goal.index_mut-requires
index_mut-requires c =
    let within : c.in-Ok.doc < length (documents_of c.args.history.now) = slice_get_within (documents_of c.args.history.now) c.in-Ok.doc (c.args.places.0, c.in-Ok.ensures.0) c.in-Ok.ensures.1 in
    omega (arith, within, c.requires)

pub returns-clause-ok : goal.returns-clause-ok
returns-clause-ok c = λ before are.
    let next = entered_next c.args.conflicts c.args.history.now before (doc_places c.args.places) c.args.self.now.entered.items c.args.self.now.witnesses.items c.in-Ok.doc c.in-Ok-witness_of.witness
    are c.in-Ok.ensures c.in-Ok-witness_of.ensures in
    subst (AreVerified c.args.conflicts c.args.history.now (before ++ doc_places c.args.places ∷ []) (slice_set c.args.self.now.entered.items c.in-Ok.doc true))
    (sym (c.push.ensures.items ∙ ap (λ b. if b then c.args.self.now.witnesses.items ++ c.in-Ok-witness_of.witness ∷ [] else c.args.self.now.witnesses.items) c.if-is_err.ensures.negation)) next
