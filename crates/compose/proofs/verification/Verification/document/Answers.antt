use Rattle.std.proofs.Common.{arith, ◌<◌, refl, sym, ◌∙◌, ap, Some, length}
use Rattle.std.proofs.lemmas.Option.{slice_get_read, slice_get_within}
use Rattle.events.specs.Events.{documents_of}
use Rattle.compose.proofs.VerifyLemmas.{document_found, document_none}
use Rattle.compose.proofs.verification.Verification.document.Goals as goal

pub returns-then-index : goal.returns-then-index
returns-then-index c =
    let f = document_found c.args.history.now c.args.id.now c.in-Some.doc (sym c.doc_of.ensures ∙ c.in-Some.is) in
    let within : c.in-Some.doc < length (documents_of c.args.history.now) = slice_get_within (documents_of c.args.history.now) c.in-Some.doc (c.args.id.now, f.0) f.1 in
    (refl, (c.in-Some.doc, f.0, f.1, slice_get_read c.args.self.now.entered.items _ c.in-Some.doc c.index.result.now refl (omega (arith, within, c.requires)) c.index.ensures ∙ ap (λ b. Some b) c.if-index.true))

pub returns-else-index : goal.returns-else-index
returns-else-index c =
    let f = document_found c.args.history.now c.args.id.now c.in-Some.doc (sym c.doc_of.ensures ∙ c.in-Some.is) in
    let within : c.in-Some.doc < length (documents_of c.args.history.now) = slice_get_within (documents_of c.args.history.now) c.in-Some.doc (c.args.id.now, f.0) f.1 in
    (f.0, f.1, slice_get_read c.args.self.now.entered.items _ c.in-Some.doc c.index.result.now refl (omega (arith, within, c.requires)) c.index.ensures ∙ ap (λ b. Some b) c.if-index.false)

pub returns-in-None : goal.returns-in-None
returns-in-None c = (refl, λ h. document_none c.args.history.now c.args.id.now h (sym c.doc_of.ensures ∙ c.in-None.is))
