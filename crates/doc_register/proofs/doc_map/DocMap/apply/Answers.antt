use Rattle.std.proofs.Common.{◌≡◌, ◌==◌, ap, sym, subst, ◌∙◌, cond, Contains, rules}
use Rattle.std.specs.Cmp.Lexicographic.{pointwise}
use Rattle.doc_register.specs.Documents.{Accepts, state_of}
use Rattle.doc_register.specs.Register.{Exceeds, IsPerformed, performed_reply, performed_state}
use Rattle.doc_register.proofs.DocumentLemmas.{accepts_write}
use Rattle.doc_register.proofs.doc_map.DocMap.apply.Goals as goal

pub returns-clause-accepted : goal.returns-clause-accepted
returns-clause-accepted c =
    let m = c.args.self.now in
    let d = c.args.id.now in
    let op = c.args.op.now in
    let q = c.args.pair in
    let state : c.state-state.result ≡ state_of m d = search rules in
    let performed : IsPerformed c.state-state.result op = search rules in
    let above : Exceeds q c.state-state.result = search rules in
    let unused : ¬ Contains m.used q = search rules in
    let reply = c.performed_reply-reply.ensures ∙ ap (λ s. performed_reply s op q) state in
    let after = c.state_after.ensures ∙ ap (λ s. performed_state s op q) state in
    subst (λ r. Accepts m d op q r c.note.new.self) (sym reply)
    (accepts_write m c.note.new.self d op q (subst (λ s. IsPerformed s op) state performed) (subst (Exceeds q) state above) unused
    (λ x. c.in_ok-note.ensures.states x ∙ ap (λ t. cond (pointwise ◌==◌ d x) t (state_of m x)) after) c.in_ok-note.ensures.used)
