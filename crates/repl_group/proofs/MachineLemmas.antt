-- Steps of a machine, put together.
use Rattle.std.proofs.Common.{ℕ, ◌≡◌, ◌<◌, ◌^◌, List, ◌∷◌, ◌++◌, [], length, refl, sym, ap, subst, ◌∙◌, arith, Bool, true, false}
use Rattle.std.specs.Prelude.{◌==◌, MatchBool, nat_lt, not, slice_set}
use Rattle.std.specs.Cmp.Lexicographic.{pointwise}
use Rattle.std.specs.List.{position_or_len}
use Rattle.std.proofs.lemmas.Bool.{le-ltb, not-false}
use Rattle.indexmap.specs.IndexSet.{insert_key}
use Rattle.version_pair.specs.declared.pair.Pair.{Pair}
use Rattle.doc_register.specs.declared.op.Op.{Op}
use Rattle.repl_group.specs.declared.request.Request.{Request}
use Rattle.repl_group.specs.declared.request.Stage.TheVariants.{InFlight}
use Rattle.repl_group.specs.Copies.{ShardCopy, document_in, next_seq}
use Rattle.repl_group.specs.declared.step.Answer.TheVariants.{Ticket, Done}
use Rattle.repl_group.specs.declared.step.Step.TheVariants as step
use Rattle.repl_group.specs.Group.{Does, GroupState, Performs, Gives, copy_with, greatest, most_tickets, performed, submitted, write_of}
use Rattle.repl_group.specs.Requests.{with_stage}
use Rattle.repl_group.specs.aids.Tracking.{queued_request}

at_true : (P Q : Type 0) (b : Bool) → b ≡ true → P → MatchBool b P Q
at_true P Q b is p = subst (λ k. MatchBool k P Q) (sym is) p

at_false : (P Q : Type 0) (b : Bool) → b ≡ false → Q → MatchBool b P Q
at_false P Q b is q = subst (λ k. MatchBool k P Q) (sym is) q

pub performs_done : (w v : GroupState) (t : ℕ) (x : Request) (y : ShardCopy) (q : Pair) (requests : List Request) (copies : List ShardCopy)
    → v ≡ w → q.term ≡ v.term → q.seq ≡ next_seq y.writes
    → requests ≡ with_stage v.requests t x (InFlight q (document_in y.writes x.doc))
    → copies ≡ slice_set v.copies v.primary (copy_with y t (write_of x q))
    → Performs w t x y Done (record v { requests = requests; copies = copies })
performs_done w v t x y q requests copies same term seq requests_are copies_are =
    let P : GroupState → Type 0 = λ u. Performs u t x y Done (record v { requests = requests; copies = copies }) in
    let number : next_seq y.writes < 2 ^ 63 = subst (λ n. n < 2 ^ 63) seq q.seq_fits in
    let leaves : record v { requests = requests; copies = copies } ≡ performed v t x y q =
    ap (λ (r : List Request). record v { requests = r; copies = copies }) requests_are
    ∙ ap (λ (c : List ShardCopy). record v { requests = with_stage v.requests t x (InFlight q (document_in y.writes x.doc)); copies = c }) copies_are in
    let gives : (r : Pair) × (r.term ≡ v.term) × (r.seq ≡ next_seq y.writes) × Does (performed v t x y r) Done (record v { requests = requests; copies = copies }) =
    (q, term, seq, (refl, leaves)) in
    subst P same (at_false _ _ (nat_lt greatest (next_seq y.writes)) (le-ltb greatest (next_seq y.writes) (omega arith)) gives)

pub submits : (w v : GroupState) (id : List ℕ) (op : Op) (doc ticket : ℕ) (docs : List (List ℕ)) (requests : List Request)
    → v ≡ w → ticket ≡ length v.requests → not (nat_lt (length w.requests) most_tickets) ≡ false
    → docs ≡ insert_key (λ d e. pointwise ◌==◌ d e) v.docs id
    → doc ≡ position_or_len (λ d. pointwise ◌==◌ id d) v.docs
    → requests ≡ v.requests ++ queued_request doc op ∷ []
    → Gives w (step.Submit id op) (Ticket ticket) (record v { docs = docs; requests = requests })
submits w v id op doc ticket docs requests same ticket_is room docs_are doc_is requests_are =
    let P : GroupState → Type 0 = λ u. Gives u (step.Submit id op) (Ticket ticket) (record v { docs = docs; requests = requests }) in
    let less : not (nat_lt (length v.requests) most_tickets) ≡ false = ap (λ (u : GroupState). not (nat_lt (length u.requests) most_tickets)) same ∙ room in
    let leaves : record v { docs = docs; requests = requests } ≡ submitted v id op =
    ap (λ (r : List Request). record v { docs = docs; requests = r }) requests_are
    ∙ (ap (λ d. record v { docs = docs; requests = v.requests ++ queued_request d op ∷ [] }) doc_is
    ∙ ap (λ ds. record v { docs = ds; requests = (submitted v id op).requests }) docs_are) in
    let gives : (Ticket ticket ≡ Ticket (length v.requests)) × (record v { docs = docs; requests = requests } ≡ submitted v id op) = (ap Ticket ticket_is, leaves) in
    subst P same (at_true _ _ (nat_lt (length v.requests) most_tickets) (not-false (nat_lt (length v.requests) most_tickets) less) gives)
