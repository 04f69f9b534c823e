use Rattle.std.proofs.Common.{arith, ◌≡◌, ◌<◌, ◌^◌, ◌-◌, ◌∙◌, ap, length, map, subst, sym}
use Rattle.events.specs.Events.{documents_of}
use Rattle.places.specs.Documents.{witness_places}
use Rattle.compose.specs.Counts.{calls_of}
use Rattle.compose.specs.Laws.{places_in}
use Rattle.compose.specs.Verdicts.{AreCounts, HasOrder}
use Rattle.compose.proofs.CountedPlaces.{places_within}
use Rattle.compose.proofs.VerdictLemmas.{are_counts, has_order}
use Rattle.compose.proofs.counts.Counts.of.Goals as goal

pub count_places-requires : goal.count_places-requires
count_places-requires c =
    let p = c.args.proof.now in
    let within = places_within p.conflicts p.events p.witnesses c.history-history.ensures.history c.witnesses-witnesses.ensures.cover in
    let few : c.count_calls-calls.result < 2 ^ 64 = c.count_calls-calls.type_inv in
    let calls : c.count_calls-calls.result ≡ calls_of p.events = c.count_calls-calls.ensures ∙ ap calls_of c.history-history.ensures.same in
    subst (λ ws. places_in (map witness_places ws) < 2 ^ 64) (sym c.witnesses-witnesses.ensures.same) (omega arith)

pub overflow_sub-left_out : goal.overflow_sub-left_out
overflow_sub-left_out c =
    let p = c.args.proof.now in
    let within = places_within p.conflicts p.events p.witnesses c.history-history.ensures.history c.witnesses-witnesses.ensures.cover in
    let calls : c.count_calls-calls.result ≡ calls_of p.events = c.count_calls-calls.ensures ∙ ap calls_of c.history-history.ensures.same in
    let places : c.count_places.result ≡ places_in (map witness_places p.witnesses) =
    c.count_places.ensures ∙ ap (λ ws. places_in (map witness_places ws)) c.witnesses-witnesses.ensures.same in
    omega arith

pub returns-clause-counts : goal.returns-clause-counts
returns-clause-counts c =
    let p = c.args.proof.now in
    let docs = c.docs.ensures ∙ ap (λ events. length (documents_of events)) c.history-history.ensures.same in
    let calls = c.count_calls-calls.ensures ∙ ap calls_of c.history-history.ensures.same in
    let places = c.count_places.ensures ∙ ap (λ ws. places_in (map witness_places ws)) c.witnesses-witnesses.ensures.same in
    let entries = map witness_places p.witnesses in
    subst (λ n. AreCounts p.events entries n c.count_calls-calls.result (c.count_calls-calls.result - c.count_places.result)) (sym docs)
    (subst (λ n. AreCounts p.events entries (length (documents_of p.events)) n (n - c.count_places.result)) (sym calls)
    (subst (λ n. AreCounts p.events entries (length (documents_of p.events)) (calls_of p.events) (calls_of p.events - n)) (sym places)
    (are_counts p.conflicts p.events p.witnesses c.history-history.ensures.history c.witnesses-witnesses.ensures.cover)))

pub returns-clause-order : goal.returns-clause-order
returns-clause-order c =
    let p = c.args.proof.now in
    let docs = c.docs.ensures ∙ ap (λ events. length (documents_of events)) c.history-history.ensures.same in
    let calls = c.count_calls-calls.ensures ∙ ap calls_of c.history-history.ensures.same in
    let places = c.count_places.ensures ∙ ap (λ ws. places_in (map witness_places ws)) c.witnesses-witnesses.ensures.same in
    subst (λ n. HasOrder p.conflicts p.events n c.count_calls-calls.result (c.count_calls-calls.result - c.count_places.result)) (sym docs)
    (subst (λ n. HasOrder p.conflicts p.events (length (documents_of p.events)) n (n - c.count_places.result)) (sym calls)
    (subst (λ n. HasOrder p.conflicts p.events (length (documents_of p.events)) (calls_of p.events) (calls_of p.events - n)) (sym places)
    (has_order p.conflicts p.events p.witnesses c.history-history.ensures.history c.witnesses-witnesses.ensures.cover)))
