use Rattle.std.proofs.Common.{rules, ◌≡◌, ◌<◌, ◌≤◌, length, slice_index_or, sym, ap, ◌∙◌, Some, false, nat_lt, true≢false}
use Rattle.std.proofs.lemmas.Bool.{and_from, eq-eqb}
use Rattle.std.proofs.lemmas.Option.{slice_get-get_or}
use Rattle.version_pair.specs.declared.pair.Pair.{Pair}
use Rattle.version_pair.proofs.PairLemmas.{same_by_test}
use Rattle.deciding.specs.Reported.{known_pairs}
use Rattle.deciding.specs.Positions.{count_below}
use Rattle.deciding.proofs.KnownLemmas.{known_at, none_past, same_as_among, there_known}
use Rattle.deciding.proofs.known.Known.contains.Goals as goal

pub returns-then-below-len : goal.returns-then-below-len
returns-then-below-len c records known =
    let vs = c.args.self.now.pairs.items in
    let p = c.args.pair in
    let v = c.index.result.now in
    let place = c.count_below-below.result in
    let within : place < length vs = search rules in
    let read : v ≡ slice_index_or vs place v = c.index.ensures in
    let count : place ≡ count_below (known_pairs records) p = c.count_below-below.ensures.exact records known in
    same_as_among records p c.eq.result
    (λ is. there_known records vs p known (place, slice_get-get_or vs place v within ∙ ap (λ (u : Pair). Some u) (sym read ∙ same_by_test v p (sym c.eq.ensures ∙ is))))
    (λ has. (let same : v ≡ p = known_at records vs p place v known count within read has in
    c.eq.ensures ∙ and_from _ _ (eq-eqb v.term p.term (ap (λ (u : Pair). u.term) same)) (eq-eqb v.seq p.seq (ap (λ (u : Pair). u.seq) same))))

pub returns-else-below-len : goal.returns-else-below-len
returns-else-below-len c records known =
    let vs = c.args.self.now.pairs.items in
    let place = c.count_below-below.result in
    let count : place ≡ count_below (known_pairs records) c.args.pair = c.count_below-below.ensures.exact records known in
    let past : length vs ≤ place = search rules in
    let not : nat_lt place c.len.result ≡ false = search rules in
    same_as_among records c.args.pair (nat_lt place c.len.result) (λ is. absurd (true≢false (sym is ∙ not))) (λ has. absurd (none_past records vs c.args.pair place known count past has))
