use Rattle.std.proofs.Common.{None, subst, false}
use Rattle.std.proofs.lemmas.Bool.{false≢true}
use Rattle.std.proofs.lemmas.Result.{IfOk-weaker}
use Rattle.shard_numbers.specs.Taken.{IsLeastTwice, pairs_taken}
use Rattle.covers.proofs.SearchedLemmas.{searched_cover}
use Rattle.covers.proofs.joined.joined_again.Goals as goal

pub returns-in-None : goal.returns-in-None
returns-in-None c = λ conflicts are.
    searched_cover conflicts c.args.history.now false c.args.witnesses.items are
    (subst (λ ws. IsLeastTwice (pairs_taken c.args.history.now ws) None) c.deref.ensures.value
    (subst (IsLeastTwice (pairs_taken c.args.history.now c.deref.result.now)) c.in-None.is c.in_ok-pair_twice.ensures))

pub returns-in_ok-gaps-in-Some : goal.returns-in_ok-gaps-in-Some
returns-in_ok-gaps-in-Some c = IfOk-weaker c.renumbered.result _ _ (λ joined is conflicts are. is conflicts false are (λ is. absurd (false≢true is))) c.renumbered.ensures
