use Rattle.std.proofs.Common.{List, subst}
use Rattle.std.proofs.lemmas.Result.{IfOk-weaker}
use Rattle.evidence.specs.declared.known_pairs.KnownPair.{KnownPair}
use Rattle.evidence.specs.aids.KnownPairs.{IsOther}
use Rattle.evidence.proofs.KnownPairLemmas.{other_elsewhere}
use Rattle.evidence.proofs.ruled_out_calls.Rulings.elsewhere.Goals as goal

pub returns : goal.returns
returns c =
    IfOk-weaker c.of-2.result _ _ (λ e listed q kept d at. (
    let here = (listed q).0 kept in
    let other : IsOther c.deref.result.now c.shard-shard.result c.args.doc q =
    c.in_ok-pairs.ensures here.0 q here.1 in
    other_elsewhere c.args.self.now.history.now c.args.self.now.known.items c.args.doc c.shard-shard.result q d c.requires.history c.args.self.now.known_of c.shard-shard.ensures at
    (subst (λ (ks : List KnownPair). IsOther ks c.shard-shard.result c.args.doc q) c.deref.ensures.value other)
    )) c.of-2.ensures
