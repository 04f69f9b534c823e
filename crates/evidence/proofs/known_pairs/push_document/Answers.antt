use Rattle.std.proofs.Common.{rules, ◌≡◌, ◌<◌, ◌⊎◌, inl, inr, List, length, refl, sym, ap, subst, ◌∙◌, true, Some, slice_get}
use Rattle.std.proofs.lemmas.Option.{slice_get_read}
use Rattle.version_pair.specs.declared.pair.Pair.{Pair}
use Rattle.version_pair.proofs.ListLemmas.{get_snoc}
use Rattle.deciding.specs.Reported.{known_pairs}
use Rattle.evidence.specs.declared.known_pairs.KnownPair.{KnownPair}
use Rattle.evidence.specs.aids.KnownPairs.{is_known_of}
use Rattle.evidence.proofs.KnownPairLemmas.{is_of}
use Rattle.evidence.proofs.known_pairs.push_document.Goals as goal

pub loop-i-preserved : goal.loop-i-preserved
loop-i-preserved c are i k at = by_place (get_snoc c.loop-i.known.items new k i (sym (ap (λ xs. slice_get xs i) c.in_ok-push.ensures.items) ∙ at)) where
  pairs : List Pair
  pairs = c.in_ok-pairs.pairs.items

  new : KnownPair
  new = record { shard = c.shard-shard.result; pair = c.index.result.now; doc = c.args.doc }

  inside : c.loop-i.i < length pairs
  inside = search rules

  there : slice_get pairs c.loop-i.i ≡ Some c.index.result.now
  there = slice_get_read pairs _ c.loop-i.i c.index.result.now refl inside c.index.ensures

  known : is_known_of c.args.history.now new ≡ true
  known = is_of c.args.history.now c.args.doc c.shard-shard.result c.loop-i.i c.in_ok-records.field-0.items c.index.result.now c.shard-shard.ensures c.in_ok-records.ensures
      (subst (λ vs. slice_get vs c.loop-i.i ≡ Some c.index.result.now) (c.in_ok-pairs.ensures ∙ ap known_pairs c.deref.ensures.value) there)

  by_place : (slice_get c.loop-i.known.items i ≡ Some k) ⊎ ((i ≡ length c.loop-i.known.items) × (new ≡ k)) → is_known_of c.args.history.now k ≡ true
  by_place (inl old) = c.loop-i.invariant are i k old
  by_place (inr (here, same)) = subst (λ x. is_known_of c.args.history.now x ≡ true) same known
