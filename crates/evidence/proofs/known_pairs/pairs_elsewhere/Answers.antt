use Rattle.std.proofs.Common.{rules, ◌≡◌, ◌≢◌, ◌<◌, ◌⊎◌, inl, inr, length, refl, sym, ap, ◌∙◌, Some, slice_get}
use Rattle.std.proofs.lemmas.Option.{slice_get_read}
use Rattle.version_pair.proofs.ListLemmas.{get_snoc}
use Rattle.evidence.specs.aids.KnownPairs.{IsOther}
use Rattle.evidence.proofs.known_pairs.pairs_elsewhere.Goals.{then-entry-doc+then-not-is_last+in_ok-push, else-entry-doc}
use Rattle.evidence.proofs.known_pairs.pairs_elsewhere.Goals as goal

pub loop-i-preserved : goal.loop-i-preserved
loop-i-preserved c j q at = elim c.if-entry-doc.branch [
  | then-entry-doc+then-not-is_last+in_ok-push w ↦ by_place w.if-entry-doc.true (get_snoc c.loop-i.pairs.items c.index-known-i.result.pair q j
      (sym (ap (λ xs. slice_get xs j) w.in_ok-push.ensures.items) ∙ (ap (λ v. slice_get v.items j) (sym w.pairs-is) ∙ at)))
  | else-entry-doc w ↦ c.loop-i.invariant j q (ap (λ v. slice_get v.items j) (sym w.pairs-is) ∙ at)
] where
  inside : c.loop-i.i < length c.args.known.now
  inside = search rules

  by_place : c.index-known-i.result.doc ≢ c.args.doc → (slice_get c.loop-i.pairs.items j ≡ Some q) ⊎ ((j ≡ length c.loop-i.pairs.items) × (c.index-known-i.result.pair ≡ q))
      → IsOther c.args.known.now c.args.shard c.args.doc q
  by_place differs (inl old) = c.loop-i.invariant j q old
  by_place differs (inr (here, same)) = record {
    index = c.loop-i.i;
    entry = c.index-known-i.result;
    at = slice_get_read c.args.known.now _ c.loop-i.i c.index-known-i.result refl inside c.index-known-i.is;
    same_shard = c.if-entry-shard.false;
    differs = differs;
    has_pair = same;
  }
