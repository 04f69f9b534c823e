-- Walks over the places of a history, one event more at each.
use Rattle.std.proofs.Common.{ℕ, zero, suc, None, ◌≡◌, ◌≤◌, ◌+◌, List, [], ◌∷◌, ◌++◌, length, refl, sym, ap, ◌∙◌, Some, slice_get, take, drop, add-one}
use Rattle.std.proofs.lemmas.List.Sums.{fold-append}
use Rattle.events.specs.declared.event.Event.{Event}
use Rattle.events.specs.declared.event.Event.TheVariants.{Call, Reply, Lost}
use Rattle.events.specs.declared.fault.HistFault.{HistFault}
use Rattle.events.specs.declared.fault.HistFault.TheVariants.{SecondCall, NoCall, Ended, Kind, Full, NoMemory, ShardMoved}
use Rattle.events.specs.declared.seen.Seen.{Seen}
use Rattle.events.specs.Events.{HasShard, IsHistory}
use Rattle.events.specs.Refusal.{most_events, reason_reported, refusal_of}
use Rattle.events.specs.Seen.{pair_named, seen_in, seen_with}
use Rattle.events.proofs.AcceptedEvents.{IsNext, accepted}
use Rattle.version_pair.proofs.ListLemmas.{take_one_more}

-- the first i + 1 items are the first i, then the item at i
pub take_next : {X : Type 0} (xs : List X) (i : ℕ) (x : X) → slice_get xs i ≡ Some x → take (i + 1) xs ≡ take i xs ++ x ∷ []
take_next xs i x at = ap (λ k. take k xs) (add-one i) ∙ take_one_more xs i x at

pub seen_one_more : (H : List Event) (i : ℕ) (e : Event) (seen : Seen) → slice_get H i ≡ Some e → seen ≡ seen_in (take i H)
    → seen_with seen (pair_named e) ≡ seen_in (take (i + 1) H)
seen_one_more H i e seen at before =
    ap (λ s. seen_with s (pair_named e)) before
    ∙ sym (ap seen_in (take_next H i e at) ∙ fold-append (λ s f. seen_with s (pair_named f)) (record { term = 0; seq = 0 }) (take i H) (e ∷ []))

-- ---- prefixes

split_at : {X : Type 0} (xs : List X) (i : ℕ) (x : X) → slice_get xs i ≡ Some x → xs ≡ take i xs ++ x ∷ drop (suc i) xs
split_at [] i x at = absurd (cc)
split_at (y ∷ ys) zero x at = let same : y ≡ x = cc in ap (λ z. z ∷ ys) same
split_at (y ∷ ys) (suc i) x at = ap (λ zs. y ∷ zs) (split_at ys i x at)

pub next_at : (H : List Event) (i : ℕ) (e : Event) → IsHistory H → slice_get H i ≡ Some e → IsNext H (take i H) e
next_at H i e history at = record { history = history; after = drop (suc i) H; split = split_at H i e at }

pub shard_at : (H : List Event) (i : ℕ) (e : Event) → IsHistory H → slice_get H i ≡ Some e → HasShard e
shard_at H i (Call h n d op) history at = history.shards i n h d op at
shard_at H i (Reply n r) history at = tt
shard_at H i (Lost n) history at = tt

-- the next event of a history isn't refused
pub place_accepted : (H G : List Event) (i : ℕ) (e : Event) → IsHistory H → length H ≤ most_events → slice_get H i ≡ Some e → G ≡ take i H
    → refusal_of G e ≡ None
place_accepted H G i e history few at so_far = ap (λ K. refusal_of K e) so_far ∙ accepted H (take i H) e (next_at H i e history at) few

-- an event that isn't refused for a reason is refused for want of memory
pub only_memory : (f : HistFault) → reason_reported f ≡ None → f ≡ NoMemory
only_memory SecondCall none = absurd (cc)
only_memory NoCall none = absurd (cc)
only_memory Ended none = absurd (cc)
only_memory Kind none = absurd (cc)
only_memory Full none = absurd (cc)
only_memory NoMemory none = refl
only_memory ShardMoved none = absurd (cc)

pub prefix_one_more : (H G : List Event) (i : ℕ) (e : Event) → slice_get H i ≡ Some e → G ≡ take i H → G ++ e ∷ [] ≡ take (i + 1) H
prefix_one_more H G i e at so_far = ap (λ K. K ++ e ∷ []) so_far ∙ sym (take_next H i e at)
