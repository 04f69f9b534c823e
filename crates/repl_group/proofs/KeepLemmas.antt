-- Copies as they are kept, and as they are seen.
use Rattle.std.proofs.Common.{ℕ, suc, ◌≡◌, ◌+◌, ◌<◌, List, [], ◌∷◌, ◌++◌, get_or, length, refl, sym, ap, subst, ◌∙◌, arith, inl, inr, Some, None, Bool, true, false}
use Rattle.std.specs.Prelude.{◌==◌, max, unwrap_or, ◌&&◌, if◌then◌else◌, map, option_map, not, ◌||◌, replicate, slice_get, slice_set}
use Rattle.std.specs.List.{list_all}
use Rattle.std.specs.Map.{lookup}
use Rattle.std.specs.Option.{option_map_or}
use Rattle.doc_register.specs.declared.state.DocState.TheVariants.{Never}
use Rattle.repl_group.specs.declared.held_write.HeldWrite.{HeldWrite}
use Rattle.repl_group.specs.declared.replica.Replica.{Replica}
use Rattle.repl_group.specs.Copies.{ShardCopy, document_after, holds}
use Rattle.repl_group.specs.Group.{copy_with, led_by, new_copy}
use Rattle.repl_group.specs.aids.Following.{follows}
use Rattle.repl_group.specs.aids.Holding.{HeldState}
use Rattle.repl_group.specs.aids.Keeping.{AreKept, IsKept, copy_of, new_replica, taken_by}
use Rattle.repl_group.specs.aids.Logging.{held_at}
use Rattle.repl_group.specs.aids.Tracking.{AreNoted}
use Rattle.std.proofs.lemmas.List.{length-map, length-set, length_push, map-set}
use Rattle.std.proofs.lemmas.List.Folds.{list_all-map}
use Rattle.std.proofs.lemmas.Option.{slice_get-map, slice_get_read}
use lib.LanesLaws.{map-replicate}
use Rattle.version_pair.proofs.ListLemmas.{from_set, get_within, mapped_from, same_some}
use Rattle.repl_group.proofs.ListLemmas.{from_replicate, set-back}
use Rattle.repl_group.proofs.LogLemmas.{held_at-append, held_at-last}
use Rattle.repl_group.proofs.WriteLemmas.{noted_after, with_write-absent, with_write-there}

abbrev Sets : Type 0
Sets = List (List (ℕ × HeldWrite))

-- ---- what is seen of a copy

-- the copy at a place within what is seen
pub there : (sets : Sets) (rs : List Replica) (v : List ShardCopy) (c : ℕ) (z : Replica) → map (copy_of sets) rs ≡ v → c < length v → z ≡ get_or rs c z
    → slice_get rs c ≡ Some z
there sets rs v c z view less is =
    let same : length rs ≡ length v = sym (length-map rs (copy_of sets)) ∙ ap length view in slice_get_read rs (length rs) c z refl (omega (arith, less)) is

pub seen : (sets : Sets) (rs : List Replica) (v : List ShardCopy) (c : ℕ) (z : Replica) → map (copy_of sets) rs ≡ v → slice_get rs c ≡ Some z
    → slice_get v c ≡ Some (copy_of sets z)
seen sets rs v c z view at = ap (λ w. slice_get w c) (sym view) ∙ (slice_get-map (copy_of sets) rs c ∙ ap (option_map (copy_of sets)) at)

pub same_seen : (sets : Sets) (rs : List Replica) (v : List ShardCopy) (c : ℕ) (z : Replica) (y : ShardCopy) → map (copy_of sets) rs ≡ v → slice_get rs c ≡ Some z
    → slice_get v c ≡ Some y → copy_of sets z ≡ y
same_seen sets rs v c z y view at is = same_some _ _ (sym (seen sets rs v c z view at) ∙ is)

pub writes_seen : (sets : Sets) (rs : List Replica) (v : List ShardCopy) (c : ℕ) (z : Replica) → map (copy_of sets) rs ≡ v → slice_get rs c ≡ Some z
    → option_map_or (λ (y : ShardCopy). y.writes) (slice_get v c) [] ≡ held_at sets z.held.place
writes_seen sets rs v c z view at = ap (λ o. option_map_or (λ (y : ShardCopy). y.writes) o []) (seen sets rs v c z view at)

pub nothing_seen : (sets : Sets) (rs : List Replica) (v : List ShardCopy) (c : ℕ) → map (copy_of sets) rs ≡ v → slice_get rs c ≡ None
    → option_map_or (λ (y : ShardCopy). y.writes) (slice_get v c) [] ≡ []
nothing_seen sets rs v c view at =
    ap (λ o. option_map_or (λ (y : ShardCopy). y.writes) o []) (ap (λ w. slice_get w c) (sym view) ∙ (slice_get-map (copy_of sets) rs c ∙ ap (option_map (copy_of sets)) at))

-- ---- copies that are changed

pub kept_set : (sets : Sets) (rs : List Replica) (c : ℕ) (z : Replica) → AreKept sets rs → IsKept sets z.held → AreKept sets (slice_set rs c z)
kept_set sets rs c z kept own = record {
  kept = λ d y at. elim (from_set rs c d z y at) [
    | inl here ↦ subst (λ (x : Replica). IsKept sets x.held) (sym here.1) own
    | inr other ↦ kept.kept d y other.1
  ];
}

pub seen_set : (sets : Sets) (rs : List Replica) (v : List ShardCopy) (c : ℕ) (z : Replica) (y : ShardCopy) → map (copy_of sets) rs ≡ v → copy_of sets z ≡ y
    → map (copy_of sets) (slice_set rs c z) ≡ slice_set v c y
seen_set sets rs v c z y view is = map-set (copy_of sets) rs c z ∙ (ap (λ w. slice_set w c (copy_of sets z)) view ∙ ap (slice_set v c) is)

-- their number stays, in whatever log
pub length_any : (sets next : Sets) (rs : List Replica) (v : List ShardCopy) (c : ℕ) (z : Replica) → map (copy_of sets) rs ≡ v → length (map (copy_of next) (slice_set rs c z)) ≡ length v
length_any sets next rs v c z view =
    length-map (slice_set rs c z) (copy_of next) ∙ (length-set rs c z ∙ (sym (length-map rs (copy_of sets)) ∙ ap length view))

-- copies that hold nothing
pub kept_new : (count : ℕ) → AreKept ([] ∷ []) (replicate count new_replica)
kept_new count = record {
  kept = λ c y at. subst (λ (x : Replica). IsKept ([] ∷ []) x.held) (sym (from_replicate count new_replica c y at)) (record {
    there = omega arith;
    noted = record { noted = λ d. refl; next_is = refl; next_fits = omega arith };
  });
}

pub seen_new : (sets : Sets) (rs : List Replica) (count : ℕ) → sets ≡ [] ∷ [] → rs ≡ replicate count new_replica → map (copy_of sets) rs ≡ replicate count new_copy
seen_new sets rs count none new =
    ap (λ zs. map (copy_of sets) zs) new ∙ (map-replicate (copy_of sets) count new_replica ∙ ap (λ l. replicate count (copy_of l new_replica)) none)

-- one place more in the log
pub kept_more : (sets : Sets) (set : List (ℕ × HeldWrite)) (rs : List Replica) → AreKept sets rs → AreKept (sets ++ set ∷ []) rs
kept_more sets set rs kept = record {
  kept = λ c y at. let own = kept.kept c y at in let less : y.held.place < length sets = own.there in
      let longer : length (sets ++ set ∷ []) ≡ length sets + 1 = length_push sets set in record {
        there = omega (arith, less);
        noted = subst (λ w. AreNoted w y.held.documents y.held.next_seq) (sym (held_at-append sets (set ∷ []) y.held.place less)) own.noted;
      };
}

pub seen_more : (sets : Sets) (set : List (ℕ × HeldWrite)) (rs : List Replica) → AreKept sets rs → map (copy_of (sets ++ set ∷ [])) rs ≡ map (copy_of sets) rs
seen_more sets set [] kept = refl
seen_more sets set (y ∷ ys) kept =
    let less : y.held.place < length sets = (kept.kept 0 y refl).there in
    ap (λ (w : List (ℕ × HeldWrite)). record { writes = w; is_cut = y.is_cut; is_in_sync = y.is_in_sync } ∷ map (copy_of (sets ++ set ∷ [])) ys) (held_at-append sets (set ∷ []) y.held.place less)
    ∙ ap (λ zs. copy_of sets y ∷ zs) (seen_more sets set ys (record { kept = λ c x at. kept.kept (suc c) x at }))

-- copies that follow another one
pub seen_led : (sets : Sets) (rs : List Replica) (held : HeldState) → map (copy_of sets) (map (taken_by held) rs) ≡ map (led_by (held_at sets held.place)) (map (copy_of sets) rs)
seen_led sets [] held = refl
seen_led sets (z ∷ zs) held =
    ap (λ x. x ∷ map (copy_of sets) (map (taken_by held) zs)) (by_flags z.is_in_sync z.is_cut) ∙ ap (λ xs. led_by (held_at sets held.place) (copy_of sets z) ∷ xs) (seen_led sets zs held) where
      by_flags : (a b : Bool) → copy_of sets (if a then (if b then record z { is_in_sync = false } else record z { held = held }) else z)
          ≡ (if a then (if b then record (copy_of sets z) { is_in_sync = false } else record (copy_of sets z) { writes = held_at sets held.place }) else copy_of sets z)
      by_flags true true = refl
      by_flags true false = refl
      by_flags false b = refl

pub kept_led : (sets : Sets) (rs : List Replica) (held : HeldState) → AreKept sets rs → IsKept sets held → AreKept sets (map (taken_by held) rs)
kept_led sets rs held kept own = record {
  kept = λ c y at. from c y (mapped_from (taken_by held) rs c y at);
} where
  either : (z : Replica) (a b : Bool) → IsKept sets z.held → IsKept sets (if a then (if b then record z { is_in_sync = false } else record z { held = held }) else z).held
  either z true true is = is
  either z true false is = own
  either z false b is = is

  from : (c : ℕ) (y : Replica) → (z : Replica) × (slice_get rs c ≡ Some z) × (taken_by held z ≡ y) → IsKept sets y.held
  from c y (z, at, is) = subst (λ (x : Replica). IsKept sets x.held) is (either z z.is_in_sync z.is_cut (kept.kept c z at))

-- ---- a write more at a copy

-- a copy at a place of a longer log, at which it holds one write more
pub kept_added : (sets : Sets) (rs : List Replica) (c : ℕ) (z : Replica) (t : ℕ) (write : HeldWrite) (next : Sets) (held : HeldState)
    → AreKept sets rs → slice_get rs c ≡ Some z → next ≡ sets ++ (held_at sets z.held.place ++ (t, write) ∷ []) ∷ []
    → held.place ≡ length sets
    → ((d : ℕ) → unwrap_or (lookup (◌==◌ d) held.documents) Never ≡ document_after d (unwrap_or (lookup (◌==◌ d) z.held.documents) Never) write)
    → held.next_seq ≡ max z.held.next_seq (write.pair.seq + 1)
    → AreKept next (slice_set rs c (record z { held = held }))
kept_added sets rs c z t write next held kept at next_is place documents seq =
    let old = (kept.kept c z at).noted in
    let set : List (ℕ × HeldWrite) = held_at sets z.held.place ++ (t, write) ∷ [] in
    let now : held_at (sets ++ set ∷ []) held.place ≡ set = ap (held_at (sets ++ set ∷ [])) place ∙ held_at-last sets set in
    let longer : length (sets ++ set ∷ []) ≡ length sets + 1 = length_push sets set in
    let noted : AreNoted set held.documents held.next_seq =
    subst (λ n. AreNoted set held.documents n) (sym seq) (noted_after (held_at sets z.held.place) z.held.documents held.documents z.held.next_seq t write old documents) in
    subst (λ l. AreKept l (slice_set rs c (record z { held = held }))) (sym next_is)
    (kept_set (sets ++ set ∷ []) rs c (record z { held = held }) (kept_more sets set rs kept)
    (record { there = omega (arith, place); noted = subst (λ w. AreNoted w held.documents held.next_seq) (sym now) noted }))

pub seen_added : (sets : Sets) (rs : List Replica) (v : List ShardCopy) (c : ℕ) (z : Replica) (t : ℕ) (write : HeldWrite) (next : Sets) (held : HeldState) (y : ShardCopy)
    → map (copy_of sets) rs ≡ v → AreKept sets rs → slice_get rs c ≡ Some z → slice_get v c ≡ Some y → holds (held_at sets z.held.place) t ≡ false
    → next ≡ sets ++ (held_at sets z.held.place ++ (t, write) ∷ []) ∷ [] → held.place ≡ length sets
    → map (copy_of next) (slice_set rs c (record z { held = held })) ≡ slice_set v c (copy_with y t write)
seen_added sets rs v c z t write next held y view kept at is absent next_is place =
    let set : List (ℕ × HeldWrite) = held_at sets z.held.place ++ (t, write) ∷ [] in
    let more : List (List (ℕ × HeldWrite)) = sets ++ set ∷ [] in
    let same : copy_of sets z ≡ y = same_seen sets rs v c z y view at is in
    let now : held_at more held.place ≡ set = ap (held_at more) place ∙ held_at-last sets set in
    ap (λ (l : Sets). map (copy_of l) (slice_set rs c (record z { held = held }))) next_is
    ∙ seen_set more rs v c (record z { held = held }) (copy_with y t write) (seen_more sets set rs kept ∙ view)
    (ap (λ (w : List (ℕ × HeldWrite)). record { writes = w; is_cut = z.is_cut; is_in_sync = z.is_in_sync }) (now ∙ sym (with_write-absent (held_at sets z.held.place) t write absent))
    ∙ ap (λ (x : ShardCopy). copy_with x t write) same)

-- the log goes on, and the copy stays as it was
pub kept_still : (sets : Sets) (rs : List Replica) (c : ℕ) (z : Replica) (set : List (ℕ × HeldWrite)) (next : Sets) (held : HeldState)
    → AreKept sets rs → slice_get rs c ≡ Some z → next ≡ sets ++ set ∷ [] → held ≡ z.held → AreKept next (slice_set rs c (record z { held = held }))
kept_still sets rs c z set next held kept at next_is same =
    subst (λ l. AreKept l (slice_set rs c (record z { held = held }))) (sym next_is)
    (kept_set (sets ++ set ∷ []) rs c (record z { held = held }) (kept_more sets set rs kept)
    (subst (λ h. IsKept (sets ++ set ∷ []) h) (sym same) ((kept_more sets set rs kept).kept c z at)))

pub seen_still : (sets : Sets) (rs : List Replica) (v : List ShardCopy) (c : ℕ) (z : Replica) (set : List (ℕ × HeldWrite)) (next : Sets) (held : HeldState)
    → map (copy_of sets) rs ≡ v → AreKept sets rs → slice_get rs c ≡ Some z → next ≡ sets ++ set ∷ [] → held ≡ z.held
    → map (copy_of next) (slice_set rs c (record z { held = held })) ≡ v
seen_still sets rs v c z set next held view kept at next_is same =
    ap (λ (l : Sets). map (copy_of l) (slice_set rs c (record z { held = held }))) next_is
    ∙ (ap (λ (h : HeldState). map (copy_of (sets ++ set ∷ [])) (slice_set rs c (record z { held = h }))) same
    ∙ (ap (map (copy_of (sets ++ set ∷ []))) (set-back rs c z at) ∙ (seen_more sets set rs kept ∙ view)))

-- it held the write before
pub seen_there : (sets : Sets) (rs : List Replica) (v : List ShardCopy) (c : ℕ) (z : Replica) (t : ℕ) (write : HeldWrite) (y : ShardCopy)
    → map (copy_of sets) rs ≡ v → slice_get rs c ≡ Some z → slice_get v c ≡ Some y → holds (held_at sets z.held.place) t ≡ true
    → v ≡ slice_set v c (copy_with y t write)
seen_there sets rs v c z t write y view at is there =
    let same : copy_of sets z ≡ y = same_seen sets rs v c z y view at is in
    let held : holds y.writes t ≡ true = ap (λ (x : ShardCopy). holds x.writes t) (sym same) ∙ there in
    sym (ap (λ (w : List (ℕ × HeldWrite)). slice_set v c (record y { writes = w })) (with_write-there y.writes t write held) ∙ set-back v c y is)

-- ---- whether all copies in sync hold a write

abbrev pub has_or_lags : Sets → ℕ → Replica → Bool
has_or_lags sets t z = not z.is_in_sync || holds (held_at sets z.held.place) t

pub all_seen : (sets : Sets) (rs : List Replica) (v : List ShardCopy) (t : ℕ) → map (copy_of sets) rs ≡ v
    → list_all (λ y. not y.is_in_sync || holds y.writes t) v ≡ list_all (has_or_lags sets t) rs
all_seen sets rs v t view =
    ap (λ l. list_all (λ (y : ShardCopy). not y.is_in_sync || holds y.writes t) l) (sym view) ∙ list_all-map (λ (y : ShardCopy). not y.is_in_sync || holds y.writes t) (copy_of sets) rs

pub lacks : (sets : Sets) (t : ℕ) (z : Replica) → z.is_in_sync ≡ true → holds (held_at sets z.held.place) t ≡ false → has_or_lags sets t z ≡ false
lacks sets t z sync absent = ap (λ b. not b || holds (held_at sets z.held.place) t) sync ∙ absent

-- ---- copies that follow a new primary

module _ (sets : Sets) (rs : List Replica) (v : List ShardCopy) (p : ℕ) (new : List Replica) (view : map (copy_of sets) rs ≡ v) (kept : AreKept sets rs) (less : p < length v)
    (leads : (y : ShardCopy) → slice_get v p ≡ Some y → (y.is_in_sync && not y.is_cut) ≡ true)
    (led : (z : Replica) → slice_get rs p ≡ Some z → follows z ≡ true → new ≡ map (taken_by z.held) rs) where
  lead : (z : Replica) × (slice_get rs p ≡ Some z)
  lead = let same : length rs ≡ length v = sym (length-map rs (copy_of sets)) ∙ ap length view in get_within rs p (omega (arith, less))

  after : new ≡ map (taken_by lead.0.held) rs
  after = led lead.0 lead.1 (leads (copy_of sets lead.0) (seen sets rs v p lead.0 view lead.1))

  pub follow_kept : AreKept sets new
  follow_kept = subst (AreKept sets) (sym after) (kept_led sets rs lead.0.held kept (kept.kept p lead.0 lead.1))

  pub follow_seen : (y : ShardCopy) → slice_get v p ≡ Some y → map (copy_of sets) new ≡ map (led_by y.writes) v
  follow_seen y is =
      ap (map (copy_of sets)) after ∙ (seen_led sets rs lead.0.held
      ∙ (ap (map (led_by (held_at sets lead.0.held.place))) view ∙ ap (λ (x : ShardCopy). map (led_by x.writes) v) (same_seen sets rs v p lead.0 y view lead.1 is)))

  pub follow_length : length (map (copy_of sets) new) ≡ length v
  follow_length = length-map new (copy_of sets) ∙ (ap length after ∙ (length-map rs (taken_by lead.0.held) ∙ (sym (length-map rs (copy_of sets)) ∙ ap length view)))
