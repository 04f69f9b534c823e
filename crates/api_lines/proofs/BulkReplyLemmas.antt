-- Reading the items of a bulk reply, one after another.
use Rattle.std.proofs.Common.{ℕ, zero, suc, ◌≡◌, ◌<◌, ◌+◌, List, [], ◌∷◌, ◌++◌, length, drop, get_or, map, refl, sym, ap, ◌∙◌, arith, add-one, Ok, Err, Some}
use Rattle.std.proofs.Math.Seq.{drop-cons}
use Rattle.std.proofs.lemmas.Option.{same_Some}
use Rattle.doc_register.specs.declared.op.Op.{Op}
use Rattle.serde_json.specs.Data.{Items}
use Rattle.serde_json.specs.View.{items_view, view}
use Rattle.serde_json.specs.declared.value.Value.{Value}
use Rattle.api_lines.specs.Bulk.{UnlessMemory}
use Rattle.api_lines.specs.BulkReply.{heard_item, heard_items, items_list}
use Rattle.api_lines.specs.Faults.{◌>>=◌}
use Rattle.api_lines.specs.declared.bulk_fault.BulkFault.{BulkFault}
use Rattle.api_lines.specs.declared.bulk_fault.BulkFault.TheVariants.{Syntax, Action, Source, Half, Range, Count, Kind, NoMemory}
use Rattle.api_lines.specs.declared.reply_table.Heard.{Heard}

-- the items up to i are heard
pub record AreHeardUpTo (calls : List (List ℕ × Op)) (items : List Value) (i : ℕ) (heard : List Heard) : Type 0 where
  pub same : heard_items 0 [] calls (map view items) ≡ heard_items i heard (drop i calls) (drop i (map view items))

drop_at : {X : Type 0} (xs : List X) (i : ℕ) (x : X) → i < length xs → x ≡ get_or xs i x → drop i xs ≡ x ∷ drop (suc i) xs
drop_at xs i x within is = drop-cons xs i x within ∙ ap (λ y. y ∷ drop (suc i) xs) (sym is)

drop_viewed : (items : List Value) (i : ℕ) (x : Value) → i < length items → x ≡ get_or items i x → drop i (map view items) ≡ view x ∷ drop (suc i) (map view items)
drop_viewed [] i x within is = absurd (omega arith)
drop_viewed (y ∷ ys) zero x within is = ap (λ z. view z ∷ map view ys) (sym is)
drop_viewed (y ∷ ys) (suc i) x within is = drop_viewed ys i x (omega arith) is

-- the item at i, and those after it
heard_at : (calls : List (List ℕ × Op)) (items : List Value) (i : ℕ) (heard : List Heard) (call : List ℕ × Op) (item : Value) → i < length calls → i < length items
    → call ≡ get_or calls i call → item ≡ get_or items i item → AreHeardUpTo calls items i heard
    → heard_items 0 [] calls (map view items)
    ≡ (heard_item i call (view item) >>= (λ h. heard_items (suc i) (heard ++ h ∷ []) (drop (suc i) calls) (drop (suc i) (map view items))))
heard_at calls items i heard call item within has is at so_far =
    so_far.same ∙ (ap (λ cs. heard_items i heard cs (drop i (map view items))) (drop_at calls i call within is)
    ∙ ap (heard_items i heard (call ∷ drop (suc i) calls)) (drop_viewed items i item has at))

pub heard_more : (calls : List (List ℕ × Op)) (items : List Value) (i : ℕ) (heard : List Heard) (call : List ℕ × Op) (item : Value) (h : Heard) → i < length calls → i < length items
    → call ≡ get_or calls i call → item ≡ get_or items i item → AreHeardUpTo calls items i heard → heard_item i call (view item) ≡ Ok h
    → AreHeardUpTo calls items (i + 1) (heard ++ h ∷ [])
heard_more calls items i heard call item h within has is at so_far one = record {
  same = heard_at calls items i heard call item within has is at so_far
      ∙ (ap (λ r. r >>= (λ g. heard_items (suc i) (heard ++ g ∷ []) (drop (suc i) calls) (drop (suc i) (map view items)))) one
      ∙ ap (λ k. heard_items k (heard ++ h ∷ []) (drop k calls) (drop k (map view items))) (sym (add-one i)));
}

pub heard_stops : (calls : List (List ℕ × Op)) (items : List Value) (i : ℕ) (heard : List Heard) (call : List ℕ × Op) (item : Value) (fault : BulkFault) → i < length calls → i < length items
    → call ≡ get_or calls i call → item ≡ get_or items i item → AreHeardUpTo calls items i heard → heard_item i call (view item) ≡ Err fault
    → heard_items 0 [] calls (map view items) ≡ Err fault
heard_stops calls items i heard call item fault within has is at so_far one =
    heard_at calls items i heard call item within has is at so_far
    ∙ ap (λ r. r >>= (λ g. heard_items (suc i) (heard ++ g ∷ []) (drop (suc i) calls) (drop (suc i) (map view items)))) one

-- the items of an array as a list
items_list-view : (vs : List Value) → items_list (items_view vs) ≡ map view vs
items_list-view [] = refl
items_list-view (v ∷ vs) = ap (λ ds. view v ∷ ds) (items_list-view vs)

pub viewed : (vs : List Value) (ds : Items) → Some (items_view vs) ≡ Some ds → Some (items_list ds) ≡ Some (map view vs)
viewed vs ds is = ap (λ es. Some (items_list es)) (sym (same_Some (items_view vs) ds is)) ∙ ap (λ xs. Some xs) (items_list-view vs)

-- a fault of the definition is reported
pub always_reported : (fault : BulkFault) (P : Type 0) → P → UnlessMemory fault P
always_reported (Syntax n) P p = p
always_reported (Action n) P p = p
always_reported (Source n) P p = p
always_reported (Half n) P p = p
always_reported (Range n) P p = p
always_reported Count P p = p
always_reported (Kind i) P p = p
always_reported NoMemory P p = tt
