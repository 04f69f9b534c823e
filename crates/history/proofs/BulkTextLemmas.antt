-- The lines of a bulk request and its reply, item by item.
use Rattle.std.proofs.Common.{Bool, Err, List, None, Ok, Option, Result, Some, [], ap, append_assoc, arith, false, length, length-append, length-take-le, map, slice_get, suc, sym, take, true, ℕ, ◌++◌, ◌+◌, ◌<◌, ◌∙◌, ◌∷◌, ◌≡◌}
use Rattle.std.specs.Prelude.{◌==◌, if◌then◌else◌}
use Rattle.std.proofs.lemmas.Grind.{flat_map-append}
use Rattle.version_pair.proofs.TruthLemmas.{err_is_not_ok, same_ok}
use Rattle.doc_register.specs.declared.op.Op.{Op}
use Rattle.serde_json.specs.Data.{Data}
use Rattle.serde_json.specs.Written.{compact_text}
use Rattle.api_lines.specs.BulkReply.{bulk_reply, heard_array, heard_item, heard_items, heard_json, items_in}
use Rattle.api_lines.specs.Faults.{◌>>=◌}
use Rattle.api_lines.specs.Json.{json_value}
use Rattle.api_lines.specs.declared.bulk_fault.BulkFault.{BulkFault}
use Rattle.api_lines.specs.declared.bulk_fault.BulkFault.TheVariants.{Syntax, Count}
use Rattle.api_lines.specs.declared.reply_table.Heard.{Heard}
use Rattle.api_lines.specs.declared.reply_table.Heard.TheVariants.{Unknown}
use Rattle.history.specs.BulkText.{call_values, ending_value, ending_values}
use Rattle.history.specs.Written.{call_value, written_values}
use Rattle.events.proofs.PlaceLemmas.{take_next}
use Rattle.std.proofs.lemmas.List.{length-map}

-- ---- lines

written_values-append : (vs ws : List Data) → written_values (vs ++ ws) ≡ written_values vs ++ written_values ws
written_values-append vs ws = flat_map-append (λ v. compact_text v ++ 10 ∷ []) vs ws

-- a text with more lines, and then with one more
one_more : (old text new : List ℕ) (vs : List Data) (v : Data) → text ≡ old ++ written_values vs → new ≡ text ++ written_values (v ∷ [])
    → new ≡ old ++ written_values (vs ++ v ∷ [])
one_more old text new vs v before after =
    after ∙ (ap (λ t. t ++ written_values (v ∷ [])) before
    ∙ (append_assoc old (written_values vs) (written_values (v ∷ [])) ∙ ap (λ t. old ++ t) (sym (written_values-append vs (v ∷ [])))))

calls_more : (n : ℕ) (items : List (List ℕ × Op)) (item : List ℕ × Op)
    → call_values n (items ++ item ∷ []) ≡ call_values n items ++ call_value (n + length items) 0 item.0 item.1 ∷ []
calls_more n [] item = ap (λ k. call_value k 0 item.0 item.1 ∷ []) (let same : n ≡ n + 0 = omega arith in same)
calls_more n (x ∷ items) item =
    ap (λ vs. call_value n 0 x.0 x.1 ∷ vs) (calls_more (suc n) items item
    ∙ ap (λ k. call_values (suc n) items ++ call_value k 0 item.0 item.1 ∷ []) (let same : suc n + length items ≡ n + suc (length items) = omega arith in same))

endings_more : (n : ℕ) (items : List (List ℕ × Op)) (hs : List Heard) (item : List ℕ × Op) (h : Heard) → length hs ≡ length items
    → ending_values n (items ++ item ∷ []) (hs ++ h ∷ []) ≡ ending_values n items hs ++ ending_value (n + length items) item.0 h ∷ []
endings_more n [] [] item h same = ap (λ k. ending_value k item.0 h ∷ []) (let sum : n ≡ n + 0 = omega arith in sum)
endings_more n [] (g ∷ hs) item h same = absurd (omega arith)
endings_more n (x ∷ items) [] item h same = absurd (omega arith)
endings_more n (x ∷ items) (g ∷ hs) item h same =
    ap (λ vs. ending_value n x.0 g ∷ vs) (endings_more (suc n) items hs item h (omega arith)
    ∙ ap (λ k. ending_values (suc n) items hs ++ ending_value k item.0 h ∷ []) (let sum : suc n + length items ≡ n + suc (length items) = omega arith in sum))

pub calls_next : (old text new : List ℕ) (first i : ℕ) (items : List (List ℕ × Op)) (item : List ℕ × Op) → slice_get items i ≡ Some item → i < length items
    → text ≡ old ++ written_values (call_values first (take i items)) → new ≡ text ++ written_values (call_value (first + i) 0 item.0 item.1 ∷ [])
    → new ≡ old ++ written_values (call_values first (take (i + 1) items))
calls_next old text new first i items item at within before after =
    one_more old text new (call_values first (take i items)) (call_value (first + i) 0 item.0 item.1) before after
    ∙ ap (λ vs. old ++ written_values vs)
    (ap (λ k. call_values first (take i items) ++ call_value (first + k) 0 item.0 item.1 ∷ []) (sym (length-take-le i items (omega arith)))
    ∙ (sym (calls_more first (take i items) item) ∙ ap (call_values first) (sym (take_next items i item at))))

pub endings_next : (old text new : List ℕ) (first i : ℕ) (items : List (List ℕ × Op)) (hs : List Heard) (item : List ℕ × Op) (h : Heard) → slice_get items i ≡ Some item
    → slice_get hs i ≡ Some h → i < length items → length hs ≡ length items → text ≡ old ++ written_values (ending_values first (take i items) (take i hs))
    → new ≡ text ++ written_values (ending_value (first + i) item.0 h ∷ []) → new ≡ old ++ written_values (ending_values first (take (i + 1) items) (take (i + 1) hs))
endings_next old text new first i items hs item h at heard within same before after =
    let sizes : length (take i hs) ≡ length (take i items) = length-take-le i hs (omega arith) ∙ sym (length-take-le i items (omega arith)) in
    one_more old text new (ending_values first (take i items) (take i hs)) (ending_value (first + i) item.0 h) before after
    ∙ ap (λ vs. old ++ written_values vs)
    (ap (λ k. ending_values first (take i items) (take i hs) ++ ending_value (first + k) item.0 h ∷ []) (sym (length-take-le i items (omega arith)))
    ∙ (sym (endings_more first (take i items) (take i hs) item h sizes)
    ∙ (ap (λ xs. ending_values first xs (take i hs ++ h ∷ [])) (sym (take_next items i item at))
    ∙ ap (ending_values first (take (i + 1) items)) (sym (take_next hs i h heard)))))

-- ---- as many endings as calls

items_heard : (i : ℕ) (so_far : List Heard) (calls : List (List ℕ × Op)) (vs : List Data) (hs : List Heard) → heard_items i so_far calls vs ≡ Ok hs
    → length hs ≡ length so_far + length calls
items_heard i so_far [] vs hs is = let same : length so_far ≡ length hs = ap length (same_ok so_far hs is) in omega arith
items_heard i so_far (call ∷ calls) [] hs is = err_is_not_ok Count hs is
items_heard i so_far (call ∷ calls) (v ∷ vs) hs is = by_item (heard_item i call v) (λ h. items_heard (suc i) (so_far ++ h ∷ []) calls vs hs) is where
  by_item : (r : Result Heard BulkFault) → ((h : Heard) → heard_items (suc i) (so_far ++ h ∷ []) calls vs ≡ Ok hs → length hs ≡ length (so_far ++ h ∷ []) + length calls)
      → (r >>= (λ h. heard_items (suc i) (so_far ++ h ∷ []) calls vs)) ≡ Ok hs → length hs ≡ length so_far + suc (length calls)
  by_item (Ok h) later is =
      let rest = later h is in
      let longer : length (so_far ++ h ∷ []) ≡ length so_far + 1 = length-append so_far (h ∷ []) in omega arith
  by_item (Err fault) later is = err_is_not_ok fault hs is

pub as_many_heard : (items : List (List ℕ × Op)) (status : ℕ) (reply : List ℕ) (hs : List Heard) → bulk_reply items status reply ≡ Ok hs → length hs ≡ length items
as_many_heard items status reply hs is = by_status (status == 200) is where
  by_count : (vs : List Data) (b : Bool) → (if b then heard_items 0 [] items vs else Err Count) ≡ Ok hs → length hs ≡ length items
  by_count vs true is = let same : length hs ≡ 0 + length items = items_heard 0 [] items vs hs is in omega arith
  by_count vs false is = err_is_not_ok Count hs is

  by_array : (o : Option (List Data)) → heard_array items o ≡ Ok hs → length hs ≡ length items
  by_array None is = err_is_not_ok Count hs is
  by_array (Some vs) is = by_count vs (length vs == length items) is

  by_json : (o : Option Data) → heard_json items o ≡ Ok hs → length hs ≡ length items
  by_json None is = err_is_not_ok (Syntax 1) hs is
  by_json (Some v) is = by_array (items_in v) is

  by_status : (b : Bool) → (if b then heard_json items (json_value reply) else Ok (map (λ call. Unknown) items)) ≡ Ok hs → length hs ≡ length items
  by_status true is = by_json (json_value reply) is
  by_status false is = ap length (sym (same_ok (map (λ (call : List ℕ × Op). Unknown) items) hs is)) ∙ length-map items (λ (call : List ℕ × Op). Unknown)
