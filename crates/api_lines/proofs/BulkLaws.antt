-- The items of a bulk body are writes.
use Rattle.std.proofs.Common.{ℕ, suc, ◌≡◌, List, [], ◌∷◌, ◌++◌, refl, subst, Bool, true, false, Option, Some, None, Ok, Err}
use Rattle.std.specs.Prelude.{All, IfOk, Result, Vec, if◌then◌else◌, length, nat_lt}
use Rattle.std.specs.declared.alloc.Global.{Global}
use Rattle.std.proofs.lemmas.List.Elements.{All-nil, All-push}
use Rattle.version_pair.proofs.TruthLemmas.{err_is_not_ok, same_ok}
use Rattle.doc_register.specs.declared.op.Op.{Op}
use Rattle.serde_json.specs.Data.{Data}
use Rattle.api_lines.specs.Bulk.{SoFar, action_parsed, action_values, begun, bulk_body, ended, item_of, sourced, taken_json, taken_line, taken_lines, taken_value}
use Rattle.api_lines.specs.BulkReply.{is_write}
use Rattle.api_lines.specs.Faults.{◌>>=◌}
use Rattle.api_lines.specs.Json.{FieldValue, absent, whole, not_whole, text, truth, other, json_value}
use Rattle.api_lines.specs.Lines.{is_blank, lines_of, longest_line}
use Rattle.api_lines.specs.declared.action.ActionSaid.{ActionSaid}
use Rattle.api_lines.specs.declared.action.ActionSaid.TheVariants.{Deletes, Awaits}
use Rattle.api_lines.specs.declared.action.Awaited.{Awaited}
use Rattle.api_lines.specs.declared.action.Awaited.TheVariants as awaited
use Rattle.api_lines.specs.declared.bulk_fault.BulkFault.{BulkFault}
use Rattle.api_lines.specs.declared.bulk_fault.BulkFault.TheVariants.{Syntax}
use Rattle.api_lines.specs.declared.text_fault.TextCause.{TextCause}

abbrev pub AreWrites : List (List ℕ × Op) → Type 0
AreWrites items = All (λ item. is_write item.1 ≡ true) items

pushed : (items : List (List ℕ × Op)) (item : List ℕ × Op) → AreWrites items → is_write item.1 ≡ true → AreWrites (items ++ item ∷ [])
pushed items item all write = All-push (λ i. is_write i.1 ≡ true) items item all write

item_is_write : (a : Awaited) (k : ℕ) → is_write (item_of a k).1 ≡ true
item_is_write (awaited.Index id cond) k = refl
item_is_write (awaited.Create id) k = refl

begun_writes : (n : ℕ) (items : List (List ℕ × Op)) (said : Result ActionSaid TextCause) (next : SoFar) → AreWrites items → begun n items said ≡ Ok next → AreWrites next.items
begun_writes n items (Err cause) next all is = err_is_not_ok _ next is
begun_writes n items (Ok (Deletes id cond)) next all is = subst (λ s. AreWrites s.items) (same_ok _ next is) (pushed items _ all refl)
begun_writes n items (Ok (Awaits a)) next all is = subst (λ s. AreWrites s.items) (same_ok _ next is) all

sourced_writes : (n : ℕ) (items : List (List ℕ × Op)) (a : Awaited) (v : FieldValue) (next : SoFar) → AreWrites items → sourced n items a v ≡ Ok next → AreWrites next.items
sourced_writes n items a absent next all is = err_is_not_ok _ next is
sourced_writes n items a (whole k) next all is = subst (λ s. AreWrites s.items) (same_ok _ next is) (pushed items (item_of a k) all (item_is_write a k))
sourced_writes n items a not_whole next all is = err_is_not_ok _ next is
sourced_writes n items a (text t) next all is = err_is_not_ok _ next is
sourced_writes n items a (truth b) next all is = err_is_not_ok _ next is
sourced_writes n items a other next all is = err_is_not_ok _ next is

value_writes : (n : ℕ) (items : List (List ℕ × Op)) (a : Option Awaited) (v : Data) (next : SoFar) → AreWrites items → taken_value n items a v ≡ Ok next → AreWrites next.items
value_writes n items None v next all is = begun_writes n items (action_parsed (action_values v)) next all is
value_writes n items (Some a) v next all is = sourced_writes n items a _ next all is

json_writes : (n : ℕ) (s : SoFar) (v : Option Data) (next : SoFar) → AreWrites s.items → taken_json n s v ≡ Ok next → AreWrites next.items
json_writes n s None next all is = err_is_not_ok _ next is
json_writes n s (Some v) next all is = value_writes n s.items s.awaited v next all is

line_writes : (n : ℕ) (s : SoFar) (line : List ℕ) (next : SoFar) → AreWrites s.items → taken_line n s line ≡ Ok next → AreWrites next.items
line_writes n s line next all is = by_length (nat_lt longest_line (length line)) is where
  by_blank : (b : Bool) → (if b then Ok s else taken_json n s (json_value line)) ≡ Ok next → AreWrites next.items
  by_blank true is = subst (λ s. AreWrites s.items) (same_ok s next is) all
  by_blank false is = json_writes n s (json_value line) next all is

  by_length : (b : Bool) → (if b then Err (Syntax n) else (if is_blank line then Ok s else taken_json n s (json_value line))) ≡ Ok next → AreWrites next.items
  by_length true is = err_is_not_ok _ next is
  by_length false is = by_blank (is_blank line) is

lines_write : (n : ℕ) (s : SoFar) (lines : List (List ℕ)) (items : List (List ℕ × Op)) → AreWrites s.items → taken_lines n s lines ≡ Ok items → AreWrites items
lines_write n s [] items all is = at_end s.awaited is where
  at_end : (a : Option Awaited) → ended n s.items a ≡ Ok items → AreWrites items
  at_end None is = subst AreWrites (same_ok s.items items is) all
  at_end (Some a) is = err_is_not_ok _ items is
lines_write n s (line ∷ lines) items all is = by_line (λ next. lines_write (suc n) next lines items) (taken_line n s line) refl is where
  by_line : ((next : SoFar) → AreWrites next.items → taken_lines (suc n) next lines ≡ Ok items → AreWrites items)
      → (r : Result SoFar BulkFault) → taken_line n s line ≡ r → (r >>= (λ next. taken_lines (suc n) next lines)) ≡ Ok items → AreWrites items
  by_line later (Ok next) took is = later next (line_writes n s line next all took) is
  by_line later (Err fault) took is = err_is_not_ok fault items is

-- no item of a bulk body is a get
pub items_are_writes : (body : List ℕ) (items : List (List ℕ × Op)) → bulk_body body ≡ Ok items → AreWrites items
items_are_writes body items is = lines_write 1 _ (lines_of body) items (All-nil (λ i. is_write i.1 ≡ true)) is

pub if_ok_writes : (body : List ℕ) (r : Result (Vec (List ℕ × Op) Global) BulkFault) → IfOk r (λ items. bulk_body body ≡ Ok items.items) → IfOk r (λ items. AreWrites items.items)
if_ok_writes body (Ok items) is = items_are_writes body items.items is
if_ok_writes body (Err fault) is = tt
