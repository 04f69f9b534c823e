-- Objects with one key.
use Rattle.std.proofs.Common.{ℕ, ◌≡◌, List, [], ◌∷◌, length, arith, refl, sym, ap, ◌∙◌, Some, String, Global}
use Rattle.std.specs.Prelude.{◌==◌}
use Rattle.std.proofs.lemmas.Bool.{ne_eqb}
use Rattle.std.proofs.lemmas.Option.{none-some, same_Some}
use Rattle.serde_json.specs.Data.{Data, null, boolean, number, string, array, object, Members}
use Rattle.serde_json.specs.Find.{as_object}
use Rattle.serde_json.specs.View.{members_view}
use Rattle.serde_json.specs.declared.value.Value.{Value}
use Rattle.api_lines.specs.Bulk.{are_one, has_one_key}

are_one-length : (es : List (String Global × Value)) → (length es == 1) ≡ are_one (members_view es)
are_one-length [] = refl
are_one-length (e ∷ []) = refl
are_one-length (e ∷ f ∷ es) = ne_eqb (length (e ∷ f ∷ es)) 1 (λ h. omega arith)

has_one_key-object : (v : Data) (ms : Members) → Some ms ≡ as_object v → has_one_key v ≡ are_one ms
has_one_key-object null ms is = absurd (none-some ms (sym is))
has_one_key-object (boolean b) ms is = absurd (none-some ms (sym is))
has_one_key-object (number n) ms is = absurd (none-some ms (sym is))
has_one_key-object (string s) ms is = absurd (none-some ms (sym is))
has_one_key-object (array ds) ms is = absurd (none-some ms (sym is))
has_one_key-object (object os) ms is = ap are_one (sym (same_Some ms os is))

pub one_key_counted : (v : Data) (es : List (String Global × Value)) (n : ℕ) → n ≡ length es → Some (members_view es) ≡ as_object v → (n == 1) ≡ has_one_key v
one_key_counted v es n count is = ap (λ k. k == 1) count ∙ (are_one-length es ∙ sym (has_one_key-object v (members_view es) is))
