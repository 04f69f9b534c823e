use Rattle.std.proofs.Common.{◌≡◌, ◌∙◌, ◌<◌, ◌^◌, ℕ, Bool, true, false, List, [], ◌∷◌, Some, None, ap, refl, sym, length, nat_lt, Bor, Option, option_map}
use Rattle.std.specs.Prelude.{if◌then◌else◌}
use Rattle.std.specs.Bool.{Decides}
use Rattle.std.specs.Char.{digit_value}
use Rattle.std.specs.List.{list_all}
use Rattle.std.specs.Str.Parse.{AllDigits, IsNumeral, digits_value, without_leading_plus}
use Rattle.std.proofs.lemmas.Bool.Decides.{Decides-and, Decides-ltb}
use Rattle.std.proofs.lemmas.Result.{OkIff-at_err, OkIff-at_ok}
use Rattle.command_line.specs.Asked.{is_number, number_or}
use Rattle.command_line.proofs.request.number_or.Goals as goal

digits_tested : (ds : List ℕ) → Decides (list_all (λ c. nat_lt (digit_value c) 10) ds) (AllDigits 10 ds)
digits_tested [] = (λ _. tt, λ _. refl)
digits_tested (c ∷ cs) = Decides-and _ _ (Decides-ltb (digit_value c) 10) (digits_tested cs)

IsNumber : List ℕ → Type 0
IsNumber text = IsNumeral 10 (without_leading_plus text) × (digits_value 10 (without_leading_plus text) < 2 ^ 64)

number_tested : (text : List ℕ) → Decides (is_number text) (IsNumber text)
unfolding IsNumber
number_tested text =
    let digits = without_leading_plus text in
    Decides-and _ _ (Decides-and _ _ (Decides-ltb 0 (length digits)) (digits_tested digits)) (Decides-ltb (digits_value 10 digits) (2 ^ 64))

number_parsed : (other : ℕ) (text : List ℕ) (n : ℕ) → IsNumber text → n ≡ digits_value 10 (without_leading_plus text) → Some n ≡ number_or other (Some text)
number_parsed other text n is value =
    let tested : is_number text ≡ true = (number_tested text).1 is in
    ap Some value ∙ sym (ap (λ b. if b then Some (digits_value 10 (without_leading_plus text)) else None) tested)

none_reported : (other : ℕ) (text : List ℕ) → (IsNumber text → ⊥) → None ≡ number_or other (Some text)
none_reported other text isnt = go (is_number text) refl
  where
    go : (b : Bool) → is_number text ≡ b → None ≡ number_or other (Some text)
    go true same = absurd (isnt ((number_tested text).0 same))
    go false unlike = sym (ap (λ b. if b then Some (digits_value 10 (without_leading_plus text)) else None) unlike)

pub returns-in-Ok : goal.returns-in-Ok
unfolding IsNumber
returns-in-Ok c =
    let read = OkIff-at_ok c.parse.result _ _ c.in-Ok.number c.parse.ensures.value.0 c.in-Ok.is in
    number_parsed c.args.other c.in-Some.text.now c.in-Ok.number read.0 read.1
    ∙ sym (ap (λ (o : Option (Bor (List ℕ))). number_or c.args.other (option_map (λ t. t.now) o)) c.in-Some.is)

pub returns-in-Err : goal.returns-in-Err
unfolding IsNumber
returns-in-Err c =
    none_reported c.args.other c.in-Some.text.now (OkIff-at_err c.parse.result _ _ c.in-Err.field-0 c.parse.ensures.value.0 c.in-Err.is)
    ∙ sym (ap (λ (o : Option (Bor (List ℕ))). number_or c.args.other (option_map (λ t. t.now) o)) c.in-Some.is)
