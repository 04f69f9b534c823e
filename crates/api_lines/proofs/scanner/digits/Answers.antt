use Rattle.std.proofs.Common.{◌≡◌, ◌<◌, ◌-◌, ◌^◌, ◌∙◌, ◌++◌, Some, ap, sym, length, length-drop, length-take, get_or, get_or-take, take, drop, arith, inl, inr}
use Rattle.std.specs.Str.Parse.{digits_value}
use Rattle.std.proofs.lemmas.Int.Digits.{digits_more, digits_value_more}
use Rattle.std.proofs.lemmas.List.{take-append-drop, take_all}
use Rattle.std.proofs.lemmas.Str.{digit_value_digit}
use Rattle.serde_json.specs.Data.{unsigned}
use Rattle.api_lines.proofs.ScanLemmas.{IsNumber-digits, short_digits}
use Rattle.api_lines.proofs.TokenLemmas.{number_of-digits}
use Rattle.api_lines.proofs.scanner.digits.Goals as goal

pub overflow_mul-number : goal.overflow_mul-number
overflow_mul-number c =
    let i = c.digits.invariant in
    let small = short_digits c.args.bytes.now c.digits.at 18 i.2 (omega arith) in
    omega (arith, small, i.3)

pub overflow_add-number : goal.overflow_add-number
overflow_add-number c =
    let i = c.digits.invariant in
    let small = short_digits c.args.bytes.now c.digits.at 18 i.2 (omega arith) in
    omega (arith, small, i.3)

pub digits-preserved : goal.digits-preserved
digits-preserved c =
    let i = c.digits.invariant in
    let digit = digit_value_digit (get_or c.args.bytes.now c.digits.at 0) (omega arith, omega arith) in
    let within : c.digits.at < length c.args.bytes.now = omega arith in
    (omega arith, omega arith, digits_more 10 c.args.bytes.now c.digits.at within i.2 (omega (arith, digit)), omega (arith, digit, i.3, digits_value_more 10 c.args.bytes.now c.digits.at within))

pub returns : goal.returns
returns c =
    let i = c.digits.invariant in
    let ds = take c.digits.at c.args.bytes.now in
    let long = length-take c.digits.at c.args.bytes.now in
    let some : 0 < length (take c.digits.at c.args.bytes.now) = omega (arith, long, i.1) in
    let small : digits_value 10 (take c.digits.at c.args.bytes.now) < 2 ^ 64 = omega (arith, short_digits c.args.bytes.now c.digits.at 19 i.2 i.0) in
    let rest : take (length c.args.bytes.now - c.digits.at) (drop c.digits.at c.args.bytes.now) ≡ drop c.digits.at c.args.bytes.now =
    take_all (length c.args.bytes.now - c.digits.at) (drop c.digits.at c.args.bytes.now) (omega (arith, length-drop c.digits.at c.args.bytes.now)) in
    let lead : get_or (take c.digits.at c.args.bytes.now) 0 0 ≡ 48 → length (take c.digits.at c.args.bytes.now) ≡ 1 = λ zero.
    let first : get_or c.args.bytes.now 0 0 ≡ 48 = sym (get_or-take c.digits.at c.args.bytes.now 0 0 (omega arith)) ∙ zero in
    elim c.if-at-gt1.either [ inl one ↦ omega (arith, long, i.1, one.1) | inr other ↦ absurd (other first) ] in (
      ds,
      sym (take-append-drop c.digits.at c.args.bytes.now) ∙ ap (λ r. ds ++ r) (sym rest),
      IsNumber-digits ds i.2 some lead small,
      number_of-digits ds (some, i.2) small ∙ ap (λ n. Some (unsigned n)) (sym i.3),
    )
