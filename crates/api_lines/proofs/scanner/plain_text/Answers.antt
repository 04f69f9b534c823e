use Rattle.std.proofs.Common.{◌≡◌, ◌<◌, ◌∷◌, ◌++◌, ◌+◌, ◌-◌, ◌∙◌, length, length-drop, get_or, take, drop, ap, ap₂, sym, arith, rules}
use Rattle.std.specs.List.{list_all}
use Rattle.std.proofs.lemmas.List.{take_all}
use Rattle.api_lines.proofs.ScanLemmas.{IsUtf8-plain, is_plain, split_at}
use Rattle.api_lines.proofs.scanner.plain_text.Goals as goal

pub from_utf8_unchecked-text-requires : goal.from_utf8_unchecked-text-requires
from_utf8_unchecked-text-requires c = IsUtf8-plain (take c.in_ok-end.end c.args.bytes.now) c.in_ok-end.ensures.plain

pub returns : goal.returns
returns c =
    let bytes = c.args.bytes.now in
    let end = c.in_ok-end.end in
    let within : c.in_ok-end.end < length c.args.bytes.now = search rules in
    let quote : get_or c.args.bytes.now c.in_ok-end.end 0 ≡ 34 = search rules in
    let rest : take (length c.args.bytes.now - (c.in_ok-end.end + 1)) (drop (c.in_ok-end.end + 1) c.args.bytes.now) ≡ drop (c.in_ok-end.end + 1) c.args.bytes.now =
    take_all (length c.args.bytes.now - (c.in_ok-end.end + 1)) (drop (c.in_ok-end.end + 1) c.args.bytes.now) (omega (arith, length-drop (c.in_ok-end.end + 1) c.args.bytes.now)) in
    let text = c.from_utf8_unchecked-text.ensures in
    (split_at bytes end within ∙ (ap₂ (λ b r. take end bytes ++ b ∷ r) quote (sym rest) ∙ ap (λ t. t ++ 34 ∷ take (length bytes - (end + 1)) (drop (end + 1) bytes)) (sym text)), ap (list_all is_plain) text ∙ c.in_ok-end.ensures.plain)
