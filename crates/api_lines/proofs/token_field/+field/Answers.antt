use Rattle.std.proofs.Common.{◌≡◌, ◌<◌, ◌∙◌, ◌-◌, ap, refl, arith, Some, None}
use Rattle.json.specs.Json.{value, read_key, after_end_array}
use Rattle.serde_json.specs.Data.{array, boolean, item, no_items, no_members, null, number, object, put, string, unsigned}
use Rattle.serde_json.specs.Read.{converted, of_json}
use Rattle.api_lines.specs.aids.Scanning.{tokens_left}
use Rattle.api_lines.specs.aids.Keys.{key_text}
use Rattle.api_lines.proofs.TokenLemmas.{array_value, items_all, items_none, items_one_more, object_value, read_all, read_more, read_none, value-boolean, value-null, value-number, value-string}
use Rattle.api_lines.proofs.token_field.+field.Goals as goal

pub field-returns-in_ok-text-in-34-clause-read : goal.field-returns-in_ok-text-in-34-clause-read
field-returns-in_ok-text-in-34-clause-read t c =
    (string _, ap (λ ts. converted of_json (value c.args.depth ts)) c.in_ok-text-in-34.ensures ∙ value-string c.args.depth _ (tokens_left c.text.new.self), refl)

pub field-returns-in_ok-truth-in-116-clause-read : goal.field-returns-in_ok-truth-in-116-clause-read
field-returns-in_ok-truth-in-116-clause-read t c =
    (boolean _, ap (λ ts. converted of_json (value c.args.depth ts)) c.in_ok-truth-in-116.ensures ∙ value-boolean c.args.depth _ (tokens_left c.truth.new.self), c.of_bool.ensures)

pub field-returns-in_ok-null-in-110-clause-read : goal.field-returns-in_ok-null-in-110-clause-read
field-returns-in_ok-null-in-110-clause-read t c =
    (null, ap (λ ts. converted of_json (value c.args.depth ts)) c.in_ok-null-in-110.ensures ∙ value-null c.args.depth (tokens_left c.null.new.self), refl)

pub field-returns-in_ok-whole-in_default-clause-read : goal.field-returns-in_ok-whole-in_default-clause-read
field-returns-in_ok-whole-in_default-clause-read t c =
    let read = c.in_ok-whole-in_default.ensures in
    let n = c.in_ok-whole-in_default.field-0 in
    (number (unsigned n), ap (λ ts. converted of_json (value c.args.depth ts)) read.1 ∙ value-number c.args.depth read.0 n (tokens_left c.whole.new.self) read.2, refl)

pub pass_array-items-init : goal.pass_array-items-init
pass_array-items-init t c = ((λ a. a), items_none (c.args.depth - 1) (tokens_left c.open_array.new.self))

pub pass_array-items-preserved : goal.pass_array-items-preserved
pass_array-items-preserved t c =
    let i = c.items.invariant in
    let found = c.in_ok-field.ensures in
    let same : tokens_left c.close_array.new.self ≡ tokens_left c.items.scanner = grind arith in
    let start = tokens_left c.open_array.new.self in
    ((λ a. i.0 (item found.read.0 a)), items_one_more (c.args.depth - 1) start (tokens_left c.items.scanner) (tokens_left c.field.new.scanner) found.read.0 i.0 i.1 (rw same at found.read.1) (rw same at found.shorter))

pub pass_array-returns-clause-read : goal.pass_array-returns-clause-read
pass_array-returns-clause-read t c =
    let i = c.items.invariant in
    let deep : 0 < c.args.depth = omega arith in
    let over : after_end_array (tokens_left c.items.scanner) ≡ Some (tokens_left c.close_array.new.self) = grind arith in
    let start = tokens_left c.open_array.new.self in
    let all = items_all (c.args.depth - 1) start (tokens_left c.items.scanner) (tokens_left c.close_array.new.self) i.0 i.1 over in
    (array (i.0 no_items), ap (λ ts. converted of_json (value c.args.depth ts)) c.in_ok-open_array.ensures ∙ array_value c.args.depth start (tokens_left c.close_array.new.self) (i.0 no_items) deep all, refl)

pub pass_object-members-init : goal.pass_object-members-init
pass_object-members-init t c = (no_members, read_none (c.args.depth - 1) (tokens_left c.open_object.new.self))

pub pass_object-members-preserved : goal.pass_object-members-preserved
pass_object-members-preserved t c =
    let i = c.members.invariant in
    let k = key_text c.in-Some.field-0 in
    let found = c.in_ok-field.ensures in
    let named : read_key (tokens_left c.members.scanner) ≡ Some (Some k, tokens_left c.key.new.self) = grind arith in
    (put k found.read.0 i.0, read_more (c.args.depth - 1) (tokens_left c.open_object.new.self) (tokens_left c.members.scanner) (tokens_left c.key.new.self) (tokens_left c.field.new.scanner) k found.read.0 i.0 i.1 named c.in_ok-key.ensures.shorter found.read.1 found.shorter)

pub pass_object-returns-clause-read : goal.pass_object-returns-clause-read
pass_object-returns-clause-read t c =
    let i = c.members.invariant in
    let deep : 0 < c.args.depth = omega arith in
    let over : read_key (tokens_left c.members.scanner) ≡ Some (None, tokens_left c.key.new.self) = grind arith in
    let start = tokens_left c.open_object.new.self in
    let all = read_all (c.args.depth - 1) start (tokens_left c.members.scanner) (tokens_left c.key.new.self) i.0 i.1 over in
    (object i.0, ap (λ ts. converted of_json (value c.args.depth ts)) c.in_ok-open_object.ensures ∙ object_value c.args.depth start (tokens_left c.key.new.self) i.0 deep all, refl)
