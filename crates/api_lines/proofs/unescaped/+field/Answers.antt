use Rattle.std.proofs.Common.{◌≡◌, ◌<◌, ◌∙◌, ◌∷◌, ap, refl, arith, Some, None}
use Rattle.json.specs.Json.{value, read_key, after_end_array}
use Rattle.json.specs.Reads.{token_of}
use Rattle.serde_json.specs.Data.{array, boolean, item, no_items, no_members, null, number, object, put, string, unsigned}
use Rattle.serde_json.specs.Read.{converted, of_json}
use Rattle.api_lines.specs.aids.Keys.{key_text}
use Rattle.api_lines.proofs.TokenLemmas.{array_value, items_all, items_none, items_one_more, object_value, read_all, read_more, read_none, value-boolean, value-null, value-number, value-string}
use Rattle.api_lines.proofs.unescaped.+field.Goals as goal

pub pass_items-items-init : goal.pass_items-items-init
pass_items-items-init t c = ((λ a. a), items_none c.args.depth c.args.reader.now)

pub pass_items-items-preserved : goal.pass_items-items-preserved
pass_items-items-preserved t c =
    let i = c.items.invariant in
    let going : c.take_end_array.new.self ≡ c.items.reader = grind arith in
    let found = c.in_ok-field.ensures in
    let read = rw going at found.read.1 in
    ((λ a. i.0 (item found.read.0 a)), items_one_more c.args.depth c.args.reader.now c.items.reader c.field.new.reader found.read.0 i.0 i.1 read (rw going at found.shorter))

pub pass_items-returns-clause-read : goal.pass_items-returns-clause-read
pass_items-returns-clause-read t c =
    let i = c.items.invariant in
    let over : after_end_array c.items.reader ≡ Some c.take_end_array.new.self = grind arith in
    (i.0 no_items, items_all c.args.depth c.args.reader.now c.items.reader c.take_end_array.new.self i.0 i.1 over)

pub pass_members-members-init : goal.pass_members-members-init
pass_members-members-init t c = (no_members, read_none c.args.depth c.args.reader.now)

pub pass_members-members-preserved : goal.pass_members-members-preserved
pass_members-members-preserved t c =
    let i = c.members.invariant in
    let k = key_text c.in-Some.field-0 in
    let found = c.in_ok-field.ensures in
    let named : read_key c.members.reader ≡ Some (Some k, c.key.new.reader) = grind arith in
    (put k found.read.0 i.0, read_more c.args.depth c.args.reader.now c.members.reader c.key.new.reader c.field.new.reader k found.read.0 i.0 i.1 named c.in_ok-key.ensures.shorter found.read.1 found.shorter)

pub pass_members-returns-clause-read : goal.pass_members-returns-clause-read
pass_members-returns-clause-read t c =
    let i = c.members.invariant in
    let over : read_key c.members.reader ≡ Some (None, c.key.new.reader) = grind arith in
    (i.0, read_all c.args.depth c.args.reader.now c.members.reader c.key.new.reader i.0 i.1 over)

pub field-returns-in-String-clause-read : goal.field-returns-in-String-clause-read
field-returns-in-String-clause-read t c = (string _, ap (λ ts. converted of_json (value c.args.depth ts)) (c.in_ok-text.ensures.value ∙ ap (λ t. token_of t ∷ c.next.new.self) c.in-String.is) ∙ value-string c.args.depth _ c.next.new.self, refl)

pub field-returns-in-Bool-clause-read : goal.field-returns-in-Bool-clause-read
field-returns-in-Bool-clause-read t c = (boolean _, ap (λ ts. converted of_json (value c.args.depth ts)) (c.in_ok-text.ensures.value ∙ ap (λ t. token_of t ∷ c.next.new.self) c.in-Bool.is) ∙ value-boolean c.args.depth _ c.next.new.self, c.of_bool.ensures)

pub field-returns-in-Null-clause-read : goal.field-returns-in-Null-clause-read
field-returns-in-Null-clause-read t c = (null, ap (λ ts. converted of_json (value c.args.depth ts)) (c.in_ok-text.ensures.value ∙ ap (λ t. token_of t ∷ c.next.new.self) c.in-Null.is) ∙ value-null c.args.depth c.next.new.self, refl)

pub field-returns-in_ok-whole-in-Number-clause-read : goal.field-returns-in_ok-whole-in-Number-clause-read
field-returns-in_ok-whole-in-Number-clause-read t c =
    let n = c.in_ok-whole-in-Number.field-0 in
    (number (unsigned n), ap (λ ts. converted of_json (value c.args.depth ts)) (c.in_ok-text.ensures.value ∙ ap (λ t. token_of t ∷ c.next.new.self) c.in-Number.is) ∙ value-number c.args.depth c.in-Number.text.now n c.next.new.self c.in_ok-whole-in-Number.ensures, refl)

pub field-returns-in_ok-pass_items-in-BeginArray-clause-read : goal.field-returns-in_ok-pass_items-in-BeginArray-clause-read
field-returns-in_ok-pass_items-in-BeginArray-clause-read t c =
    let first = c.in_ok-text.ensures.value ∙ ap (λ t. token_of t ∷ c.next.new.self) c.in-BeginArray.is in
    let found = c.in_ok-pass_items-in-BeginArray.ensures.read in
    let deep : 0 < c.args.depth = omega arith in
    (array found.0, ap (λ ts. converted of_json (value c.args.depth ts)) first ∙ array_value c.args.depth c.next.new.self c.pass_items.new.reader found.0 deep found.1, refl)

pub field-returns-in_ok-pass_members-in-BeginObject-clause-read : goal.field-returns-in_ok-pass_members-in-BeginObject-clause-read
field-returns-in_ok-pass_members-in-BeginObject-clause-read t c =
    let first = c.in_ok-text.ensures.value ∙ ap (λ t. token_of t ∷ c.next.new.self) c.in-BeginObject.is in
    let found = c.in_ok-pass_members-in-BeginObject.ensures.read in
    let deep : 0 < c.args.depth = omega arith in
    (object found.0, ap (λ ts. converted of_json (value c.args.depth ts)) first ∙ object_value c.args.depth c.next.new.self c.pass_members.new.reader found.0 deep found.1, refl)
