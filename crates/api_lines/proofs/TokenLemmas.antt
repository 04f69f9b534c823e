-- What tokens spell, a turn at a time: numbers, items and members.
use Rattle.std.proofs.Common.{◌≡◌, ℕ, ◌<◌, ◌≤◌, ◌-◌, ◌^◌, ◌++◌, List, [], ◌∷◌, length, get_or, Bool, true, false, Option, Some, None, option_map, option_and_then, Result, Ok, Err, IfSome, OnSome, ◌≢◌, slice_index, refl, sym, ap, subst, ◌∙◌, arith, append-nil, lt-ltb, ne_eqb}
use Rattle.std.specs.Char.{digit_value}
use Rattle.std.specs.Str.Parse.{AllDigits, IsNumeral, digits_value, without_leading_plus, ParsesUnsigned}
use Rattle.std.specs.Result.{result_ok}
use Rattle.fast_float.specs.Text.{Parts, IsWellFormed, text_of, digits_of}
use Rattle.fast_float.proofs.Writing.{scan-text_of}
use Rattle.json.specs.Token.{Token}
use Rattle.json.specs.Lex.{tokens}
use Rattle.json.specs.Json as json
use Rattle.json.specs.Json.{Parse, parse_map, after_end_array, read_key, items, members, value, if_last}
use Rattle.json.proofs.Grammar.{value_is, value-begin_array, value-begin_object, items_end, items_more, members_end, members_more}
use Rattle.serde_json.specs.Data.{Data, null, boolean, number, string, array, object, Items, no_items, item, Members, no_members, put, unsigned}
use Rattle.serde_json.specs.Read.{converted, of_json, of_items, of_members, number_of, number_from, is_integer, read}
use Rattle.api_lines.specs.aids.Tokens.{BeginsWithItems, BeginsWithMembers, BeginsWithValue}

-- ---- what was converted

abbrev pick : {A : Type 0} → A → Option A → A
pick d None = d
pick d (Some a) = a

found : {A B : Type 0} (a : A) (r s : List Token) (x : Option B) (b : B) → option_map {U = B × List Token} (λ y. (y, r)) x ≡ Some (b, s) → (r ≡ s) × (x ≡ Some b)
found a r s None b e = absurd (cc)
found a r s (Some y) b e = let same = ap (pick (y, r)) e in (ap (λ p. p.1) same, ap (λ p. Some p.0) same)

converted_some : {A B : Type 0} (f : A → Option B) (o : Option (A × List Token)) (b : B) (r : List Token) → converted f o ≡ Some (b, r) → (a : A) × (o ≡ Some (a, r)) × (f a ≡ Some b)
converted_some f None b r e = absurd (cc)
converted_some f (Some p) b r e = let both = found p.0 p.1 r (f p.0) b e in (p.0, ap (λ s. Some (p.0, s)) both.0, both.1)

pub OnSome-map : {A : Type 0} (P Q : Type 0) (o : Option A) → (P → Q) → OnSome o P → OnSome o Q
OnSome-map P Q None f h = tt
OnSome-map P Q (Some a) f h = f h

-- ---- one token

pub value-string : (d : ℕ) (s : List ℕ) (ts : List Token) → converted of_json (value d (Token.string s ∷ ts)) ≡ Some (string s, ts)
value-string d s ts = ap (converted of_json) (value_is d (Token.string s ∷ ts))

pub value-boolean : (d : ℕ) (b : Bool) (ts : List Token) → converted of_json (value d (Token.boolean b ∷ ts)) ≡ Some (boolean b, ts)
value-boolean d b ts = ap (converted of_json) (value_is d (Token.boolean b ∷ ts))

pub value-null : (d : ℕ) (ts : List Token) → converted of_json (value d (Token.null ∷ ts)) ≡ Some (null, ts)
value-null d ts = ap (converted of_json) (value_is d (Token.null ∷ ts))

pub value-number : (d : ℕ) (s : List ℕ) (n : ℕ) (ts : List Token) → number_of s ≡ Some (unsigned n) → converted of_json (value d (Token.number s ∷ ts)) ≡ Some (number (unsigned n), ts)
value-number d s n ts e = ap (converted of_json) (value_is d (Token.number s ∷ ts)) ∙ ap (λ o. converted {A = json.Json} of_json (Some (json.number s, ts))) e ∙ rw e

-- ---- digits alone

no_minus : (ds rest : List ℕ) → AllDigits 10 ds → 0 < length ds → get_or (ds ++ rest) 0 0 ≡ 45 → ⊥
no_minus [] rest h some e = omega arith
no_minus (d ∷ ds) rest h some e = let digit : digit_value d < 10 = h.0 in let is : d ≡ 45 = e in grind arith

abbrev digits : List ℕ → Parts
digits ds = record { whole = ds; point = false; fraction = []; exponent_negative = false; exponent = []; len = length (ds ++ []) }

number_of-text_of : (p : Parts) → IsWellFormed p → 0 < length p.whole → number_of (text_of p) ≡ number_from false p
unfolding number_of
number_of-text_of p h some = rw (ne_eqb (get_or (text_of p) 0 0) 45 (no_minus p.whole _ h.whole_digits some)) (ap (number_from false) (scan-text_of p h))

pub number_of-digits : (ds : List ℕ) → IsNumeral 10 ds → digits_value 10 ds < 2 ^ 64 → number_of ds ≡ Some (unsigned (digits_value 10 ds))
number_of-digits ds h fits =
    let formed : IsWellFormed (digits ds) = record { whole_digits = h.1; fraction_digits = tt; exponent_digits = tt; no_point = λ _. refl; no_exponent = λ _. refl; len_is = refl } in
    let whole : is_integer (digits ds) ≡ true = rw (lt-ltb _ _ h.0) in
    let same : digits_of (digits ds) ≡ digits_value 10 ds = ap (digits_value 10) (append-nil ds) in
    ap number_of (sym (append-nil ds)) ∙ number_of-text_of (digits ds) formed h.0 ∙ rw (whole, same) (rw (lt-ltb _ _ fits))

pub parsed : {E : Type 0} (bs : List ℕ) (r : Result ℕ E) (o : Option ℕ) → slice_index bs 0 ≢ 43 → ParsesUnsigned 64 10 bs r → o ≡ result_ok r → IfSome o (λ n. number_of bs ≡ Some (unsigned n))
parsed bs (Ok n) o not_plus h e =
    let same : without_leading_plus bs ≡ bs = rw (ne_eqb (slice_index bs 0) 43 not_plus) in
    let P : Option ℕ → Type 0 = λ o. IfSome o (λ n. number_of bs ≡ Some (unsigned n)) in
    let fits : digits_value 10 bs < 2 ^ 64 = rw same at h.0.1 in
    subst P (sym e) (number_of-digits bs (subst (IsNumeral 10) same h.0.0) fits ∙ ap (λ m. Some (unsigned m)) (sym (h.1 ∙ ap (digits_value 10) same)))
parsed bs (Err x) o not_plus h e = let P : Option ℕ → Type 0 = λ o. IfSome o (λ n. number_of bs ≡ Some (unsigned n)) in subst P (sym e) tt

-- ---- members

with_member : (k : List ℕ) (j : json.Json) (d : Data) (old : Members) → of_json j ≡ Some d → (o : Option (json.Members × List Token))
    → converted (λ ms. of_members ms old) (parse_map (json.member k j) o) ≡ converted (λ ms. of_members ms (put k d old)) o
with_member k j d old e None = refl
with_member k j d old e (Some p) = rw e

module _ (p : Parse json.Json) (old : Members) where
  pub member_read : (n : ℕ) (k : List ℕ) (ts s r : List Token) (d : Data) → 0 < n → read_key ts ≡ Some (Some k, s) → converted of_json (p s) ≡ Some (d, r)
      → converted (λ ms. of_members ms old) (members p n ts) ≡ converted (λ ms. of_members ms (put k d old)) (members p (n - 1) r)
  member_read n k ts s r d some key e =
      let j = converted_some of_json (p s) d r e in
      ap (converted (λ ms. of_members ms old)) (members_more p n k ts s r j.0 some key j.1) ∙ with_member k j.0 d old j.2 _

  pub members_over : (n : ℕ) (ts r : List Token) → length ts ≤ n → read_key ts ≡ Some (None, r) → converted (λ ms. of_members ms old) (members p n ts) ≡ Some (old, r)
  members_over n ts r enough e = ap (converted (λ ms. of_members ms old)) (members_end p n ts r enough e)

  -- one turn of the loop over the members
  pub turn : (n : ℕ) (k : List ℕ) (ts s r : List Token) (d : Data) (all : Option (Members × List Token)) → length ts ≤ n → all ≡ converted (λ ms. of_members ms old) (members p n ts)
      → read_key ts ≡ Some (Some k, s) → length s < length ts → converted of_json (p s) ≡ Some (d, r) → length r < length s
      → (length r ≤ n - 1) × (all ≡ converted (λ ms. of_members ms (put k d old)) (members p (n - 1) r))
  turn n k ts s r d all enough so_far key less e lesser = (omega arith, so_far ∙ member_read n k ts s r d (omega arith) key e)

-- The members from the start up to these tokens are read: those that are kept.
pub record IsReadUpTo (depth : ℕ) (start ts : List Token) (old : Members) : Type 0 where
  pub turns : ℕ
  pub enough : length ts ≤ turns
  pub so_far : converted (λ ms. of_members ms no_members) (members (value depth) (length start) start) ≡ converted (λ ms. of_members ms old) (members (value depth) turns ts)
  pub within : length ts ≤ length start

module _ (depth : ℕ) (start : List Token) where
  pub read_none : IsReadUpTo depth start start no_members
  read_none = record { turns = length start; enough = omega arith; so_far = refl; within = omega arith }

  pub read_more : (ts s r : List Token) (k : List ℕ) (d : Data) (old : Members) → IsReadUpTo depth start ts old → read_key ts ≡ Some (Some k, s) → length s < length ts
      → BeginsWithValue depth s d r → length r < length s → IsReadUpTo depth start r (put k d old)
  read_more ts s r k d old read named less found lesser =
      let step = turn (value depth) old read.turns k ts s r d _ read.enough read.so_far named less found lesser in
      record { turns = read.turns - 1; enough = step.0; so_far = step.1; within = omega (arith, less, lesser, read.within) }

  pub read_all : (ts r : List Token) (old : Members) → IsReadUpTo depth start ts old → read_key ts ≡ Some (None, r) → BeginsWithMembers depth start old r
  read_all ts r old read over = read.so_far ∙ members_over (value depth) old read.turns ts r read.enough over

-- ---- items

twice : {A B : Type 0} (g : A → B) (r : List Token) (x : Option A) → option_map (λ b. (b, r)) (option_map g x) ≡ parse_map g (option_map (λ a. (a, r)) x)
twice g r None = refl
twice g r (Some a) = refl

pub converted-array : (o : Option (json.Items × List Token)) → converted of_json (parse_map json.array o) ≡ parse_map array (converted of_items o)
converted-array None = refl
converted-array (Some p) = twice array p.1 (of_items p.0)

pub none_before : (r : Option (Items × List Token)) → r ≡ parse_map (λ a. a) r
none_before None = refl
none_before (Some p) = refl

pub both_before : (f g : Items → Items) (r : Option (Items × List Token)) → parse_map f (parse_map g r) ≡ parse_map (λ a. f (g a)) r
both_before f g None = refl
both_before f g (Some p) = refl

with_item : (j : json.Json) (d : Data) → of_json j ≡ Some d → (o : Option (json.Items × List Token)) → converted of_items (parse_map (json.item j) o) ≡ parse_map (item d) (converted of_items o)
with_item j d e None = refl
with_item j d e (Some p) = rw e (twice (item d) p.1 (of_items p.0))

pub item_turn : (p : Parse json.Json) (f : Items → Items) (n : ℕ) (ts r : List Token) (d : Data) (all : Option (Items × List Token)) → length ts ≤ n → all ≡ parse_map f (converted of_items (items p n ts))
    → after_end_array ts ≡ None → converted of_json (p ts) ≡ Some (d, r) → length r < length ts
    → (length r ≤ n - 1) × (all ≡ parse_map (λ a. f (item d a)) (converted of_items (items p (n - 1) r)))
item_turn p f n ts r d all enough so_far going e less =
    let j = converted_some of_json (p ts) d r e in
    (omega arith, so_far ∙ ap (parse_map f) (ap (converted of_items) (items_more p n ts r j.0 (omega arith) going j.1) ∙ with_item j.0 d j.2 _) ∙ both_before f (item d) _)

pub items_over : (p : Parse json.Json) (n : ℕ) (ts r : List Token) → length ts ≤ n → after_end_array ts ≡ Some r → converted of_items (items p n ts) ≡ Some (no_items, r)
items_over p n ts r enough e = ap (converted of_items) (items_end p n ts r enough e)

-- The items from the start up to these tokens are read: those that stand before the others.
pub record AreItemsUpTo (depth : ℕ) (start ts : List Token) (before : Items → Items) : Type 0 where
  pub turns : ℕ
  pub enough : length ts ≤ turns
  pub so_far : converted of_items (items (value depth) (length start) start) ≡ parse_map before (converted of_items (items (value depth) turns ts))
  pub within : length ts ≤ length start

-- a value is next, and no bracket that closes an array
value_begins : (depth : ℕ) (ts r : List Token) (d : Data) → BeginsWithValue depth ts d r → after_end_array ts ≡ None
value_begins depth [] r d e = refl
value_begins depth (Token.begin_object ∷ ts) r d e = refl
value_begins depth (Token.end_object ∷ ts) r d e = refl
value_begins depth (Token.begin_array ∷ ts) r d e = refl
value_begins depth (Token.end_array ∷ ts) r d e = let none = ap (converted of_json) (value_is depth (Token.end_array ∷ ts)) in absurd (cc)
value_begins depth (Token.key s ∷ ts) r d e = refl
value_begins depth (Token.string s ∷ ts) r d e = refl
value_begins depth (Token.number s ∷ ts) r d e = refl
value_begins depth (Token.boolean b ∷ ts) r d e = refl
value_begins depth (Token.null ∷ ts) r d e = refl
value_begins depth (Token.bad ∷ ts) r d e = refl

module _ (depth : ℕ) (start : List Token) where
  pub items_none : AreItemsUpTo depth start start (λ a. a)
  items_none = record { turns = length start; enough = omega arith; so_far = none_before _; within = omega arith }

  pub items_one_more : (ts r : List Token) (d : Data) (before : Items → Items) → AreItemsUpTo depth start ts before → BeginsWithValue depth ts d r → length r < length ts
      → AreItemsUpTo depth start r (λ a. before (item d a))
  items_one_more ts r d before read found less =
      let step = item_turn (value depth) before read.turns ts r d _ read.enough read.so_far (value_begins depth ts r d found) found less in
      record { turns = read.turns - 1; enough = step.0; so_far = step.1; within = omega (arith, less, read.within) }

  pub items_all : (ts r : List Token) (before : Items → Items) → AreItemsUpTo depth start ts before → after_end_array ts ≡ Some r → BeginsWithItems depth start (before no_items) r
  items_all ts r before read over = read.so_far ∙ ap (parse_map before) (items_over (value depth) read.turns ts r read.enough over)

-- ---- the whole text

pub converted-object : (o : Option (json.Members × List Token)) → converted of_json (parse_map json.object o) ≡ parse_map object (converted (λ ms. of_members ms no_members) o)
converted-object None = refl
converted-object (Some p) = twice object p.1 (of_members p.0 no_members)

abbrev whole : Option (json.Json × List Token) → Option Data
whole o = option_and_then of_json (option_and_then (λ p. if_last p.0 p.1) o)

whole_read : (o : Option (json.Json × List Token)) (d : Data) → converted of_json o ≡ Some (d, []) → whole o ≡ Some d
whole_read o d e = let j = converted_some of_json o d [] e in ap whole j.1 ∙ j.2

pub object_read : (text : List ℕ) (ts : List Token) (ms : Members) → tokens text ≡ Token.begin_object ∷ ts → converted (λ ms. of_members ms no_members) (members (value 126) (length ts) ts) ≡ Some (ms, []) → read text ≡ Some (object ms)
object_read text ts ms e inner =
    whole_read (value 127 (tokens text)) (object ms)
    (ap (λ l. converted of_json (value 127 l)) e ∙ ap (converted of_json) (value-begin_object 127 ts (omega arith)) ∙ converted-object (members (value 126) (length ts) ts) ∙ ap (parse_map object) inner)

pub array_value : (d : ℕ) (ts r : List Token) (ds : Items) → 0 < d → converted of_items (items (value (d - 1)) (length ts) ts) ≡ Some (ds, r) → converted of_json (value d (Token.begin_array ∷ ts)) ≡ Some (array ds, r)
array_value d ts r ds deep e = ap (converted of_json) (value-begin_array d ts deep) ∙ converted-array (items (value (d - 1)) (length ts) ts) ∙ ap (parse_map array) e

pub object_value : (d : ℕ) (ts r : List Token) (ms : Members) → 0 < d → converted (λ ms. of_members ms no_members) (members (value (d - 1)) (length ts) ts) ≡ Some (ms, r) → converted of_json (value d (Token.begin_object ∷ ts)) ≡ Some (object ms, r)
object_value d ts r ms deep e = ap (converted of_json) (value-begin_object d ts deep) ∙ converted-object (members (value (d - 1)) (length ts) ts) ∙ ap (parse_map object) e
