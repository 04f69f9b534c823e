-- What a line says by itself: the function that reads it gives what the line spells, and nothing else.
use Rattle.std.proofs.Common.{ℕ, ◌≡◌, ◌<◌, ◌≤◌, ◌^◌, List, length, refl, sym, ap, subst, ◌∙◌, arith, Bool, true, false, Option, Some, None, ◌⊎◌, inl, inr, Result, Ok, Err}
use Rattle.std.specs.Prelude.{codes, if◌then◌else◌, nat_le, nat_lt}
use Rattle.std.specs.Str.{bytes_eq}
use Rattle.std.specs.Cmp.Lexicographic.{bytes_decides}
use Rattle.std.proofs.lemmas.Bool.{le-leb, leb-true, lt-ltb, ltb-true}
use Rattle.version_pair.specs.Id.{IsIdLength, longest_id}
use Rattle.version_pair.specs.declared.pair.Pair.{Pair}
use Rattle.doc_register.specs.declared.op.Op.{Op}
use Rattle.doc_register.specs.declared.op.Op.TheVariants.{Get, Index, Delete, Create}
use Rattle.serde_json.specs.Data.{Data}
use Rattle.api_lines.specs.Fields.{LineValues, line_values}
use Rattle.version_pair.specs.Shards.{most_shards}
use Rattle.api_lines.specs.HistoryLines.{below_limit, call_parsed, create_numbers, delete_numbers, index_numbers, line_parsed, lost_parsed, op_numbers, op_parsed, reply_parsed, shard_parsed, status_parsed}
use Rattle.api_lines.specs.Ids.{id_parsed, is_id}
use Rattle.api_lines.specs.Json.{FieldValue, absent, whole, not_whole, text, truth, other}
use Rattle.api_lines.specs.Kinds.{optional_number, required_number, required_text}
use Rattle.api_lines.specs.Pairs.{in_range, pair_of, pair_parsed, whole_parsed}
use Rattle.api_lines.specs.declared.history_line.OpNumbers.{OpNumbers}
use Rattle.api_lines.specs.declared.history_line.OpNumbers.TheVariants as numbers
use Rattle.api_lines.specs.declared.history_line.LineSaid.{LineSaid}
use Rattle.api_lines.specs.declared.history_line.LineSaid.TheVariants as said
use Rattle.api_lines.specs.declared.number.Number.{Number}
use Rattle.api_lines.specs.declared.number.Number.TheVariants.{Whole, NotWhole}
use Rattle.api_lines.specs.declared.text_fault.TextCause.{TextCause}
use Rattle.api_lines.specs.declared.text_fault.TextCause.TheVariants.{Id, Range, Shape}
use Rattle.api_lines.proofs.PairLemmas.{pair_of-numbers, pair_of-some}
use Rattle.api_lines.proofs.ReadingLemmas.{first_ok}
use Rattle.history.specs.Text.{SpellsCall, SpellsCondition, SpellsOp}
use Rattle.version_pair.proofs.TruthLemmas.{both}

abbrev pub ok_of : {X : Type 0} → X → Result X TextCause
ok_of x = Ok x

pub same_ok : {X : Type 0} (x y : X) → ok_of x ≡ ok_of y → x ≡ y
same_ok x y is = cc

-- ---- fields that were read

number_read : (f : FieldValue) (x : Number) (n : ℕ) → required_number f ≡ Ok x → whole_parsed x ≡ Ok n → f ≡ whole n
number_read absent x n a b = absurd (cc)
number_read (whole m) (Whole k) n a b = cc
number_read (whole m) NotWhole n a b = absurd (cc)
number_read not_whole (Whole k) n a b = absurd (cc)
number_read not_whole NotWhole n a b = absurd (cc)
number_read (text t) x n a b = absurd (cc)
number_read (truth t) x n a b = absurd (cc)
number_read other x n a b = absurd (cc)

pub text_read : (f : FieldValue) (t : List ℕ) → required_text f ≡ Ok t → f ≡ text t
text_read absent t a = absurd (cc)
text_read (whole m) t a = absurd (cc)
text_read not_whole t a = absurd (cc)
text_read (text s) t a = cc
text_read (truth b) t a = absurd (cc)
text_read other t a = absurd (cc)

-- ---- conditions

-- the two fields say the condition, or none
Conditions : FieldValue → FieldValue → Option Pair → Type 0
Conditions seq term None = (seq ≡ absent) × (term ≡ absent)
Conditions seq term (Some p) = (seq ≡ whole p.seq) × (term ≡ whole p.term)

in_range_made : (o c : Option Pair) → in_range o ≡ Ok c → (p : Pair) × (o ≡ Some p) × (c ≡ Some p)
in_range_made None c is = absurd (cc)
in_range_made (Some p) c is = (p, refl, cc)

none_read : (f : FieldValue) → optional_number f ≡ Ok None → f ≡ absent
none_read absent is = refl
none_read (whole m) is = absurd (cc)
none_read not_whole is = absurd (cc)
none_read (text s) is = absurd (cc)
none_read (truth b) is = absurd (cc)
none_read other is = absurd (cc)

none_reported : (c : Option Pair) → pair_parsed None None ≡ Ok c → None ≡ c
none_reported c reported = cc

condition_read : (f g : FieldValue) (a b : Option Number) (c : Option Pair) → optional_number f ≡ Ok a → optional_number g ≡ Ok b → pair_parsed a b ≡ Ok c
    → Conditions f g c
unfolding Conditions
condition_read f g None None c x y reported = subst (Conditions f g) (none_reported c reported) (none_read f x, none_read g y)
condition_read f g None (Some t) c x y reported = absurd (cc)
condition_read f g (Some s) None c x y reported = absurd (cc)
condition_read f g (Some NotWhole) (Some t) c x y reported = absurd (cc)
condition_read f g (Some (Whole s)) (Some NotWhole) c x y reported = absurd (cc)
condition_read f g (Some (Whole s)) (Some (Whole t)) c x y reported =
    let made = in_range_made (pair_of t s) c reported in
    let numbers = pair_of-numbers t s made.0 made.1 in
    let fs : f ≡ whole s = number_of f s x in
    let gt : g ≡ whole t = number_of g t y in
    subst (Conditions f g) (sym made.2) (fs ∙ ap (λ k. whole k) (sym numbers.1), gt ∙ ap (λ k. whole k) (sym numbers.0)) where
      number_of : (h : FieldValue) (n : ℕ) → optional_number h ≡ Ok (Some (Whole n)) → h ≡ whole n
      number_of absent n is = absurd (cc)
      number_of (whole m) n is = cc
      number_of not_whole n is = absurd (cc)
      number_of (text t) n is = absurd (cc)
      number_of (truth t) n is = absurd (cc)
      number_of other n is = absurd (cc)

condition_said : (f g : FieldValue) (c : Option Pair) → Conditions f g c
    → (a b : Option Number) × (optional_number f ≡ Ok a) × (optional_number g ≡ Ok b) × (pair_parsed a b ≡ Ok c)
unfolding Conditions
condition_said f g None is = (None, None, ap optional_number is.0, ap optional_number is.1, refl)
condition_said f g (Some p) is =
    (Some (Whole p.seq), Some (Whole p.term), ap optional_number is.0, ap optional_number is.1, ap in_range (pair_of-some p))

-- ---- operations

-- the fields say the operation
Says : LineValues → Op → Type 0
Says l Get = l.op ≡ text (codes "get")
Says l (Index k c) = (l.op ≡ text (codes "index")) × (l.k ≡ whole k) × Conditions l.if_seq_no l.if_primary_term c
Says l (Delete c) = (l.op ≡ text (codes "delete")) × Conditions l.if_seq_no l.if_primary_term c
Says l (Create k) = (l.op ≡ text (codes "create")) × (l.k ≡ whole k)

op_said : (l : LineValues) (op : Op) → Says l op → (ns : OpNumbers) × (op_numbers l ≡ Ok ns) × (op_parsed ns ≡ Ok op)
unfolding Says
op_said l Get is = (numbers.Get, rw is refl, refl)
op_said l (Index k c) is =
    let read = condition_said l.if_seq_no l.if_primary_term c is.2 in
    let seq : optional_number l.if_seq_no ≡ Ok read.0 = read.2 in
    let term : optional_number l.if_primary_term ≡ Ok read.1 = read.3 in
    let reported : pair_parsed read.0 read.1 ≡ Ok c = read.4 in
    (numbers.Index (Whole k) read.0 read.1, rw (is.0, is.1, seq, term) refl, rw reported refl)
op_said l (Delete c) is =
    let read = condition_said l.if_seq_no l.if_primary_term c is.1 in
    let seq : optional_number l.if_seq_no ≡ Ok read.0 = read.2 in
    let term : optional_number l.if_primary_term ≡ Ok read.1 = read.3 in
    let reported : pair_parsed read.0 read.1 ≡ Ok c = read.4 in
    (numbers.Delete read.0 read.1, rw (is.0, seq, term) refl, rw reported refl)
op_said l (Create k) is = (numbers.Create (Whole k), rw (is.0, is.1) refl, refl)

-- the name in the test, or the test goes on
pub named : {X : Type 0} (name word : List ℕ) (r s : Result X TextCause) (x : X) → (if bytes_eq name word then r else s) ≡ Ok x
    → ((name ≡ word) × (r ≡ Ok x)) ⊎ (s ≡ Ok x)
named name word r s x is = by_test (bytes_eq name word) refl is where
  by_test : (b : Bool) → bytes_eq name word ≡ b → (if b then r else s) ≡ Ok x → ((name ≡ word) × (r ≡ Ok x)) ⊎ (s ≡ Ok x)
  by_test true same is = inl ((bytes_decides name word).0 same, is)
  by_test false same is = inr is

index_read : (l : LineValues) (ns : OpNumbers) (op : Op) → l.op ≡ text (codes "index") → index_numbers l ≡ Ok ns → op_parsed ns ≡ Ok op → Says l op
unfolding Says
index_read l ns op name read reported =
    let k = first_ok (required_number l.k) _ ns read in
    let seq = first_ok (optional_number l.if_seq_no) _ ns k.2 in
    let term = first_ok (optional_number l.if_primary_term) _ ns seq.2 in
    let is : numbers.Index k.0 seq.0 term.0 ≡ ns = same_ok (numbers.Index k.0 seq.0 term.0) ns (term.2) in
    let cond = first_ok (pair_parsed seq.0 term.0) _ op (subst (λ m. op_parsed m ≡ Ok op) (sym is) reported) in
    let n = first_ok (whole_parsed k.0) _ op cond.2 in
    let made : Index n.0 cond.0 ≡ op = same_ok (Index n.0 cond.0) op (n.2) in
    subst (Says l) made (name, number_read l.k k.0 n.0 k.1 n.1, condition_read l.if_seq_no l.if_primary_term seq.0 term.0 cond.0 seq.1 term.1 cond.1)

delete_read : (l : LineValues) (ns : OpNumbers) (op : Op) → l.op ≡ text (codes "delete") → delete_numbers l ≡ Ok ns → op_parsed ns ≡ Ok op → Says l op
unfolding Says
delete_read l ns op name read reported =
    let seq = first_ok (optional_number l.if_seq_no) _ ns read in
    let term = first_ok (optional_number l.if_primary_term) _ ns seq.2 in
    let is : numbers.Delete seq.0 term.0 ≡ ns = same_ok (numbers.Delete seq.0 term.0) ns (term.2) in
    let cond = first_ok (pair_parsed seq.0 term.0) _ op (subst (λ m. op_parsed m ≡ Ok op) (sym is) reported) in
    let made : Delete cond.0 ≡ op = same_ok (Delete cond.0) op (cond.2) in
    subst (Says l) made (name, condition_read l.if_seq_no l.if_primary_term seq.0 term.0 cond.0 seq.1 term.1 cond.1)

create_read : (l : LineValues) (ns : OpNumbers) (op : Op) → l.op ≡ text (codes "create") → create_numbers l ≡ Ok ns → op_parsed ns ≡ Ok op → Says l op
unfolding Says
create_read l ns op name read reported =
    let k = first_ok (required_number l.k) _ ns read in
    let is : numbers.Create k.0 ≡ ns = same_ok (numbers.Create k.0) ns (k.2) in
    let n = first_ok (whole_parsed k.0) _ op (subst (λ m. op_parsed m ≡ Ok op) (sym is) reported) in
    let made : Create n.0 ≡ op = same_ok (Create n.0) op (n.2) in
    subst (Says l) made (name, number_read l.k k.0 n.0 k.1 n.1)

get_read : (l : LineValues) (ns : OpNumbers) (op : Op) → l.op ≡ text (codes "get") → ok_of numbers.Get ≡ Ok ns → op_parsed ns ≡ Ok op → Says l op
unfolding Says
get_read l ns op name read reported =
    let is : numbers.Get ≡ ns = same_ok numbers.Get ns read in
    let made : Get ≡ op = same_ok Get op (subst (λ m. op_parsed m ≡ Ok op) (sym is) reported) in
    subst (Says l) made name

abbrev refused : Result OpNumbers TextCause
refused = Err Shape

op_read : (l : LineValues) (ns : OpNumbers) (op : Op) → op_numbers l ≡ Ok ns → op_parsed ns ≡ Ok op → Says l op
op_read l ns op read reported =
    let name = first_ok (required_text l.op) _ ns read in
    let field = text_read l.op name.0 name.1 in
    by_get name.0 field (named name.0 (codes "get") _ _ ns name.2) where
      by_create : (w : List ℕ) → l.op ≡ text w → ((w ≡ codes "create") × (create_numbers l ≡ Ok ns)) ⊎ (refused ≡ Ok ns) → Says l op
      by_create w field (inl is) = create_read l ns op (field ∙ ap text is.0) is.1 reported
      by_create w field (inr none) = absurd (cc)

      by_delete : (w : List ℕ) → l.op ≡ text w
          → ((w ≡ codes "delete") × (delete_numbers l ≡ Ok ns)) ⊎ ((if bytes_eq w (codes "create") then create_numbers l else Err Shape) ≡ Ok ns) → Says l op
      by_delete w field (inl is) = delete_read l ns op (field ∙ ap text is.0) is.1 reported
      by_delete w field (inr on) = by_create w field (named w (codes "create") (create_numbers l) refused ns on)

      by_index : (w : List ℕ) → l.op ≡ text w
          → ((w ≡ codes "index") × (index_numbers l ≡ Ok ns))
          ⊎ ((if bytes_eq w (codes "delete") then delete_numbers l else (if bytes_eq w (codes "create") then create_numbers l else Err Shape)) ≡ Ok ns) → Says l op
      by_index w field (inl is) = index_read l ns op (field ∙ ap text is.0) is.1 reported
      by_index w field (inr on) = by_delete w field (named w (codes "delete") (delete_numbers l) _ ns on)

      by_get : (w : List ℕ) → l.op ≡ text w
          → ((w ≡ codes "get") × (ok_of numbers.Get ≡ Ok ns))
          ⊎ ((if bytes_eq w (codes "index") then index_numbers l else (if bytes_eq w (codes "delete") then delete_numbers l else (if bytes_eq w (codes "create") then create_numbers l else Err Shape))) ≡ Ok ns)
          → Says l op
      by_get w field (inl is) = get_read l ns op (field ∙ ap text is.0) is.1 reported
      by_get w field (inr on) = by_index w field (named w (codes "index") (index_numbers l) _ ns on)

-- ---- shards, ids and statuses

-- the field says the shard
SaysShard : FieldValue → ℕ → Type 0
SaysShard f h = ((f ≡ absent) × (h ≡ 0)) ⊎ ((f ≡ whole h) × (h < most_shards))

below_said : (limit n : ℕ) → n < limit → below_limit limit n ≡ Ok n
below_said limit n below = rw (lt-ltb n limit below) refl

below_read : (limit n m : ℕ) → below_limit limit n ≡ Ok m → (n ≡ m) × (n < limit)
below_read limit n m is = by_test (nat_lt n limit) refl is where
  by_test : (b : Bool) → nat_lt n limit ≡ b → (if b then ok_of n else Err Range) ≡ Ok m → (n ≡ m) × (n < limit)
  by_test true less is = (same_ok n m is, ltb-true n limit less)
  by_test false less is = absurd (cc)

shard_said : (f : FieldValue) (h : ℕ) → SaysShard f h → (o : Option Number) × (optional_number f ≡ Ok o) × (shard_parsed o ≡ Ok h)
unfolding SaysShard
shard_said f h (inl is) = (None, ap optional_number is.0, ap ok_of (sym is.1))
shard_said f h (inr is) = (Some (Whole h), ap optional_number is.0, below_said most_shards h is.1)

shard_read : (f : FieldValue) (o : Option Number) (h : ℕ) → optional_number f ≡ Ok o → shard_parsed o ≡ Ok h → SaysShard f h
unfolding SaysShard
shard_read absent o h read reported =
    let is : None ≡ o = same_ok None o read in
    inl (refl, sym (same_ok 0 h (subst (λ x. shard_parsed x ≡ Ok h) (sym is) reported)))
shard_read (whole n) o h read reported =
    let is : Some (Whole n) ≡ o = same_ok (Some (Whole n)) o read in
    let below = below_read most_shards n h (subst (λ x. shard_parsed x ≡ Ok h) (sym is) reported) in
    inr (ap (λ k. whole k) below.0, subst (λ k. k < most_shards) below.0 below.1)
shard_read not_whole o h read reported =
    let is : Some NotWhole ≡ o = same_ok (Some NotWhole) o read in
    let none : shard_parsed (Some NotWhole) ≡ Ok h = subst (λ x. shard_parsed x ≡ Ok h) (sym is) reported in absurd (cc)
shard_read (text t) o h read reported = absurd (cc)
shard_read (truth b) o h read reported = absurd (cc)
shard_read other o h read reported = absurd (cc)

id_said : (d : List ℕ) → IsIdLength (length d) → id_parsed d ≡ Ok d
id_said d fits = rw (lt-ltb 0 (length d) fits.some, le-leb (length d) longest_id fits.within) refl

id_read : (d e : List ℕ) → id_parsed d ≡ Ok e → (d ≡ e) × IsIdLength (length d)
id_read d e is = by_test (is_id d) refl is where
  by_test : (b : Bool) → is_id d ≡ b → (if b then ok_of d else Err Id) ≡ Ok e → (d ≡ e) × IsIdLength (length d)
  by_test true fits is =
      let tests = both (nat_lt 0 (length d)) (nat_le (length d) longest_id) fits in
      let some : 0 < length d = ltb-true 0 (length d) tests.0 in
      let few : length d ≤ longest_id = leb-true (length d) longest_id tests.1 in
      (same_ok d e is, record { some = some; within = few })
  by_test false fits is = absurd (cc)

-- ---- calls

-- the fields say the call
record SaysCall (l : LineValues) (n h : ℕ) (d : List ℕ) (op : Op) : Type 0 where
  number : l.n ≡ whole n
  id : l.id ≡ text d
  id_length : IsIdLength (length d)
  operation : Says l op
  shard : SaysShard l.shard h

call_said : (l : LineValues) (n h : ℕ) (d : List ℕ) (op : Op) → SaysCall l n h d op → call_parsed l ≡ Ok (said.Call n h d op)
call_said l n h d op is =
    let ns = op_said l op is.operation in
    let o = shard_said l.shard h is.shard in
    let operation : op_numbers l ≡ Ok ns.0 = ns.1 in
    let reported : op_parsed ns.0 ≡ Ok op = ns.2 in
    let shard : optional_number l.shard ≡ Ok o.0 = o.1 in
    let shard_is : shard_parsed o.0 ≡ Ok h = o.2 in
    let fits : id_parsed d ≡ Ok d = id_said d is.id_length in
    rw (is.number, is.id, operation, shard, fits, reported, shard_is) refl

same_call : (n h m g : ℕ) (d e : List ℕ) (o p : Op) → said.Call n h d o ≡ said.Call m g e p → (n ≡ m) × (h ≡ g) × (d ≡ e) × (o ≡ p)
same_call n h m g d e o p same = (cc, cc, cc, cc)

call_read : (l : LineValues) (n h : ℕ) (d : List ℕ) (op : Op) → call_parsed l ≡ Ok (said.Call n h d op) → SaysCall l n h d op
call_read l n h d op read =
    let number = first_ok (required_number l.n) _ (said.Call n h d op) read in
    let name = first_ok (required_text l.id) _ (said.Call n h d op) number.2 in
    let ns = first_ok (op_numbers l) _ (said.Call n h d op) name.2 in
    let o = first_ok (optional_number l.shard) _ (said.Call n h d op) ns.2 in
    let id = first_ok (id_parsed name.0) _ (said.Call n h d op) o.2 in
    let operation = first_ok (op_parsed ns.0) _ (said.Call n h d op) id.2 in
    let no = first_ok (whole_parsed number.0) _ (said.Call n h d op) operation.2 in
    let shard = first_ok (shard_parsed o.0) _ (said.Call n h d op) no.2 in
    let made : said.Call no.0 shard.0 id.0 operation.0 ≡ said.Call n h d op = same_ok (said.Call no.0 shard.0 id.0 operation.0) (said.Call n h d op) shard.2 in
    let parts = same_call no.0 shard.0 n h id.0 d operation.0 op made in
    let n_is : no.0 ≡ n = parts.0 in
    let h_is : shard.0 ≡ h = parts.1 in
    let d_is : id.0 ≡ d = parts.2 in
    let op_is : operation.0 ≡ op = parts.3 in
    let id_is = id_read name.0 id.0 id.1 in
    record {
      number = number_read l.n number.0 no.0 number.1 no.1 ∙ ap (λ k. whole k) n_is;
      id = text_read l.id name.0 name.1 ∙ ap text (id_is.0 ∙ d_is);
      id_length = subst (λ e. IsIdLength (length e)) (id_is.0 ∙ d_is) id_is.1;
      operation = subst (Says l) op_is (op_read l ns.0 operation.0 ns.1 operation.1);
      shard = subst (SaysShard l.shard) h_is (shard_read l.shard o.0 shard.0 o.1 shard.1);
    }

-- what is said of a call's line is a call
pub call_is : (l : LineValues) (s : LineSaid) → call_parsed l ≡ Ok s → (n h : ℕ) × (d : List ℕ) × (op : Op) × (s ≡ said.Call n h d op)
call_is l s read =
    let number = first_ok (required_number l.n) _ s read in
    let name = first_ok (required_text l.id) _ s number.2 in
    let ns = first_ok (op_numbers l) _ s name.2 in
    let o = first_ok (optional_number l.shard) _ s ns.2 in
    let id = first_ok (id_parsed name.0) _ s o.2 in
    let operation = first_ok (op_parsed ns.0) _ s id.2 in
    let no = first_ok (whole_parsed number.0) _ s operation.2 in
    let shard = first_ok (shard_parsed o.0) _ s no.2 in
    (no.0, shard.0, id.0, operation.0, sym (same_ok (said.Call no.0 shard.0 id.0 operation.0) s shard.2))

-- ---- replies and losses

pub reply_said : (l : LineValues) (n status : ℕ) → l.n ≡ whole n → l.status ≡ whole status → status < 2 ^ 16 → reply_parsed l ≡ Ok (said.Reply n status)
reply_said l n status number has_status fits =
    let reported : status_parsed (Whole status) ≡ Ok status = below_said (2 ^ 16) status fits in
    rw (number, has_status, reported) refl

pub reply_read : (l : LineValues) (s : LineSaid) → reply_parsed l ≡ Ok s
    → (n status : ℕ) × (s ≡ said.Reply n status) × (l.n ≡ whole n) × (l.status ≡ whole status) × (status < 2 ^ 16)
reply_read l s read =
    let number = first_ok (required_number l.n) _ s read in
    let status = first_ok (required_number l.status) _ s number.2 in
    let n = first_ok (whole_parsed number.0) _ s status.2 in
    let m = first_ok (status_parsed status.0) _ s n.2 in
    let w = first_ok (whole_parsed status.0) _ m.0 m.1 in
    let below = below_read (2 ^ 16) w.0 m.0 w.2 in (
      n.0,
      m.0,
      sym (same_ok (said.Reply n.0 m.0) s m.2),
      number_read l.n number.0 n.0 number.1 n.1,
      number_read l.status status.0 w.0 status.1 w.1 ∙ ap (λ k. whole k) below.0,
      subst (λ k. k < 2 ^ 16) below.0 below.1,
    )

pub lost_said : (l : LineValues) (n : ℕ) → l.n ≡ whole n → lost_parsed l ≡ Ok (said.Lost n)
lost_said l n number = rw number refl

pub lost_read : (l : LineValues) (s : LineSaid) → lost_parsed l ≡ Ok s → (n : ℕ) × (s ≡ said.Lost n) × (l.n ≡ whole n)
lost_read l s read =
    let number = first_ok (required_number l.n) _ s read in
    let n = first_ok (whole_parsed number.0) _ s number.2 in
    (n.0, sym (same_ok (said.Lost n.0) s n.2), number_read l.n number.0 n.0 number.1 n.1)

-- ---- what a value spells

condition_spelled : (v : Data) (c : Option Pair) → Conditions (line_values v).if_seq_no (line_values v).if_primary_term c → SpellsCondition v c
unfolding Conditions
condition_spelled v None is = is
condition_spelled v (Some p) is = is

condition_of : (v : Data) (c : Option Pair) → SpellsCondition v c → Conditions (line_values v).if_seq_no (line_values v).if_primary_term c
unfolding Conditions
condition_of v None is = is
condition_of v (Some p) is = is

op_spelled : (v : Data) (op : Op) → Says (line_values v) op → SpellsOp v op
unfolding Says
op_spelled v Get is = is
op_spelled v (Index k c) is = (is.0, is.1, condition_spelled v c is.2)
op_spelled v (Delete c) is = (is.0, condition_spelled v c is.1)
op_spelled v (Create k) is = is

op_of_value : (v : Data) (op : Op) → SpellsOp v op → Says (line_values v) op
unfolding Says
op_of_value v Get is = is
op_of_value v (Index k c) is = (is.0, is.1, condition_of v c is.2)
op_of_value v (Delete c) is = (is.0, condition_of v c is.1)
op_of_value v (Create k) is = is

-- a value whose call is reported spells it
pub call_spelled : (v : Data) (n h : ℕ) (d : List ℕ) (op : Op) → (line_values v).e ≡ text (codes "call") → call_parsed (line_values v) ≡ Ok (said.Call n h d op)
    → SpellsCall v n h d op
unfolding SaysShard
call_spelled v n h d op kind reported =
    let is = call_read (line_values v) n h d op reported in
    record { kind = kind; number = is.number; id = is.id; id_length = is.id_length; operation = op_spelled v op is.operation; shard = is.shard }

-- a value that spells a call says it
pub spelled_call : (v : Data) (n h : ℕ) (d : List ℕ) (op : Op) → SpellsCall v n h d op → line_parsed (line_values v) ≡ Ok (said.Call n h d op)
unfolding SaysShard
spelled_call v n h d op is =
    let kind : (line_values v).e ≡ text (codes "call") = is.kind in
    rw kind (call_said (line_values v) n h d op
    (record { number = is.number; id = is.id; id_length = is.id_length; operation = op_of_value v op is.operation; shard = is.shard }))

-- the shard of a call that is reported is one of those that there are
pub call_shard : (l : LineValues) (n h : ℕ) (d : List ℕ) (op : Op) → call_parsed l ≡ Ok (said.Call n h d op) → h < most_shards
unfolding SaysShard
call_shard l n h d op reported = by_shard (call_read l n h d op reported).shard where
  by_shard : ((l.shard ≡ absent) × (h ≡ 0)) ⊎ ((l.shard ≡ whole h) × (h < most_shards)) → h < most_shards
  by_shard (inl is) = let none : h ≡ 0 = is.1 in omega arith
  by_shard (inr is) = is.1
