-- The text that is written of a history is a text of it.
use Rattle.std.proofs.Common.{ℕ, suc, ◌≡◌, ◌<◌, ◌≤◌, ◌+◌, ◌*◌, ◌^◌, List, [], ◌∷◌, ◌++◌, length, length-append, map, All, refl, sym, ap, subst, ◌∙◌, arith, Bool, true, false, Option, Some, None, inl, inr, append_assoc, append-nil, codes, slice_get, take, lit≤, lit<, zero}
use Rattle.std.specs.Prelude.{◌==◌, filter, if◌then◌else◌, unwrap_or, option_and_then, IsSome}
use Rattle.std.proofs.Math.Seq.{take-length}
use Rattle.std.proofs.lemmas.Grind.{flat_map-append}
use Rattle.std.proofs.lemmas.List.{length-map, map-append}
use Rattle.std.proofs.lemmas.List.Elements.{All-append, All-cons, All-head, All-map, All-nil, All-tail}
use Rattle.std.proofs.lemmas.Bool.{eqb-true}
use Rattle.json.specs.Print.{quoted}
use Rattle.serde_json.specs.Data.{Data, Members, boolean, depth, string, number, unsigned, object, member, no_members}
use Rattle.serde_json.specs.Read.{max_depth}
use Rattle.serde_json.specs.Written.{compact_text, has_float, members_text}
use Rattle.version_pair.specs.Id.{IsIdLength}
use Rattle.version_pair.specs.declared.pair.Pair.{Pair}
use Rattle.doc_register.specs.Register.{fits}
use Rattle.doc_register.specs.declared.op.Op.{Op}
use Rattle.doc_register.specs.declared.op.Op.TheVariants.{Get, Index, Delete, Create}
use Rattle.doc_register.specs.declared.reply.Reply.{Reply as Answer}
use Rattle.doc_register.specs.declared.reply.Reply.TheVariants.{Indexed, Deleted, Found, Missing, Conflict}
use Rattle.api_lines.specs.Json.{HasNumber, Lacks}
use Rattle.version_pair.specs.Shards.{most_shards}
use Rattle.api_lines.specs.Lines.{is_written, lines_of, longest_line, most_lines}
use Rattle.api_lines.specs.Written.{id_and_pair, number_member, write_body, written_body, written_status}
use Rattle.api_lines.proofs.WrittenLines.{decimal_length, no_line_feed-compact_text, one_line, quoted_length}
use Rattle.api_lines.proofs.WrittenReplies.{written_known, written_reported}
use Rattle.events.specs.declared.event.Event.{Event}
use Rattle.events.specs.declared.event.Event.TheVariants.{Call, Reply, Lost}
use Rattle.events.specs.Events.{IsCallAt, IsHistory, is_call}
use Rattle.events.specs.Refusal.{most_events}
use Rattle.history.specs.Text.{AreLinesOf, IsHistoryText, Spells, SpellsCall, SpellsOp, SpellsShard}
use Rattle.history.specs.Written.{call_end, call_value, call_with, condition_members, event_value, id_named, id_of, lost_value, op_members, op_name, reply_value, written_values}
use Rattle.history.specs.aids.Writing.{AreWritten, HasItsCall, IsInRange, IsReadable, OpFits, ReplyFits}
use Rattle.events.proofs.EventLemmas.{place_of-passes, place_of-some}
use Rattle.events.proofs.HistoryLemmas.{answered_call, call_passes}
use Rattle.version_pair.proofs.ListLemmas.{get_middle}
use Rattle.events.proofs.PlaceLemmas.{take_next}

-- ---- calls

abbrev shard_if : Bool → ℕ → Members
shard_if b h = if b then no_members else number_member (codes "shard") h no_members

-- a call's line, without its shard where b is true
abbrev call_if : Bool → ℕ → ℕ → List ℕ → Op → Data
call_if b n h d op =
    call_with d (op_members op (number_member (codes "n") n (member (codes "op") (string (op_name op)) (shard_if b h))))

-- ---- lines hold no fractions, and are not deep

abbrev IsPlain : Data → Type 0
IsPlain v = (has_float v ≡ false) × (depth v ≤ max_depth)

plain_call : (b : Bool) (n h : ℕ) (d : List ℕ) (op : Op) → IsPlain (call_if b n h d op)
plain_call true n h d Get = (refl, lit≤ tt)
plain_call true n h d (Index k None) = (refl, lit≤ tt)
plain_call true n h d (Index k (Some p)) = (refl, lit≤ tt)
plain_call true n h d (Delete None) = (refl, lit≤ tt)
plain_call true n h d (Delete (Some p)) = (refl, lit≤ tt)
plain_call true n h d (Create k) = (refl, lit≤ tt)
plain_call false n h d Get = (refl, lit≤ tt)
plain_call false n h d (Index k None) = (refl, lit≤ tt)
plain_call false n h d (Index k (Some p)) = (refl, lit≤ tt)
plain_call false n h d (Delete None) = (refl, lit≤ tt)
plain_call false n h d (Delete (Some p)) = (refl, lit≤ tt)
plain_call false n h d (Create k) = (refl, lit≤ tt)

-- ---- lines are short

member_short : (later : Bool) (key : List ℕ) (v : Data) (ms : Members) (a b : ℕ) → length key ≤ 15 → length (compact_text v) ≤ a
    → length (members_text true ms) ≤ b → length (members_text later (member key v ms)) ≤ 94 + a + b
member_short later key v ms a b short value rest = by_comma later where
  name : length (quoted key) ≤ 2 + 6 * length key
  name = quoted_length key

  whole : length (quoted key ++ 58 ∷ (compact_text v ++ members_text true ms)) ≡ length (quoted key) + suc (length (compact_text v ++ members_text true ms))
  whole = length-append (quoted key) (58 ∷ (compact_text v ++ members_text true ms))

  after : length (compact_text v ++ members_text true ms) ≡ length (compact_text v) + length (members_text true ms)
  after = length-append (compact_text v) (members_text true ms)

  inside : length (quoted key ++ 58 ∷ (compact_text v ++ members_text true ms)) ≤ 93 + a + b
  inside = omega (arith, name, whole, after, short, value, rest)

  by_comma : (c : Bool) → length (members_text c (member key v ms)) ≤ 94 + a + b
  by_comma true = omega (arith, inside)
  by_comma false = omega (arith, inside)

number_short : (later : Bool) (key : List ℕ) (n : ℕ) (ms : Members) (b : ℕ) → length key ≤ 15 → n < 2 ^ 64 → length (members_text true ms) ≤ b
    → length (members_text later (number_member key n ms)) ≤ 114 + b
number_short later key n ms b short below rest =
    let line : length (members_text later (number_member key n ms)) ≤ 94 + 20 + b = member_short later key (number (unsigned n)) ms 20 b short (decimal_length n below) rest in
    omega arith

text_short : (later : Bool) (key t : List ℕ) (ms : Members) (m b : ℕ) → length key ≤ 15 → length t ≤ m → length (members_text true ms) ≤ b
    → length (members_text later (member key (string t) ms)) ≤ 96 + 6 * m + b
text_short later key t ms m b short long rest =
    let quotes : length (quoted t) ≤ 2 + 6 * length t = quoted_length t in
    let line : length (members_text later (member key (string t) ms)) ≤ 94 + (2 + 6 * m) + b =
    member_short later key (string t) ms (2 + 6 * m) b short (omega arith) rest in
    omega arith

shard_short : (b : Bool) (h : ℕ) → h < 2 ^ 64 → length (members_text true (shard_if b h)) ≤ 115
shard_short true h below = lit≤ tt
shard_short false h below = number_short true (codes "shard") h no_members 1 (lit≤ tt) below (lit≤ tt)

end_short : (b : Bool) (n h : ℕ) (name : List ℕ) → n < 2 ^ 64 → h < 2 ^ 64 → length name ≤ 6
    → length (members_text true (number_member (codes "n") n (member (codes "op") (string name) (shard_if b h)))) ≤ 361
end_short b n h name below small short =
    number_short true (codes "n") n (member (codes "op") (string name) (shard_if b h)) 247 (lit≤ tt) below
    (text_short true (codes "op") name (shard_if b h) 6 115 (lit≤ tt) short (shard_short b h small))

below_64 : (n : ℕ) → n < 2 ^ 63 → n < 2 ^ 64
below_64 n h = omega arith

condition_short : (p : Pair) (ms : Members) (b : ℕ) → length (members_text true ms) ≤ b → length (members_text true (condition_members (Some p) ms)) ≤ 228 + b
condition_short p ms b rest =
    let seq : length (members_text true (number_member (codes "if_seq_no") p.seq ms)) ≤ 114 + b =
    number_short true (codes "if_seq_no") p.seq ms b (lit≤ tt) (below_64 p.seq p.seq_fits) rest in
    let both : length (members_text true (condition_members (Some p) ms)) ≤ 114 + (114 + b) =
    number_short true (codes "if_primary_term") p.term (number_member (codes "if_seq_no") p.seq ms) (114 + b) (lit≤ tt) (below_64 p.term p.term_fits) seq in
    omega arith

k_short : (k : ℕ) (ms : Members) → k < 2 ^ 64 → length (members_text true ms) ≤ 361 → length (members_text true (number_member (codes "k") k ms)) ≤ 475
k_short k ms below rest = number_short true (codes "k") k ms 361 (lit≤ tt) below rest

ops_short : (op : Op) (ms : Members) → OpFits op → length (members_text true ms) ≤ 361 → length (members_text true (op_members op ms)) ≤ 703
ops_short Get ms fit rest = omega arith
ops_short (Index k None) ms fit rest = let line = k_short k ms fit rest in omega arith
ops_short (Index k (Some p)) ms fit rest = condition_short p (number_member (codes "k") k ms) 475 (k_short k ms fit rest)
ops_short (Delete None) ms fit rest = omega arith
ops_short (Delete (Some p)) ms fit rest = let line = condition_short p ms 361 rest in omega arith
ops_short (Create k) ms fit rest = let line = k_short k ms fit rest in omega arith

name_short : (op : Op) → length (op_name op) ≤ 6
name_short Get = lit≤ tt
name_short (Index k c) = lit≤ tt
name_short (Delete c) = lit≤ tt
name_short (Create k) = lit≤ tt

call_short : (n h : ℕ) (d : List ℕ) (op : Op) → n < 2 ^ 64 → h < 2 ^ 64 → length d ≤ 512 → OpFits op → length (compact_text (call_value n h d op)) ≤ 65536
call_short n h d op below small id fit =
    let ops : length (members_text true (op_members op (call_end n (op_name op) h))) ≤ 703 = ops_short op (call_end n (op_name op) h) fit (end_short (h == 0) n h (op_name op) below small (name_short op)) in
    let line : length (members_text false (member (codes "e") (string (codes "call")) (member (codes "id") (string d) (op_members op (call_end n (op_name op) h))))) ≤ 96 + 6 * 4 + (96 + 6 * 512 + 703) =
    text_short false (codes "e") (codes "call") (member (codes "id") (string d) (op_members op (call_end n (op_name op) h))) 4 (96 + 6 * 512 + 703) (lit≤ tt) (lit≤ tt)
    (text_short true (codes "id") d (op_members op (call_end n (op_name op) h)) 512 703 (lit≤ tt) id ops) in
    omega arith

pair_short : (p : Pair) (ms : Members) (d : List ℕ) (b : ℕ) → length d ≤ 512 → length (members_text true ms) ≤ b
    → length (members_text false (id_and_pair d p ms)) ≤ 3396 + b
pair_short p ms d b id rest =
    let seq : length (members_text true (number_member (codes "_seq_no") p.seq ms)) ≤ 114 + b =
    number_short true (codes "_seq_no") p.seq ms b (lit≤ tt) (below_64 p.seq p.seq_fits) rest in
    let term = number_short true (codes "_primary_term") p.term (number_member (codes "_seq_no") p.seq ms) (114 + b) (lit≤ tt) (below_64 p.term p.term_fits) seq in
    let all : length (members_text false (id_and_pair d p ms)) ≤ 96 + 6 * 512 + (114 + (114 + b)) =
    text_short false (codes "_id") d (number_member (codes "_primary_term") p.term (number_member (codes "_seq_no") p.seq ms)) 512 (114 + (114 + b)) (lit≤ tt) id term in
    omega arith

write_short : (p : Pair) (d outcome : List ℕ) → length d ≤ 512 → length outcome ≤ 9 → length (compact_text (write_body d p outcome)) ≤ 5000
write_short p d outcome id short =
    let all = pair_short p (member (codes "result") (string outcome) no_members) d 151 id (text_short true (codes "result") outcome no_members 9 1 (lit≤ tt) short (lit≤ tt)) in
    omega arith

body_short : (d : List ℕ) (r : Answer) → length d ≤ 512 → ReplyFits r → length (compact_text (written_body d r)) ≤ 5000
body_short d (Indexed p true) id fit = write_short p d (codes "created") id (lit≤ tt)
body_short d (Indexed p false) id fit = write_short p d (codes "updated") id (lit≤ tt)
body_short d (Deleted p true) id fit = write_short p d (codes "deleted") id (lit≤ tt)
body_short d (Deleted p false) id fit = write_short p d (codes "not_found") id (lit≤ tt)
body_short d (Found p k) id fit =
    let inner : length (members_text false (number_member (codes "k") k no_members)) ≤ 115 = number_short false (codes "k") k no_members 1 (lit≤ tt) fit (lit≤ tt) in
    let found : length (members_text true (member (codes "found") (boolean true) no_members)) ≤ 94 + 4 + 1 = member_short true (codes "found") (boolean true) no_members 4 1 (lit≤ tt) (lit≤ tt) (lit≤ tt) in
    let source = member_short true (codes "_source") (object (number_member (codes "k") k no_members)) (member (codes "found") (boolean true) no_members) 116 99 (lit≤ tt) (omega arith) found in
    let all = pair_short p (member (codes "_source") (object (number_member (codes "k") k no_members)) (member (codes "found") (boolean true) no_members)) d 309 id source in
    omega arith
body_short d Missing id fit =
    let found : length (members_text true (member (codes "found") (boolean false) no_members)) ≤ 94 + 5 + 1 = member_short true (codes "found") (boolean false) no_members 5 1 (lit≤ tt) (lit≤ tt) (lit≤ tt) in
    let all = text_short false (codes "_id") d (member (codes "found") (boolean false) no_members) 512 100 (lit≤ tt) id found in
    omega arith
body_short d Conflict id fit =
    let inner = text_short false (codes "type") (codes "version_conflict_engine_exception") no_members 33 1 (lit≤ tt) (lit≤ tt) (lit≤ tt) in
    let all = member_short false (codes "error") (object (member (codes "type") (string (codes "version_conflict_engine_exception")) no_members)) no_members 296 1 (lit≤ tt) (omega arith) (lit≤ tt) in
    omega arith

status_small : (r : Answer) → written_status r < 2 ^ 16
status_small (Indexed p true) = lit< tt
status_small (Indexed p false) = lit< tt
status_small (Deleted p true) = lit< tt
status_small (Deleted p false) = lit< tt
status_small (Found p k) = lit< tt
status_small Missing = lit< tt
status_small Conflict = lit< tt

reply_short : (n : ℕ) (d : List ℕ) (r : Answer) → n < 2 ^ 64 → length d ≤ 512 → ReplyFits r → length (compact_text (reply_value n d r)) ≤ 65536
reply_short n d r below id fit =
    let small : written_status r < 2 ^ 64 = (let fits : written_status r < 2 ^ 16 = status_small r in omega arith) in
    let status = number_short true (codes "status") (written_status r) no_members 1 (lit≤ tt) small (lit≤ tt) in
    let no = number_short true (codes "n") n (number_member (codes "status") (written_status r) no_members) 115 (lit≤ tt) below status in
    let kind = text_short true (codes "e") (codes "reply") (number_member (codes "n") n (number_member (codes "status") (written_status r) no_members)) 5 229 (lit≤ tt) (lit≤ tt) no in
    let all = member_short false (codes "body") (written_body d r)
    (member (codes "e") (string (codes "reply")) (number_member (codes "n") n (number_member (codes "status") (written_status r) no_members))) 5000 355 (lit≤ tt)
    (body_short d r id fit) kind in
    omega arith

lost_short : (n : ℕ) → n < 2 ^ 64 → length (compact_text (lost_value n)) ≤ 65536
lost_short n below =
    let no = number_short true (codes "n") n no_members 1 (lit≤ tt) below (lit≤ tt) in
    let all = text_short false (codes "e") (codes "lost") (number_member (codes "n") n no_members) 4 115 (lit≤ tt) (lit≤ tt) no in
    omega arith

-- ---- what a line spells

spells_op : (b : Bool) (n h : ℕ) (d : List ℕ) (op : Op) → SpellsOp (call_if b n h d op) op
spells_op true n h d Get = refl
spells_op true n h d (Index k None) = (refl, refl, (refl, refl))
spells_op true n h d (Index k (Some p)) = (refl, refl, (refl, refl))
spells_op true n h d (Delete None) = (refl, (refl, refl))
spells_op true n h d (Delete (Some p)) = (refl, (refl, refl))
spells_op true n h d (Create k) = (refl, refl)
spells_op false n h d Get = refl
spells_op false n h d (Index k None) = (refl, refl, (refl, refl))
spells_op false n h d (Index k (Some p)) = (refl, refl, (refl, refl))
spells_op false n h d (Delete None) = (refl, (refl, refl))
spells_op false n h d (Delete (Some p)) = (refl, (refl, refl))
spells_op false n h d (Create k) = (refl, refl)

spells_number : (b : Bool) (n h : ℕ) (d : List ℕ) (op : Op) → HasNumber (codes "n") n (call_if b n h d op)
spells_number b n h d Get = refl
spells_number b n h d (Index k None) = refl
spells_number b n h d (Index k (Some p)) = refl
spells_number b n h d (Delete None) = refl
spells_number b n h d (Delete (Some p)) = refl
spells_number b n h d (Create k) = refl

lacks_shard : (n h : ℕ) (d : List ℕ) (op : Op) → Lacks (codes "shard") (call_if true n h d op)
lacks_shard n h d Get = refl
lacks_shard n h d (Index k None) = refl
lacks_shard n h d (Index k (Some p)) = refl
lacks_shard n h d (Delete None) = refl
lacks_shard n h d (Delete (Some p)) = refl
lacks_shard n h d (Create k) = refl

has_shard : (n h : ℕ) (d : List ℕ) (op : Op) → HasNumber (codes "shard") h (call_if false n h d op)
has_shard n h d Get = refl
has_shard n h d (Index k None) = refl
has_shard n h d (Index k (Some p)) = refl
has_shard n h d (Delete None) = refl
has_shard n h d (Delete (Some p)) = refl
has_shard n h d (Create k) = refl

spells_shard : (b : Bool) (n h : ℕ) (d : List ℕ) (op : Op) → (h == 0) ≡ b → h < most_shards → SpellsShard (call_if b n h d op) h
spells_shard true n h d op is within = inl (lacks_shard n h d op, eqb-true h 0 is)
spells_shard false n h d op is within = inr (has_shard n h d op, within)

spells_call : (n h : ℕ) (d : List ℕ) (op : Op) → IsIdLength (length d) → h < most_shards → SpellsCall (call_value n h d op) n h d op
spells_call n h d op id within = record {
  kind = refl;
  number = spells_number (h == 0) n h d op;
  id = refl;
  id_length = id;
  operation = spells_op (h == 0) n h d op;
  shard = spells_shard (h == 0) n h d op refl within;
}

-- ---- the call of a reply

pub id_known : (H : List Event) (n j h : ℕ) (d : List ℕ) (op : Op) → IsHistory H → IsCallAt H j n h d op → id_of H n ≡ Some d
id_known H n j h d op history at =
    let first = place_of-some (is_call n) H j (call_passes H j n h d op at) in
    let same : first.0 ≡ j = history.called_once n first.0 j (place_of-passes (is_call n) H first.0 first.1) (call_passes H j n h d op at) in
    ap (λ o. option_and_then id_named (option_and_then (slice_get H) o)) (first.1 ∙ ap (λ k. Some k) same) ∙ ap (option_and_then id_named) at

some_id : (o : Option (List ℕ)) (d : List ℕ) → o ≡ Some d → IsSome o
some_id None d is = absurd (cc)
some_id (Some e) d is = refl

pub has_its_call : (H : List Event) (i : ℕ) (e : Event) → IsHistory H → slice_get H i ≡ Some e → HasItsCall H e
has_its_call H i (Call h n d op) history at = tt
has_its_call H i (Reply n r) history at =
    let c = answered_call H history i n r at in
    some_id (id_of H n) c.2 (id_known H n c.0 c.1 c.2 c.3 history c.4)
has_its_call H i (Lost n) history at = tt

-- ---- one line

spelled_event : (H : List Event) (i : ℕ) (e : Event) → IsHistory H → slice_get H i ≡ Some e → IsInRange e → Spells H (event_value H e) e
spelled_event H i (Call h n d op) history at range = spells_call n h d op range.1 (history.shards i n h d op at)
spelled_event H i (Reply n r) history at range =
    let c = answered_call H history i n r at in
    let fit : fits c.3 r ≡ true = history.replies_fit n i c.0 c.1 c.2 c.3 r at c.4 in
    subst (λ o. Spells H (reply_value n (unwrap_or o []) r) (Reply n r)) (sym (id_known H n c.0 c.1 c.2 c.3 history c.4)) (
      c.3,
      written_status r,
      record {
        kind = refl;
        number = refl;
        has_status = refl;
        status_fits = status_small r;
        call = (c.0, c.1, c.2, c.4, written_known c.2 r);
      },
      written_reported c.3 c.2 r fit,
    )
spelled_event H i (Lost n) history at range = inl (record { kind = refl; number = refl })

all_at : {X : Type 0} (P : X → Type 0) (xs : List X) (i : ℕ) (x : X) → All P xs → slice_get xs i ≡ Some x → P x
all_at P [] i x all at = absurd (cc)
all_at P (y ∷ ys) zero x all at = let same : y ≡ x = cc in subst P same (All-head P y ys all)
all_at P (y ∷ ys) (suc i) x all at = all_at P ys i x (All-tail P y ys all) at

all_from_places : {X : Type 0} (P : X → Type 0) (xs : List X) → ((i : ℕ) (x : X) → slice_get xs i ≡ Some x → P x) → All P xs
all_from_places P [] each = All-nil P
all_from_places P (x ∷ xs) each = All-cons P x xs (each 0 x refl) (all_from_places P xs (λ i. each (suc i)))

abbrev line_of : List Event → Event → List ℕ
line_of H e = compact_text (event_value H e)

short_line : (H : List Event) (i : ℕ) (e : Event) → IsHistory H → All (IsReadable H) H → slice_get H i ≡ Some e → length (line_of H e) ≤ longest_line
short_line H i (Call h n d op) history readable at =
    let range = (all_at (IsReadable H) H i (Call h n d op) readable at).in_range in
    let shard : h < 1024 = history.shards i n h d op at in
    call_short n h d op range.0 (omega arith) range.1.within range.2
short_line H i (Reply n r) history readable at =
    let range = (all_at (IsReadable H) H i (Reply n r) readable at).in_range in
    let c = answered_call H history i n r at in
    let id = (all_at (IsReadable H) H c.0 (Call c.1 n c.2 c.3) readable c.4).in_range in
    subst (λ o. length (compact_text (reply_value n (unwrap_or o []) r)) ≤ longest_line) (sym (id_known H n c.0 c.1 c.2 c.3 history c.4))
    (reply_short n c.2 r range.0 id.1.within range.1)
short_line H i (Lost n) history readable at = lost_short n (all_at (IsReadable H) H i (Lost n) readable at).in_range

line_written : (H : List Event) (e : Event) → is_written (line_of H e) ≡ true
line_written H (Call h n d op) = refl
line_written H (Reply n r) = refl
line_written H (Lost n) = refl

-- ---- all lines

lines_written : (vs : List Data) → lines_of (written_values vs) ≡ map compact_text vs
lines_written [] = refl
lines_written (v ∷ vs) =
    ap lines_of (append_assoc (compact_text v) (10 ∷ []) (written_values vs))
    ∙ (one_line (compact_text v) (written_values vs) (no_line_feed-compact_text v) ∙ ap (λ rest. compact_text v ∷ rest) (lines_written vs))

map_map : (H es : List Event) → map compact_text (map (event_value H) es) ≡ map (line_of H) es
map_map H [] = refl
map_map H (e ∷ es) = ap (λ rest. line_of H e ∷ rest) (map_map H es)

text_lines : (H es : List Event) → lines_of (written_values (map (event_value H) es)) ≡ map (line_of H) es
text_lines H es = lines_written (map (event_value H) es) ∙ map_map H es

all_written : (H es : List Event) → filter is_written (map (line_of H) es) ≡ map (line_of H) es
all_written H [] = refl
all_written H (e ∷ es) =
    ap (λ b. if b then line_of H e ∷ filter is_written (map (line_of H) es) else filter is_written (map (line_of H) es)) (line_written H e)
    ∙ ap (λ rest. line_of H e ∷ rest) (all_written H es)

spelled_lines : (H front es : List Event) → IsHistory H → H ≡ front ++ es → All (IsReadable H) es → AreLinesOf H (map (line_of H) es) es
spelled_lines H front [] history split readable = tt
spelled_lines H front (e ∷ es) history split readable =
    let here : slice_get H (length front) ≡ Some e = subst (λ K. slice_get K (length front) ≡ Some e) (sym split) (get_middle front es e) in
    let can = All-head (IsReadable H) e es readable in (
      (can.json.0, (event_value H e, can.json.1, spelled_event H (length front) e history here can.in_range)),
      spelled_lines H (front ++ e ∷ []) es history (split ∙ sym (append_assoc front (e ∷ []) es)) (All-tail (IsReadable H) e es readable),
    )

few_lines : (a b : ℕ) → a ≡ b → b ≤ most_events → a ≤ most_lines
few_lines a b same small =
    let below : b ≤ 1048576 = small in
    let fits : a ≤ 4194304 = omega arith in fits

pub is_text : (H : List Event) (text : List ℕ) → IsHistory H → length H ≤ most_events → AreWritten H [] text H → IsHistoryText text H
is_text H text history few written =
    let lines : lines_of text ≡ map (line_of H) H = ap lines_of written.added ∙ text_lines H H in
    let count : length (lines_of text) ≡ length H = ap length lines ∙ length-map H (line_of H) in
    record {
      history = history;
      events_fit = few;
      lines_fit = few_lines (length (lines_of text)) (length H) count few;
      bytes_fit = subst (All (λ line. length line ≤ longest_line)) (sym lines)
          (All-map (λ (line : List ℕ). length line ≤ longest_line) (line_of H) H
          (all_from_places (λ e. length (line_of H e) ≤ longest_line) H (λ i e at. short_line H i e history written.readable at)));
      spelled = subst (λ ls. AreLinesOf H ls H) (sym (ap (filter is_written) lines ∙ all_written H H)) (spelled_lines H [] H history refl written.readable);
    }

-- ---- walking over the history

pub none_written : (H : List Event) (text : List ℕ) → AreWritten H text text []
none_written H text = record { added = sym (append-nil text); readable = All-nil (IsReadable H) }

both_written : (H : List Event) (old middle new : List ℕ) (es fs : List Event) → AreWritten H old middle es → AreWritten H middle new fs → AreWritten H old new (es ++ fs)
both_written H old middle new es fs a b = record {
  added = b.added ∙ (ap (λ text. text ++ written_values (map (event_value H) fs)) a.added
      ∙ (append_assoc old (written_values (map (event_value H) es)) (written_values (map (event_value H) fs))
      ∙ ap (λ text. old ++ text) (sym (ap written_values (map-append (event_value H) es fs)
      ∙ flat_map-append (λ v. compact_text v ++ 10 ∷ []) (map (event_value H) es) (map (event_value H) fs)))));
  readable = All-append (IsReadable H) es fs a.readable b.readable;
}

pub next_written : (H : List Event) (text new : List ℕ) (i : ℕ) (e : Event) → slice_get H i ≡ Some e → AreWritten H [] text (take i H)
    → AreWritten H text new (e ∷ []) → AreWritten H [] new (take (i + 1) H)
next_written H text new i e at before more =
    subst (AreWritten H [] new) (sym (take_next H i e at)) (both_written H [] text new (take i H) (e ∷ []) before more)

pub all_are_written : (H : List Event) (text : List ℕ) (i : ℕ) → i ≡ length H → AreWritten H [] text (take i H) → AreWritten H [] text H
all_are_written H text i end before = subst (AreWritten H [] text) (ap (λ k. take k H) end ∙ take-length H) before
