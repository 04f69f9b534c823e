-- What `==` says of two records of calls.
use Rattle.std.proofs.Common.{◌≡◌, ℕ, Bool, true, false, Option, None, Some, refl, ap, nat_eq}
use mathlib.Core.Bool.{beq}
use Rattle.std.specs.Prelude.{◌&&◌}
use Rattle.std.specs.Bool.{Decides}
use Rattle.std.specs.Option.{option_eq}
use Rattle.std.proofs.lemmas.Bool.Decides.{Decides-and, Decides-eqb, Decides-like}
use Rattle.version_pair.specs.declared.pair.Pair.{Pair}
use Rattle.version_pair.proofs.PairLemmas.{same_by_test}
use Rattle.doc_register.specs.declared.op.Op.{Op}
use Rattle.doc_register.specs.declared.op.Op.TheVariants.{Get, Index, Delete, Create}
use Rattle.doc_register.specs.contracts.op.OpPartialEq.TheImpl as op_test
use Rattle.doc_register.specs.declared.reply.Reply.{Reply}
use Rattle.doc_register.specs.declared.reply.Reply.TheVariants.{Indexed, Deleted, Found, Missing, Conflict}
use Rattle.doc_register.specs.contracts.reply.ReplyPartialEq.TheImpl as reply_test
use Rattle.events.specs.declared.record.Rec.{Rec}
use Rattle.events.specs.contracts.record.RecPartialEq.TheImpl as rec_test

bool_decides : (a b : Bool) → Decides (beq a b) (a ≡ b)
bool_decides true true = (λ _. refl, λ _. refl)
bool_decides false false = (λ _. refl, λ _. refl)
bool_decides true false = (λ h. cc, λ h. cc)
bool_decides false true = (λ h. cc, λ h. cc)

option_decides : {T : Type 0} (E : T → T → Bool) → ((x y : T) → Decides (E x y) (x ≡ y)) → (a b : Option T)
    → Decides (option_eq E a b) (a ≡ b)
option_decides E each None None = (λ _. refl, λ _. refl)
option_decides E each None (Some y) = (λ h. cc, λ h. cc)
option_decides E each (Some x) None = (λ h. cc, λ h. cc)
option_decides E each (Some x) (Some y) = Decides-like (E x y) (ap Some) (λ h. cc) (each x y)

pair_decides : (p q : Pair) → Decides (nat_eq p.term q.term && nat_eq p.seq q.seq) (p ≡ q)
pair_decides p q = (
  same_by_test p q,
  λ h. (Decides-and _ _ (Decides-eqb p.term q.term) (Decides-eqb p.seq q.seq)).1
      (ap (λ (x : Pair). x.term) h, ap (λ (x : Pair). x.seq) h),
)

op_decides : (a b : Op) → Decides (op_test.eq-value.it a b) (a ≡ b)
op_decides Get Get = (λ _. refl, λ _. refl)
op_decides (Index k c) (Index l d) =
    Decides-like _ (λ (e : (k ≡ l) × (c ≡ d)). cc) (λ (h : Index k c ≡ Index l d). (cc, cc))
    (Decides-and _ _ (Decides-eqb k l) (option_decides _ pair_decides c d))
op_decides (Delete c) (Delete d) =
    Decides-like _ (ap Delete) (λ (h : Delete c ≡ Delete d). cc) (option_decides _ pair_decides c d)
op_decides (Create k) (Create l) = Decides-like _ (ap Create) (λ (h : Create k ≡ Create l). cc) (Decides-eqb k l)
op_decides a b = (λ h. cc, λ h. cc)

reply_decides : (a b : Reply) → Decides (reply_test.eq-value.it a b) (a ≡ b)
reply_decides (Indexed p x) (Indexed q y) =
    Decides-like _ (λ (e : (p ≡ q) × (x ≡ y)). cc) (λ (h : Indexed p x ≡ Indexed q y). (cc, cc))
    (Decides-and _ _ (pair_decides p q) (bool_decides x y))
reply_decides (Deleted p x) (Deleted q y) =
    Decides-like _ (λ (e : (p ≡ q) × (x ≡ y)). cc) (λ (h : Deleted p x ≡ Deleted q y). (cc, cc))
    (Decides-and _ _ (pair_decides p q) (bool_decides x y))
reply_decides (Found p x) (Found q y) =
    Decides-like _ (λ (e : (p ≡ q) × (x ≡ y)). cc) (λ (h : Found p x ≡ Found q y). (cc, cc))
    (Decides-and _ _ (pair_decides p q) (Decides-eqb x y))
reply_decides Missing Missing = (λ _. refl, λ _. refl)
reply_decides Conflict Conflict = (λ _. refl, λ _. refl)
reply_decides a b = (λ h. cc, λ h. cc)

heard_of : ℕ → Reply → ℕ × Reply
heard_of n reply = (n, reply)

heard_same : (m n : ℕ) (x y : Reply) → m ≡ n → x ≡ y → heard_of m x ≡ heard_of n y
heard_same m n x y e f = cc

heard_decides : (a b : ℕ × Reply) → Decides (nat_eq a.0 b.0 && reply_test.eq-value.it a.1 b.1) (a ≡ b)
unfolding heard_of
heard_decides a b =
    Decides-like _ (λ (e : (a.0 ≡ b.0) × (a.1 ≡ b.1)). heard_same a.0 b.0 a.1 b.1 e.0 e.1)
    (λ (h : a ≡ b). (ap (λ (x : ℕ × Reply). x.0) h, ap (λ (x : ℕ × Reply). x.1) h))
    (Decides-and _ _ (Decides-eqb a.0 b.0) (reply_decides a.1 b.1))

rec_of : ℕ → Op → ℕ → Option (ℕ × Reply) → Rec
rec_of n op at heard = record { no = n; op = op; call_at = at; heard = heard }

rec_same : (n m : ℕ) (o p : Op) (i j : ℕ) (h g : Option (ℕ × Reply)) → n ≡ m → o ≡ p → i ≡ j → h ≡ g → rec_of n o i h ≡ rec_of m p j g
rec_same n m o p i j h g a b c d = cc

-- `==` of two records decides whether they are the same
pub Rec-Decides : (a b : Rec) → Decides (rec_test.eq-value.it a b) (a ≡ b)
unfolding rec_of
Rec-Decides a b =
    Decides-like _
    (λ (e : (a.no ≡ b.no) × ((a.op ≡ b.op) × ((a.call_at ≡ b.call_at) × (a.heard ≡ b.heard)))).
    rec_same a.no b.no a.op b.op a.call_at b.call_at a.heard b.heard e.0 e.1.0 e.1.1.0 e.1.1.1)
    (λ (h : a ≡ b).
    (ap (λ (r : Rec). r.no) h, (ap (λ (r : Rec). r.op) h, (ap (λ (r : Rec). r.call_at) h, ap (λ (r : Rec). r.heard) h))))
    (Decides-and _ _ (Decides-eqb a.no b.no)
    (Decides-and _ _ (op_decides a.op b.op)
    (Decides-and _ _ (Decides-eqb a.call_at b.call_at) (option_decides _ heard_decides a.heard b.heard))))
