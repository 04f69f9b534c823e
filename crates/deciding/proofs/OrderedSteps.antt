-- What one document of a history is at each place of an order that explains the history, and where its calls stand.
use Rattle.std.proofs.Common.{ℕ, zero, suc, ◌≡◌, ◌<◌, ◌≤◌, ◌⊎◌, ◌==◌, inl, inr, List, [], ◌∷◌, refl, sym, ap, subst, ◌∙◌, arith, Bool, true, false, Option, Some, None, slice_get}
use Rattle.std.specs.Prelude.{if◌then◌else◌, map, option_map}
use Rattle.std.proofs.lemmas.Option.{slice_get-map}
use Rattle.std.proofs.Common.{eq-eqb, true≢false}
use Rattle.std.proofs.lemmas.Bool.{eqb-true}
use Rattle.version_pair.specs.declared.pair.Pair.{Pair}
use Rattle.version_pair.specs.PairOrder.{IsBelow}
use Rattle.doc_register.specs.declared.reply.Reply.{Reply as Answer}
use Rattle.doc_register.specs.declared.state.Conflicts.{Conflicts}
use Rattle.doc_register.specs.declared.state.DocState.{DocState}
use Rattle.doc_register.specs.declared.state.DocState.TheVariants.{Never}
use Rattle.doc_register.specs.Register.{DocStep, Performs, last_pair}
use Rattle.doc_register.specs.Run.{Entry, pair_taken, start}
use Rattle.doc_register.proofs.RunLemmas.{AtMost, below_new, not_below_itself, step_kind}
use Rattle.doc_register.proofs.RunLaws.{pair_performs}
use Rattle.events.specs.declared.event.Event.{Event}
use Rattle.events.specs.declared.record.Rec.{Rec}
use Rattle.events.specs.Events.{IsCallAt, IsHistory, IsReplyAt, PassesAt, Precedes, is_call, records_of}
use Rattle.events.specs.Laws.{IsSplitByDocument}
use Rattle.events.specs.Order.{Explains, IsOfCall, Placed, run_of}
use Rattle.events.proofs.EventLemmas.{same_call}
use Rattle.events.proofs.HistoryLemmas.{call_passes}
use Rattle.version_pair.proofs.ListLemmas.{compare, mapped_from, none_is_not_some, same_some}
use Rattle.events.proofs.RecordLaws.{split_by_document}
use Rattle.deciding.specs.Facts.{Facts}
use Rattle.deciding.specs.Reported.{IsListed}
use Rattle.deciding.proofs.DocumentSteps.{IsTakenBefore, at_place, came, keeps, leaves_it, never_written, own_step, pair_reached}

-- ---- a document that an order explains

pub record Explained : Type 0 where
  pub facts : Facts
  pub events : List Event
  pub order : List Placed
  pub doc : List ℕ
  pub history : IsHistory events
  pub explains : Explains facts.conflicts events order
  -- the document takes no pair that another one has
  pub apart : (i : ℕ) (p : Placed) (q : Pair) → slice_get order i ≡ Some p → p.entry.doc ≡ doc → pair_taken p.entry.reply p.entry.hidden ≡ Some q → facts.elsewhere q ≡ false

-- a document of a history that an order explains, with nothing known of other documents
abbrev pub explained_by : (conflicts : Conflicts) (events : List Event) (order : List Placed) (d : List ℕ) → IsHistory events → Explains conflicts events order → Explained
explained_by conflicts events order d history explains = record {
  facts = record { conflicts = conflicts; elsewhere = λ q. false };
  events = events;
  order = order;
  doc = d;
  history = history;
  explains = explains;
  apart = λ i p q at own takes. refl;
}

-- the records of the document
abbrev pub recs : Explained → List Rec
recs x = records_of x.events x.doc

-- what the document is before a place of the order
abbrev pub doc_at : Explained → ℕ → DocState
doc_at x i = at_place x.doc i start (run_of x.order) x.explains.legal.0 x.explains.legal.1

-- a call of the document stands at the place
pub record IsEntry (x : Explained) (i : ℕ) (p : Placed) : Type 0 where
  pub at : slice_get x.order i ≡ Some p
  pub doc : p.entry.doc ≡ x.doc

-- ---- steps

-- what a function makes of an element stands at its place
pub mapped_at : {X Y : Type 0} (f : X → Y) (xs : List X) (i : ℕ) (x : X) → slice_get xs i ≡ Some x → slice_get (map f xs) i ≡ Some (f x)
mapped_at f xs i x at = slice_get-map f xs i ∙ ap (option_map f) at

pub entry_at : (order : List Placed) (i : ℕ) (p : Placed) → slice_get order i ≡ Some p → slice_get (run_of order) i ≡ Some p.entry
entry_at order i p at = mapped_at (λ (y : Placed). y.entry) order i p at

pub step_at : (x : Explained) (i : ℕ) (p : Placed) → IsEntry x i p → DocStep (doc_at x i) p.entry.op p.entry.reply p.entry.hidden (doc_at x (suc i))
step_at x i p e =
    subst (λ d. DocStep (at_place d i start (run_of x.order) x.explains.legal.0 x.explains.legal.1) p.entry.op p.entry.reply p.entry.hidden (at_place d (suc i) start (run_of x.order) x.explains.legal.0 x.explains.legal.1))
    e.doc (own_step i start (run_of x.order) x.explains.legal.0 x.explains.legal.1 p.entry (entry_at x.order i p e.at))

pub performs_at : (x : Explained) (i : ℕ) (p : Placed) (q : Pair) → IsEntry x i p → pair_taken p.entry.reply p.entry.hidden ≡ Some q → Performs (doc_at x i) p.entry.op q (doc_at x (suc i))
performs_at x i p q e takes =
    pair_performs (doc_at x i) p.entry (doc_at x (suc i)) q takes (step_kind (doc_at x i) p.entry.op p.entry.reply p.entry.hidden (doc_at x (suc i)) (step_at x i p e))

-- the document does not fall below a pair that it has reached
pub reached_later : (x : Explained) (q : Pair) (i j : ℕ) → i ≤ j → AtMost q (doc_at x i) → AtMost q (doc_at x j)
reached_later x q i j within most = keeps x.doc q i j start (run_of x.order) x.explains.legal.0 x.explains.legal.1 within most

-- once a pair is taken the document has reached it
pub reached_after : (x : Explained) (i j : ℕ) (p : Placed) (q : Pair) → i < j → IsEntry x i p → pair_taken p.entry.reply p.entry.hidden ≡ Some q → AtMost q (doc_at x j)
reached_after x i j p q below e takes =
    reached_later x q (suc i) j (omega arith)
    (pair_reached (doc_at x (suc i)) q (leaves_it (doc_at x i) p.entry.op q (doc_at x (suc i)) (performs_at x i p q e takes)).1)

-- what stands first has the lesser pair
pub lesser_first : (x : Explained) (i j : ℕ) (p r : Placed) (q v : Pair) → i < j → IsEntry x i p → IsEntry x j r
    → pair_taken p.entry.reply p.entry.hidden ≡ Some q → pair_taken r.entry.reply r.entry.hidden ≡ Some v → IsBelow q v
lesser_first x i j p r q v below e f takes takes_too =
    below_new q v (doc_at x j) (reached_after x i j p q below e takes) (performs_at x j r v f takes_too).rises

-- a pair is taken at one place
pub same_place : (x : Explained) (i j : ℕ) (p r : Placed) (q : Pair) → IsEntry x i p → IsEntry x j r
    → pair_taken p.entry.reply p.entry.hidden ≡ Some q → pair_taken r.entry.reply r.entry.hidden ≡ Some q → i ≡ j
same_place x i j p r q e f takes takes_too =
    compare i j (λ below. not_below_itself q (lesser_first x i j p r q q below e f takes takes_too))
    (λ below. not_below_itself q (lesser_first x j i r p q q below f e takes_too takes))

-- ---- where a pair is taken

pub record IsTaken (x : Explained) (q : Pair) : Type 0 where
  pub place : ℕ
  pub placed : Placed
  pub entry : IsEntry x place placed
  pub takes : pair_taken placed.entry.reply placed.entry.hidden ≡ Some q

-- the call that took the document's pair, and left the document as it is
pub record IsTakenFor (x : Explained) (j : ℕ) (q : Pair) : Type 0 where
  pub own : IsTaken x q
  pub before : own.place < j
  pub stays : doc_at x (suc own.place) ≡ doc_at x j

pub taken_for : (x : Explained) (j : ℕ) (q : Pair) → last_pair (doc_at x j) ≡ Some q → IsTakenFor x j q
taken_for x j q is = by_coming (came x.doc j start (run_of x.order) x.explains.legal.0 x.explains.legal.1) where
  by_coming : (doc_at x j ≡ Never) ⊎ IsTakenBefore x.doc j start (run_of x.order) x.explains.legal.0 x.explains.legal.1 → IsTakenFor x j q
  by_coming (inl never) = absurd (none_is_not_some q (sym (ap last_pair never) ∙ is))
  by_coming (inr given) =
      let p = mapped_from (λ (y : Placed). y.entry) x.order given.place given.entry given.at in
      let e : IsEntry x given.place p.0 = record { at = p.1; doc = ap (λ (y : Entry). y.doc) p.2 ∙ given.doc } in
      let takes : pair_taken p.0.entry.reply p.0.entry.hidden ≡ Some given.pair = ap (λ (y : Entry). pair_taken y.reply y.hidden) p.2 ∙ given.takes in
      let left = leaves_it (doc_at x given.place) p.0.entry.op given.pair (doc_at x (suc given.place)) (performs_at x given.place p.0 given.pair e takes) in
      let same : Some given.pair ≡ Some q = sym left.1 ∙ (ap last_pair given.stays ∙ is) in
      record {
        own = record { place = given.place; placed = p.0; entry = e; takes = takes ∙ same };
        before = given.before;
        stays = given.stays;
      }

-- with one pair the document is in one state
pub same_state : (x : Explained) (i j : ℕ) → last_pair (doc_at x i) ≡ last_pair (doc_at x j) → doc_at x i ≡ doc_at x j
same_state x i j same = by_pair (last_pair (doc_at x i)) refl where
  by_pair : (o : Option Pair) → last_pair (doc_at x i) ≡ o → doc_at x i ≡ doc_at x j
  by_pair None is = never_written (doc_at x i) is ∙ sym (never_written (doc_at x j) (sym same ∙ is))
  by_pair (Some q) is =
      let a = taken_for x i q is in
      let b = taken_for x j q (sym same ∙ is) in
      let place : a.own.place ≡ b.own.place = same_place x a.own.place b.own.place a.own.placed b.own.placed q a.own.entry b.own.entry a.own.takes b.own.takes in
      sym a.stays ∙ (ap (λ k. doc_at x (suc k)) place ∙ b.stays)

-- ---- calls and records

-- the first place of the call with the number, or one past the last place
abbrev pub place_in : List Placed → ℕ → ℕ
place_in [] n = 0
place_in (p ∷ ps) n = if p.no == n then 0 else suc (place_in ps n)

-- where a call stands somewhere it stands at this place
pub place_found : (order : List Placed) (n i : ℕ) (p : Placed) → slice_get order i ≡ Some p → p.no ≡ n → (q : Placed) × (slice_get order (place_in order n) ≡ Some q) × (q.no ≡ n)
place_found [] n i p at number = absurd (none_is_not_some p at)
place_found (r ∷ rs) n i p at number = by_test (r.no == n) refl i at (λ j bt. place_found rs n j p bt number) where
  here : (b : Bool) → (q : Placed) → slice_get (r ∷ rs) (if b then 0 else suc (place_in rs n)) ≡ Some q → (r.no == n) ≡ b → slice_get (r ∷ rs) (place_in (r ∷ rs) n) ≡ Some q
  here b q at is = ap (λ c. slice_get (r ∷ rs) (if c then 0 else suc (place_in rs n))) is ∙ at

  by_test : (b : Bool) → (r.no == n) ≡ b → (i : ℕ) → slice_get (r ∷ rs) i ≡ Some p
      → ((j : ℕ) → slice_get rs j ≡ Some p → (q : Placed) × (slice_get rs (place_in rs n) ≡ Some q) × (q.no ≡ n))
      → (q : Placed) × (slice_get (r ∷ rs) (place_in (r ∷ rs) n) ≡ Some q) × (q.no ≡ n)
  by_test true is i at later = (r, here true r refl is, eqb-true r.no n is)
  by_test false is zero at later =
      let same : r ≡ p = same_some r p at in
      absurd (true≢false (sym (eq-eqb r.no n (ap (λ (y : Placed). y.no) same ∙ number)) ∙ is))
  by_test false is (suc i) at later = let q = later i at in (q.0, here false q.0 q.1 is, q.2)

-- what stands at this place has the number
pub place_is : (order : List Placed) (n : ℕ) (p : Placed) → slice_get order (place_in order n) ≡ Some p → p.no ≡ n
place_is [] n p at = absurd (none_is_not_some p at)
place_is (r ∷ rs) n p at = by_test (r.no == n) refl (sym (here (r.no == n) refl) ∙ at) (λ bt. place_is rs n p bt) where
  here : (b : Bool) → (r.no == n) ≡ b → slice_get (r ∷ rs) (place_in (r ∷ rs) n) ≡ slice_get (r ∷ rs) (if b then 0 else suc (place_in rs n))
  here b is = ap (λ c. slice_get (r ∷ rs) (if c then 0 else suc (place_in rs n))) is

  by_test : (b : Bool) → (r.no == n) ≡ b → slice_get (r ∷ rs) (if b then 0 else suc (place_in rs n)) ≡ Some p → (slice_get rs (place_in rs n) ≡ Some p → p.no ≡ n) → p.no ≡ n
  by_test true is at later = ap (λ (y : Placed). y.no) (sym (same_some r p at)) ∙ eqb-true r.no n is
  by_test false is at later = later at

pub split : (x : Explained) → IsSplitByDocument x.events
split x = split_by_document x.events x.history

-- the call of a record
pub call_of : (x : Explained) (j : ℕ) (r : Rec) → slice_get (recs x) j ≡ Some r → (h : ℕ) × IsCallAt x.events r.call_at r.no h x.doc r.op
call_of x j r at = (split x).of_call x.doc j r at

-- the reply of a record is that of its call
pub heard_reported : (x : Explained) (j : ℕ) (r : Rec) (replied : ℕ) (reply : Answer) → slice_get (recs x) j ≡ Some r → r.heard ≡ Some (replied, reply)
    → IsReplyAt x.events replied r.no reply
heard_reported x j r replied reply at heard = ((split x).heard x.doc j r at replied reply).0 heard

-- two records of the document with one number are one
pub same_index : (x : Explained) (j k : ℕ) (r s : Rec) → slice_get (recs x) j ≡ Some r → slice_get (recs x) k ≡ Some s → r.no ≡ s.no → j ≡ k
same_index x j k r s at bt number =
    let a = call_of x j r at in
    let b = call_of x k s bt in
    let place : r.call_at ≡ s.call_at = x.history.called_once r.no r.call_at s.call_at (call_passes x.events r.call_at r.no a.0 x.doc r.op a.1)
    (subst (λ n. PassesAt (is_call n) x.events s.call_at) (sym number) (call_passes x.events s.call_at s.no b.0 x.doc s.op b.1)) in
    ((split x).once x.doc x.doc j k r s at bt place).1

pub same_record : (x : Explained) (j k : ℕ) (r s : Rec) → slice_get (recs x) j ≡ Some r → slice_get (recs x) k ≡ Some s → r.no ≡ s.no → r ≡ s
same_record x j k r s at bt number = same_some r s (sym at ∙ (ap (slice_get (recs x)) (same_index x j k r s at bt number) ∙ bt))

-- the record is of the call that stands at a place
pub record IsRecordOf (x : Explained) (i : ℕ) (p : Placed) (r : Rec) : Type 0 where
  pub entry : IsEntry x i p
  pub listed : IsListed (recs x) r
  pub number : p.no ≡ r.no
  pub op : p.entry.op ≡ r.op

-- a call of a record, wherever it stands
pub of_record : (x : Explained) (i : ℕ) (p : Placed) (r : Rec) → slice_get x.order i ≡ Some p → IsListed (recs x) r → p.no ≡ r.no → IsRecordOf x i p r
of_record x i p r at listed number =
    let call = call_of x listed.0 r listed.1 in
    let of : IsOfCall x.events p = x.explains.is_order.calls i p at in
    let place : of.0 ≡ r.call_at = x.history.called_once r.no of.0 r.call_at
    (subst (λ n. PassesAt (is_call n) x.events of.0) number (call_passes x.events of.0 p.no p.entry.shard p.entry.doc p.entry.op of.1))
    (call_passes x.events r.call_at r.no call.0 x.doc r.op call.1) in
    let same = same_call x.events r.call_at p.no r.no p.entry.shard call.0 p.entry.doc x.doc p.entry.op r.op
    (subst (λ c. IsCallAt x.events c p.no p.entry.shard p.entry.doc p.entry.op) place of.1) call.1 in
    record { entry = record { at = at; doc = same.1 }; listed = listed; number = number; op = same.2 }

-- what stands in the order has a record
pub record_of : (x : Explained) (i : ℕ) (p : Placed) → IsEntry x i p → (r : Rec) × IsRecordOf x i p r
record_of x i p e =
    let of : IsOfCall x.events p = x.explains.is_order.calls i p e.at in
    let call : IsCallAt x.events of.0 p.no p.entry.shard x.doc p.entry.op = subst (λ d. IsCallAt x.events of.0 p.no p.entry.shard d p.entry.op) e.doc of.1 in
    let r = (split x).recorded of.0 p.no p.entry.shard x.doc p.entry.op call in
    let own = (split x).of_call x.doc r.0 r.1 r.2 in
    let same = same_call x.events of.0 p.no r.1.no p.entry.shard own.0 x.doc x.doc p.entry.op r.1.op call
    (subst (λ c. IsCallAt x.events c r.1.no own.0 x.doc r.1.op) r.3 own.1) in
    (r.1, record { entry = e; listed = (r.0, r.2); number = same.0; op = same.2 })

-- an answered call stands in the order, with its reply
pub record IsAnswered (x : Explained) (r : Rec) (reply : Answer) : Type 0 where
  pub placed : Placed
  pub own : IsRecordOf x (place_in x.order r.no) placed r
  pub replies : placed.entry.reply ≡ reply

pub answered : (x : Explained) (r : Rec) (replied : ℕ) (reply : Answer) → IsListed (recs x) r → r.heard ≡ Some (replied, reply) → IsAnswered x r reply
answered x r replied reply listed heard =
    let call = call_of x listed.0 r listed.1 in
    let a = x.explains.is_order.answered replied r.no reply (heard_reported x listed.0 r replied reply listed.1 heard) in
    let q = place_found x.order r.no a.0 a.1 a.2 a.3 in
    let place : place_in x.order r.no ≡ a.0 = x.explains.is_order.once (place_in x.order r.no) a.0 q.0 a.1 q.1 a.2 (q.2 ∙ sym a.3) in
    let same : q.0 ≡ a.1 = same_some q.0 a.1 (sym q.1 ∙ (ap (slice_get x.order) place ∙ a.2)) in
    record {
      placed = q.0;
      own = of_record x (place_in x.order r.no) q.0 r q.1 listed q.2;
      replies = ap (λ (y : Placed). y.entry.reply) same ∙ a.4;
    }

-- the reply to a call is that in the order, wherever it stands
pub same_reply : (x : Explained) (i : ℕ) (p : Placed) (r : Rec) (replied : ℕ) (reply : Answer) → IsRecordOf x i p r → r.heard ≡ Some (replied, reply) → p.entry.reply ≡ reply
same_reply x i p r replied reply of heard =
    let a = answered x r replied reply of.listed heard in
    let place : i ≡ place_in x.order r.no = x.explains.is_order.once i (place_in x.order r.no) p a.placed of.entry.at a.own.entry.at (of.number ∙ sym a.own.number) in
    let same : p ≡ a.placed = same_some p a.placed (sym of.entry.at ∙ (ap (slice_get x.order) place ∙ a.own.entry.at)) in
    ap (λ (y : Placed). y.entry.reply) same ∙ a.replies

-- a call that was answered before another was made stands before it
pub stands_first : (x : Explained) (i j : ℕ) (p q : Placed) (r s : Rec) (replied : ℕ) (reply : Answer) → IsRecordOf x i p r → IsRecordOf x j q s
    → r.heard ≡ Some (replied, reply) → replied < s.call_at → i < j
stands_first x i j p q r s replied reply of with_it heard before =
    let call = call_of x with_it.listed.0 s with_it.listed.1 in
    let first : Precedes x.events r.no s.no = record {
      answered = replied;
      called = s.call_at;
      before = before;
      reply = (reply, heard_reported x of.listed.0 r replied reply of.listed.1 heard);
      call = call_passes x.events s.call_at s.no call.0 x.doc s.op call.1;
    } in
    x.explains.respects i j p q of.entry.at with_it.entry.at
    (subst (λ n. Precedes x.events n q.no) (sym of.number) (subst (λ n. Precedes x.events r.no n) (sym with_it.number) first))
