-- What a history says of the calls that evidence names, and where that is evidence.
use Rattle.std.proofs.Common.{ℕ, ◌≡◌, ◌≢◌, ◌<◌, ◌≤◌, ◌⊎◌, arith, inl, inr, List, refl, sym, ap, subst, ◌∙◌, false, true, Option, Some, None, length, option_map, slice_get}
use Rattle.std.specs.Prelude.{◌↔◌, IsSome}
use Rattle.std.specs.Cmp.Lexicographic.{bytes_decides}
use Rattle.std.proofs.lemmas.Option.{slice_get_within}
use Rattle.version_pair.specs.declared.pair.Pair.{Pair}
use Rattle.version_pair.specs.PairOrder.{IsBelow}
use Rattle.doc_register.specs.declared.op.Op.{Op}
use Rattle.doc_register.specs.declared.op.Op.TheVariants.{Delete}
use Rattle.doc_register.specs.declared.reply.Reply.{Reply as Answer}
use Rattle.doc_register.specs.declared.reply.Reply.TheVariants.{Found, Missing}
use Rattle.doc_register.specs.declared.state.Conflicts.{Conflicts}
use Rattle.events.specs.declared.event.Event.{Event}
use Rattle.events.specs.declared.event.Event.TheVariants.{Call, Reply}
use Rattle.events.specs.Events.{IsCallAt, IsHistory, PassesAt, Precedes, heard_of, is_call_of}
use Rattle.events.proofs.HistoryLemmas.{call_passes, reply_passes}
use Rattle.version_pair.proofs.ListLemmas.{none_is_not_some, same_some}
use Rattle.events.specs.Heard.{taken_by}
use Rattle.doc_register.specs.Register.{condition_of, value_of}
use Rattle.evidence.specs.Evidence.{HasNoWriter, IsFound, IsMissedWrite, IsMissing, IsPairTwice, IsPerformed, IsRemover, IsStaleGet, IsStaleSwap, IsWriter, MayTake, MayTakeAbove}
use Rattle.evidence.specs.aids.CallsWithPairs.{AsksTooLittle, IsFoundGet, IsMissingGet, IsPerformedWrite}
use Rattle.evidence.specs.declared.answered_call.FoundGet.{FoundGet}
use Rattle.evidence.specs.declared.answered_call.MissingGet.{MissingGet}
use Rattle.evidence.specs.declared.answered_call.PerformedWrite.{PerformedWrite}
use Rattle.evidence.proofs.CallsByNumber.{same_shard}
use Rattle.evidence.proofs.HeardLemmas.{heard_is_reply}
use Rattle.events.proofs.EventLemmas.{same_call}

-- ---- calls at places

-- a call is one of its document
pub of_document : (events : List Event) (i n h : ℕ) (d : List ℕ) (op : Op) → IsCallAt events i n h d op → PassesAt (is_call_of d) events i
of_document events i n h d op at = ap (option_map (is_call_of d)) at ∙ ap (λ b. Some b) ((bytes_decides d d).1 refl)

-- and of no other
pub of_no_other : (events : List Event) (i n h : ℕ) (d e : List ℕ) (op : Op) → IsCallAt events i n h e op → PassesAt (is_call_of d) events i → e ≡ d
of_no_other events i n h d e op at passes = (bytes_decides e d).0 (same_some (is_call_of d (Call h n e op)) true (ap (option_map (is_call_of d)) (sym at) ∙ passes))

-- calls of one number are one call
pub record IsOneCall (events : List Event) (i j n h g : ℕ) (d e : List ℕ) (op o : Op) : Type 0 where
  pub place : i ≡ j
  pub shard : h ≡ g
  pub doc : d ≡ e
  pub operation : op ≡ o

one_call : (events : List Event) (i j n h g : ℕ) (d e : List ℕ) (op o : Op) → IsHistory events → IsCallAt events i n h d op → IsCallAt events j n g e o → IsOneCall events i j n h g d e op o
one_call events i j n h g d e op o history at bt =
    let place : i ≡ j = history.called_once n i j (call_passes events i n h d op at) (call_passes events j n g e o bt) in
    let moved : IsCallAt events j n h d op = subst (λ k. IsCallAt events k n h d op) place at in
    let same = same_call events j n n h g d e op o moved bt in
    record { place = place; shard = same_shard events j n n h g d e op o moved bt; doc = same.1; operation = same.2 }

-- ---- what the history says of a call

-- a performed write as the history describes it
abbrev pub performed_as : (events : List Event) (n : ℕ) (w : PerformedWrite) (look : IsPerformedWrite events n w) (d : List ℕ) (q : Pair) → look.doc ≡ d → w.pair ≡ q → IsPerformed events n d q
performed_as events n w look d q doc pair = record {
  called = w.called;
  shard = w.shard;
  op = w.op;
  call = subst (λ e. IsCallAt events w.called n w.shard e w.op) doc look.call;
  shows = ap (λ o. taken_by o None) look.heard ∙ (look.shows ∙ ap (λ x. Some x) pair);
}

-- what it says is the only one
pub record IsThatWrite (events : List Event) (n : ℕ) (w : PerformedWrite) (d e : List ℕ) (q : Pair) (p : IsPerformed events n d q) : Type 0 where
  pub call : IsOneCall events w.called p.called n w.shard p.shard e d w.op p.op
  pub pair : w.pair ≡ q

that_write : (events : List Event) (n : ℕ) (w : PerformedWrite) (d : List ℕ) (q : Pair) → IsHistory events → (look : IsPerformedWrite events n w) (p : IsPerformed events n d q)
    → IsThatWrite events n w d look.doc q p
that_write events n w d q history look p = record {
  call = one_call events w.called p.called n w.shard p.shard look.doc d w.op p.op history look.call p.call;
  pair = same_some w.pair q (sym (ap (λ o. taken_by o None) look.heard ∙ look.shows) ∙ p.shows);
}

-- the same of a get that found its document
pub found_as : (events : List Event) (n : ℕ) (get : FoundGet) (look : IsFoundGet events n get) → IsFound events n look.doc get.replied get.pair get.k
found_as events n get look = record { called = get.called; shard = look.shard; op = look.op; call = look.call; heard = look.heard }

pub record IsThatGet (events : List Event) (n : ℕ) (get : FoundGet) (d e : List ℕ) (i : ℕ) (p : Pair) (k : ℕ) (found : IsFound events n d i p k) : Type 0 where
  pub place : get.called ≡ found.called
  pub doc : e ≡ d
  pub replied : get.replied ≡ i
  pub pair : get.pair ≡ p
  pub number : get.k ≡ k

same_found : (o : Option (ℕ × Answer)) (x y : ℕ) (p q : Pair) (k n : ℕ) → o ≡ Some (x, Found p k) → o ≡ Some (y, Found q n) → (x ≡ y) × (p ≡ q) × (k ≡ n)
same_found o x y p q k n at bt =
    let here : ℕ × Answer = (x, Found p k) in
    let there : ℕ × Answer = (y, Found q n) in
    let one : here ≡ there = same_some here there (sym at ∙ bt) in
    let place : x ≡ y = ap (λ (z : ℕ × Answer). z.0) one in
    let reply : Found p k ≡ Found q n = ap (λ (z : ℕ × Answer). z.1) one in
    (place, cc, cc)

that_get : (events : List Event) (n : ℕ) (get : FoundGet) (d : List ℕ) (i : ℕ) (p : Pair) (k : ℕ) → IsHistory events → (look : IsFoundGet events n get) (found : IsFound events n d i p k)
    → IsThatGet events n get d look.doc i p k found
that_get events n get d i p k history look found =
    let call = one_call events get.called found.called n look.shard found.shard look.doc d look.op found.op history look.call found.call in
    let same = same_found (heard_of events n) get.replied i get.pair p get.k k look.heard found.heard in
    record { place = call.place; doc = call.doc; replied = same.0; pair = same.1; number = same.2 }

-- its places are within the history
pub write_within : (events : List Event) (n : ℕ) (w : PerformedWrite) → IsPerformedWrite events n w → w.called < length events
write_within events n w look = slice_get_within events w.called (Call w.shard n look.doc w.op) look.call

pub get_within : (events : List Event) (n : ℕ) (get : FoundGet) → IsFoundGet events n get → get.called < length events
get_within events n get look = slice_get_within events get.called (Call look.shard n look.doc look.op) look.call

-- ---- a pair twice

pub twice_reported : (events : List Event) (a b : ℕ) (one two : PerformedWrite) → IsHistory events → IsPerformedWrite events a one → IsPerformedWrite events b two → a ≢ b
    → ((one.shard ≡ two.shard) × (one.pair ≡ two.pair)) ↔ IsPairTwice events a b
twice_reported events a b one two history x y apart = (
  λ same. record {
    apart = apart;
    pair = one.pair;
    doc = x.doc;
    other = y.doc;
    one = performed_as events a one x x.doc one.pair refl refl;
    two = performed_as events b two y y.doc one.pair refl (sym same.1);
    same_shard = same.0;
  },
  λ twice.
      let first = that_write events a one twice.doc twice.pair history x twice.one in
      let second = that_write events b two twice.other twice.pair history y twice.two in
      (first.call.shard ∙ (twice.same_shard ∙ sym second.call.shard), first.pair ∙ sym second.pair),
)

-- ---- precedence

-- a performed write precedes the call at a later place than its reply
precedes : (events : List Event) (a b : ℕ) (w : PerformedWrite) (j h : ℕ) (d : List ℕ) (op : Op) → IsHistory events → IsPerformedWrite events a w → IsCallAt events j b h d op
    → w.replied < j ↔ Precedes events a b
precedes events a b w j h d op history look call =
    let reply = heard_is_reply events history w.called a w.shard look.doc w.op look.call w.replied look.reply look.heard in (
      λ before. record { answered = w.replied; called = j; before = before; reply = (look.reply, reply); call = call_passes events j b h d op call },
      λ first.
          let answered : first.answered ≡ w.replied =
          history.ended_once a first.answered w.replied (reply_passes events first.answered a first.reply.0 first.reply.1) (reply_passes events w.replied a look.reply reply) in
          let called : first.called ≡ j = history.called_once b first.called j first.call (call_passes events j b h d op call) in
          subst (λ x. x < j) answered (subst (λ x. first.answered < x) called first.before),
    )

-- ---- stale gets

pub stale_get_reported : (events : List Event) (g w : ℕ) (get : FoundGet) (write : PerformedWrite) → IsHistory events → (x : IsFoundGet events g get) (y : IsPerformedWrite events w write)
    → ((write.replied < get.called) × IsBelow get.pair write.pair × PassesAt (is_call_of x.doc) events write.called) ↔ IsStaleGet events g w
stale_get_reported events g w get write history x y = (
  λ (before, below, own). record {
    doc = x.doc;
    replied = get.replied;
    found = get.pair;
    number = get.k;
    pair = write.pair;
    get = found_as events g get x;
    write = performed_as events w write y x.doc write.pair (of_no_other events write.called w write.shard x.doc y.doc write.op y.call own) refl;
    first = (precedes events w g write get.called x.shard x.doc x.op history y x.call).0 before;
    below = below;
  },
  λ stale.
      let first = that_get events g get stale.doc stale.replied stale.found stale.number history x stale.get in
      let second = that_write events w write stale.doc stale.pair history y stale.write in (
        (precedes events w g write get.called x.shard x.doc x.op history y x.call).1 stale.first,
        subst (λ p. IsBelow p write.pair) (sym first.pair) (subst (IsBelow stale.found) (sym second.pair) stale.below),
        of_document events write.called w write.shard x.doc write.op (subst (λ d. IsCallAt events write.called w write.shard d write.op) (second.call.doc ∙ sym first.doc) y.call),
      ),
)

-- ---- stale swaps

pub stale_swap_reported : (events : List Event) (a b : ℕ) (one two : PerformedWrite) → IsHistory events → (x : IsPerformedWrite events a one) → IsPerformedWrite events b two → a ≢ b
    → (AsksTooLittle one two × PassesAt (is_call_of x.doc) events two.called) ↔ IsStaleSwap events a b
stale_swap_reported events a b one two history x y apart = (
  λ (asks, own). record {
    apart = apart;
    doc = x.doc;
    pair = one.pair;
    later = two.pair;
    condition = asks.condition;
    one = performed_as events a one x x.doc one.pair refl refl;
    two = performed_as events b two y x.doc two.pair (of_no_other events two.called b two.shard x.doc y.doc two.op y.call own) refl;
    asks = asks.asks;
    below = asks.below;
    first = first_so asks.before;
  },
  λ stale.
      let first = that_write events a one stale.doc stale.pair history x stale.one in
      let second = that_write events b two stale.doc stale.later history y stale.two in (
        record {
          condition = stale.condition;
          asks = ap condition_of second.call.operation ∙ stale.asks;
          below = subst (IsBelow stale.condition) (sym first.pair) stale.below;
          before = before_so stale.first (sym first.pair) (sym second.pair);
        },
        of_document events two.called b two.shard x.doc two.op (subst (λ d. IsCallAt events two.called b two.shard d two.op) (second.call.doc ∙ sym first.call.doc) y.call),
      ),
) where
  order : one.replied < two.called ↔ Precedes events a b
  order = precedes events a b one two.called two.shard y.doc two.op history x y.call

  first_so : (one.replied < two.called) ⊎ IsBelow one.pair two.pair → Precedes events a b ⊎ IsBelow one.pair two.pair
  first_so (inl before) = inl (order.0 before)
  first_so (inr below) = inr below

  before_so : {p q : Pair} → Precedes events a b ⊎ IsBelow p q → p ≡ one.pair → q ≡ two.pair → (one.replied < two.called) ⊎ IsBelow one.pair two.pair
  before_so (inl before) same other = inl (order.1 before)
  before_so {p} {q} (inr below) same other = inr (subst (λ u. IsBelow u two.pair) same (subst (IsBelow p) other below))

-- ---- no writer

pub no_writer_reported : (conflicts : Conflicts) (events : List Event) (g : ℕ) (get : FoundGet) → IsHistory events → (x : IsFoundGet events g get)
    → ((j : ℕ) → ¬ IsWriter conflicts events x.doc get.replied get.pair get.k j) ↔ HasNoWriter conflicts events g
no_writer_reported conflicts events g get history x = (
  λ none. record { doc = x.doc; replied = get.replied; pair = get.pair; number = get.k; get = found_as events g get x; none = none },
  λ evidence j writer.
      let that = that_get events g get evidence.doc evidence.replied evidence.pair evidence.number history x evidence.get in
      evidence.none j (subst (λ d. IsWriter conflicts events d evidence.replied evidence.pair evidence.number j) that.doc
      (subst (λ i. IsWriter conflicts events x.doc i evidence.pair evidence.number j) that.replied
      (subst (λ p. IsWriter conflicts events x.doc get.replied p evidence.number j) that.pair
      (subst (λ k. IsWriter conflicts events x.doc get.replied get.pair k j) that.number writer)))),
)

-- the call at the place is a writer, if it may give the number with the pair and is of the document
pub writer_reported : (conflicts : Conflicts) (events : List Event) (d e : List ℕ) (get : FoundGet) (j n h : ℕ) (op : Op) → j < get.replied → IsCallAt events j n h e op
    → ((value_of op ≡ Some get.k) × MayTake conflicts (heard_of events n) get.pair × PassesAt (is_call_of d) events j) ↔ IsWriter conflicts events d get.replied get.pair get.k j
writer_reported conflicts events d e get j n h op before call = (
  λ (gives, takes, own). record {
    before = before;
    number = n;
    shard = h;
    op = op;
    call = subst (λ f. IsCallAt events j n h f op) (of_no_other events j n h d e op call own) call;
    gives = gives;
    takes = takes;
  },
  λ writer.
      let same = same_call events j writer.number n writer.shard h d e writer.op op writer.call call in (
        ap value_of (sym same.2) ∙ writer.gives,
        subst (λ m. MayTake conflicts (heard_of events m) get.pair) same.0 writer.takes,
        of_document events j n h d op (subst (λ f. IsCallAt events j n h f op) (sym same.1) call),
      ),
)

-- ---- missed writes

-- a get that found nothing as the history describes it
pub missing_as : (events : List Event) (n : ℕ) (get : MissingGet) (look : IsMissingGet events n get) → IsMissing events n look.doc get.replied
missing_as events n get look = record { called = get.called; shard = look.shard; op = look.op; call = look.call; heard = look.heard }

-- what it says is the only one
pub record IsThatMissing (get : MissingGet) (d e : List ℕ) (i : ℕ) : Type 0 where
  pub doc : e ≡ d
  pub replied : get.replied ≡ i

that_missing : (events : List Event) (n : ℕ) (get : MissingGet) (d : List ℕ) (i : ℕ) → IsHistory events → (look : IsMissingGet events n get) → IsMissing events n d i
    → IsThatMissing get d look.doc i
that_missing events n get d i history look missing =
    let call = one_call events get.called missing.called n look.shard missing.shard look.doc d look.op missing.op history look.call missing.call in
    let here : ℕ × Answer = (get.replied, Missing) in
    let there : ℕ × Answer = (i, Missing) in
    let one : here ≡ there = same_some here there (sym look.heard ∙ missing.heard) in
    record { doc = call.doc; replied = ap (λ (z : ℕ × Answer). z.0) one }

pub missing_within : (events : List Event) (n : ℕ) (get : MissingGet) → IsMissingGet events n get → get.called < length events
missing_within events n get look = slice_get_within events get.called (Call look.shard n look.doc look.op) look.call

pub missing_replied : (events : List Event) (n : ℕ) (get : MissingGet) → IsHistory events → (look : IsMissingGet events n get) → get.replied ≤ length events
missing_replied events n get history look =
    let within = slice_get_within events get.replied (Reply n Missing) (heard_is_reply events history get.called n look.shard look.doc look.op look.call get.replied Missing look.heard) in
    omega arith

pub missed_write_reported : (conflicts : Conflicts) (events : List Event) (g w : ℕ) (get : MissingGet) (write : PerformedWrite) → IsHistory events → (x : IsMissingGet events g get) → (y : IsPerformedWrite events w write)
    → ((write.replied < get.called) × IsSome (value_of write.op) × PassesAt (is_call_of x.doc) events write.called × ((j : ℕ) → ¬ IsRemover conflicts events x.doc get.replied write.pair j))
    ↔ IsMissedWrite conflicts events g w
missed_write_reported conflicts events g w get write history x y = (
  λ (before, gives, own, none).
      let number = IsSome-value (value_of write.op) gives in
      record {
        doc = x.doc;
        replied = get.replied;
        pair = write.pair;
        number = number.0;
        get = missing_as events g get x;
        write = performed_as events w write y x.doc write.pair (of_no_other events write.called w write.shard x.doc y.doc write.op y.call own) refl;
        gives = number.1;
        first = (precedes events w g write get.called x.shard x.doc x.op history y x.call).0 before;
        none = none;
      },
  λ missed.
      let first = that_missing events g get missed.doc missed.replied history x missed.get in
      let second = that_write events w write missed.doc missed.pair history y missed.write in (
        (precedes events w g write get.called x.shard x.doc x.op history y x.call).1 missed.first,
        some-IsSome (value_of write.op) missed.number (ap value_of second.call.operation ∙ missed.gives),
        of_document events write.called w write.shard x.doc write.op (subst (λ d. IsCallAt events write.called w write.shard d write.op) (second.call.doc ∙ sym first.doc) y.call),
        (λ j remover. missed.none j (subst (λ d. IsRemover conflicts events d missed.replied missed.pair j) first.doc
            (subst (λ i. IsRemover conflicts events x.doc i missed.pair j) first.replied
            (subst (λ q. IsRemover conflicts events x.doc get.replied q j) second.pair remover)))),
      ),
) where
  IsSome-value : (o : Option ℕ) → IsSome o → (k : ℕ) × (o ≡ Some k)
  IsSome-value None is = let impossible : false ≡ true = is in absurd (cc)
  IsSome-value (Some k) is = (k, refl)

  some-IsSome : (o : Option ℕ) (k : ℕ) → o ≡ Some k → IsSome o
  some-IsSome None k is = absurd (none_is_not_some k is)
  some-IsSome (Some j) k is = refl

-- the call at the place is a remover, if it may have taken a pair above and is of the document
pub remover_reported : (conflicts : Conflicts) (events : List Event) (d e : List ℕ) (get : MissingGet) (q : Pair) (j n h : ℕ) (c : Option Pair) → j < get.replied → IsCallAt events j n h e (Delete c)
    → (MayTakeAbove conflicts (heard_of events n) q × PassesAt (is_call_of d) events j) ↔ IsRemover conflicts events d get.replied q j
remover_reported conflicts events d e get q j n h c before call = (
  λ (takes, own). record {
    before = before;
    number = n;
    shard = h;
    condition = c;
    call = subst (λ f. IsCallAt events j n h f (Delete c)) (of_no_other events j n h d e (Delete c) call own) call;
    takes = takes;
  },
  λ remover.
      let same = same_call events j remover.number n remover.shard h d e (Delete remover.condition) (Delete c) remover.call call in (
        subst (λ m. MayTakeAbove conflicts (heard_of events m) q) same.0 remover.takes,
        of_document events j n h d (Delete c) (subst (λ f. IsCallAt events j n h f (Delete c)) (sym same.1) call),
      ),
)

-- no other call is one
pub no_other_removes : (conflicts : Conflicts) (events : List Event) (d : List ℕ) (i : ℕ) (q : Pair) (j : ℕ) (e : Event) → slice_get events j ≡ Some e
    → ((h n : ℕ) (f : List ℕ) (c : Option Pair) → e ≡ Call h n f (Delete c) → ⊥) → ¬ IsRemover conflicts events d i q j
no_other_removes conflicts events d i q j e at other remover =
    other remover.shard remover.number d remover.condition (same_some e (Call remover.shard remover.number d (Delete remover.condition)) (sym at ∙ remover.call))
