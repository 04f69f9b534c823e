-- A get that nothing explains by the records of its document is evidence in the history.
use Rattle.std.proofs.Common.{ℕ, ◌≡◌, ◌<◌, ◌⊎◌, inl, inr, List, refl, sym, ap, subst, ◌∙◌, Option, Some, None, get_or, slice_get}
use Rattle.std.proofs.lemmas.Option.{get_or_from_slice_get}
use Rattle.version_pair.specs.declared.pair.Pair.{Pair}
use Rattle.version_pair.specs.PairOrder.{IsBelow}
use Rattle.version_pair.proofs.ListLemmas.{none_is_not_some, same_some}
use Rattle.doc_register.specs.declared.op.Op.{Op}
use Rattle.doc_register.specs.declared.op.Op.TheVariants.{Delete}
use Rattle.doc_register.specs.declared.reply.Reply.{Reply as Answer}
use Rattle.doc_register.specs.declared.reply.Reply.TheVariants.{Indexed, Deleted, Found, Missing, Conflict}
use Rattle.doc_register.specs.Register.{value_of}
use Rattle.doc_register.specs.Run.{pair_taken}
use Rattle.events.specs.declared.event.Event.{Event}
use Rattle.events.specs.declared.record.Rec.{Rec}
use Rattle.events.specs.Events.{IsCallAt, IsHistory, PassesAt, Precedes, heard_of, is_call, records_of}
use Rattle.events.specs.Heard.{pair_of, taken_by}
use Rattle.events.proofs.EventLemmas.{same_call}
use Rattle.events.proofs.HistoryLemmas.{call_passes}
use Rattle.events.proofs.RecordLaws.{split_by_document}
use Rattle.evidence.specs.Evidence.{IsFound, IsMissing, IsPerformed, IsWriter, MayTake, MayTakeAbove}
use Rattle.evidence.specs.Evidence.{IsRemover as RemovesEarlier}
use Rattle.evidence.specs.declared.refuted.Refuted.TheVariants as kind
use Rattle.readings.specs.Gets.{IsOtherRemover, IsOtherWriter, IsUnexplainedGet}
use Rattle.readings.specs.Reading.{conflicts_as}
use Rattle.readings.specs.declared.document.Offence.TheVariants as offence
use Rattle.readings.specs.declared.peaks.Changes.{Changes}
use Rattle.readings.specs.declared.peaks.Changes.TheVariants.{All, Makes}
use Rattle.readings.specs.declared.reading.Reading.{Reading}
use Rattle.history.specs.declared.text_rules.Writes.TheVariants.{Repeated}
use Rattle.readings.specs.aids.Peaks.{IsAcknowledged, counted_pair, pair_made}
use Rattle.readings.specs.aids.Records.{HasRemover, HasSource, IsJudged, IsRemover, IsSource, Offends}
use Rattle.readings.proofs.GetLemmas.{IsCallOf, IsRecorded, call_of, recorded}

-- ---- calls of one number

-- the document of a number is one
one_document : (events : List Event) → IsHistory events → (i j n h g : ℕ) (d e : List ℕ) (op o : Op) → IsCallAt events i n h d op → IsCallAt events j n g e o → d ≡ e
one_document events history i j n h g d e op o at bt =
    let place : i ≡ j = history.called_once n i j (call_passes events i n h d op at) (call_passes events j n g e o bt) in
    (same_call events j n n h g d e op o (subst (λ k. IsCallAt events k n h d op) place at) bt).1

record SameFound (x y : ℕ) (p q : Pair) (k n : ℕ) : Type 0 where
  replied : x ≡ y
  pair : p ≡ q
  number : k ≡ n

same_found : (o : Option (ℕ × Answer)) (x y : ℕ) (p q : Pair) (k n : ℕ) → o ≡ Some (x, Found p k) → o ≡ Some (y, Found q n) → SameFound x y p q k n
same_found o x y p q k n at bt =
    let here : ℕ × Answer = (x, Found p k) in
    let there : ℕ × Answer = (y, Found q n) in
    let one : here ≡ there = same_some here there (sym at ∙ bt) in
    let reply : Found p k ≡ Found q n = ap (λ (z : ℕ × Answer). z.1) one in
    record { replied = ap (λ (z : ℕ × Answer). z.0) one; pair = cc; number = cc }

same_missing : (o : Option (ℕ × Answer)) (x y : ℕ) → o ≡ Some (x, Missing) → o ≡ Some (y, Missing) → x ≡ y
same_missing o x y at bt =
    let here : ℕ × Answer = (x, Missing) in
    let there : ℕ × Answer = (y, Missing) in
    let one : here ≡ there = same_some here there (sym at ∙ bt) in
    ap (λ (z : ℕ × Answer). z.0) one

-- ---- no writer

-- a call of the document that gave the number is a source
source_there : (reading : Reading) (events : List Event) → IsHistory events → (d : List ℕ) (at j n h k : ℕ) (op : Op) (p : Pair) → j < at → IsCallAt events j n h d op → value_of op ≡ Some k
    → MayTake (conflicts_as reading.conflicts) (heard_of events n) p ⊎ (reading.writes ≡ Repeated) → HasSource reading (records_of events d) at p k
source_there reading events history d at j n h k op p before call gives takes =
    let s = recorded events history j n h d op call in (
      s.place,
      s.own,
      s.at,
      record {
        before = subst (λ c. c < at) (sym s.called) before;
        gives = ap value_of s.operation ∙ gives;
        takes = subst (λ o. MayTake (conflicts_as reading.conflicts) o p ⊎ (reading.writes ≡ Repeated)) (sym s.heard) takes;
      },
    )

no_writer : (reading : Reading) (events : List Event) → IsHistory events → (d : List ℕ) (rec : ℕ) (r : Rec) → slice_get (records_of events d) rec ≡ Some r
    → (at : ℕ) (p : Pair) (k : ℕ) → r.heard ≡ Some (at, Found p k) → ¬ HasSource reading (records_of events d) at p k → IsUnexplainedGet reading events (kind.NoWriter r.no)
no_writer reading events history d rec r listed at p k is none =
    let call = call_of events history d rec r listed in
    let get : IsFound events r.no d at p k = record { called = r.call_at; shard = call.shard; op = r.op; call = call.call; heard = sym call.heard ∙ is } in
    record {
      of_get = tt;
      holds = record {
        doc = d;
        replied = at;
        pair = p;
        number = k;
        get = get;
        none = λ j writer. none (source_there reading events history d at j writer.number writer.shard k writer.op p writer.before writer.call writer.gives (inl writer.takes));
      };
      no_other = λ again j other.
          let same = same_found (heard_of events r.no) other.replied at other.pair p other.number k other.get.heard get.heard in
          let doc : other.doc ≡ d = one_document events history other.get.called get.called r.no other.get.shard get.shard other.doc d other.get.op get.op other.get.call get.call in
          none (source_there reading events history d at j other.writer other.shard k other.op p (subst (λ i. j < i) same.replied other.before)
          (subst (λ e. IsCallAt events j other.writer other.shard e other.op) doc other.call) (other.gives ∙ ap (λ n. Some n) same.number) (inr again));
    }

-- ---- stale gets and missed writes

shown_pair : (heard : Option (ℕ × Answer)) (q : Pair) → pair_of heard ≡ Some q → taken_by heard None ≡ Some q
shown_pair None q is = absurd (none_is_not_some q is)
shown_pair (Some (y, r)) q is = is

made_pair : (o : Option ℕ) (pair : Option Pair) (q : Pair) → pair_made o pair ≡ Some q → ((k : ℕ) × (o ≡ Some k)) × (pair ≡ Some q)
made_pair None pair q is = absurd (none_is_not_some q is)
made_pair (Some k) pair q is = ((k, refl), is)

counted_shown : (changes : Changes) (r : Rec) (q : Pair) → counted_pair changes r ≡ Some q → pair_of r.heard ≡ Some q
counted_shown All r q is = is
counted_shown Makes r q is = (made_pair (value_of r.op) (pair_of r.heard) q is).1

-- an acknowledged write precedes the get, and was performed
record Precedent (events : List Event) (d : List ℕ) (g : ℕ) (s : Rec) (q : Pair) : Type 0 where
  write : IsPerformed events s.no d q
  operation : write.op ≡ s.op
  first : Precedes events s.no g

precedent : (events : List Event) → IsHistory events → (changes : Changes) (d : List ℕ) (rec : ℕ) (r : Rec) → slice_get (records_of events d) rec ≡ Some r
    → (w : ℕ) (q : Pair) → (a : IsAcknowledged changes (records_of events d) r.call_at w q) → Precedent events d r.no a.own q
precedent events history changes d rec r listed w q a =
    let call = call_of events history d w a.own a.at in
    record {
      write = record {
        called = a.own.call_at;
        shard = call.shard;
        op = a.own.op;
        call = call.call;
        shows = ap (λ o. taken_by o None) (sym call.heard) ∙ shown_pair a.own.heard q (counted_shown changes a.own q a.pair);
      };
      operation = refl;
      first = ((split_by_document events history).precedes d w rec a.own r a.at listed).1 (a.replied, a.reply, a.heard, a.before);
    }

stale_get : (reading : Reading) (events : List Event) → IsHistory events → (d : List ℕ) (rec : ℕ) (r : Rec) → slice_get (records_of events d) rec ≡ Some r
    → (at : ℕ) (p : Pair) (k : ℕ) → r.heard ≡ Some (at, Found p k) → (w : ℕ) (q : Pair) → (a : IsAcknowledged All (records_of events d) r.call_at w q) → IsBelow p q
    → IsUnexplainedGet reading events (kind.StaleGet r.no a.own.no)
stale_get reading events history d rec r listed at p k is w q a below =
    let call = call_of events history d rec r listed in
    let before = precedent events history All d rec r listed w q a in
    record {
      of_get = tt;
      holds = record {
        doc = d;
        replied = at;
        found = p;
        number = k;
        pair = q;
        get = record { called = r.call_at; shard = call.shard; op = r.op; call = call.call; heard = sym call.heard ∙ is };
        write = before.write;
        first = before.first;
        below = below;
      };
      no_other = λ again j other. other;
    }

-- a delete of the document that may have removed it is a remover
remover_there : (reading : Reading) (events : List Event) → IsHistory events → (d : List ℕ) (at j n h : ℕ) (c : Option Pair) (q : Pair) → j < at → IsCallAt events j n h d (Delete c)
    → MayTakeAbove (conflicts_as reading.conflicts) (heard_of events n) q ⊎ ((reading.writes ≡ Repeated) × (c ≡ None)) → HasRemover reading (records_of events d) at q
remover_there reading events history d at j n h c q before call takes =
    let s = recorded events history j n h d (Delete c) call in (
      s.place,
      s.own,
      s.at,
      record {
        before = subst (λ i. i < at) (sym s.called) before;
        condition = c;
        deletes = s.operation;
        takes = subst (λ o. MayTakeAbove (conflicts_as reading.conflicts) o q ⊎ ((reading.writes ≡ Repeated) × (c ≡ None))) (sym s.heard) takes;
      },
    )

missed_write : (reading : Reading) (events : List Event) → IsHistory events → (d : List ℕ) (rec : ℕ) (r : Rec) → slice_get (records_of events d) rec ≡ Some r
    → (at : ℕ) → r.heard ≡ Some (at, Missing) → (w : ℕ) (q : Pair) → (a : IsAcknowledged Makes (records_of events d) r.call_at w q) → ¬ HasRemover reading (records_of events d) at q
    → IsUnexplainedGet reading events (kind.MissedWrite r.no a.own.no)
missed_write reading events history d rec r listed at is w q a none =
    let call = call_of events history d rec r listed in
    let before = precedent events history Makes d rec r listed w q a in
    let makes = (made_pair (value_of a.own.op) (pair_of a.own.heard) q a.pair).0 in
    let get : IsMissing events r.no d at = record { called = r.call_at; shard = call.shard; op = r.op; call = call.call; heard = sym call.heard ∙ is } in
    record {
      of_get = tt;
      holds = record {
        doc = d;
        replied = at;
        pair = q;
        number = makes.0;
        get = get;
        write = before.write;
        gives = ap value_of before.operation ∙ makes.1;
        first = before.first;
        none = λ j remover. none (remover_there reading events history d at j remover.number remover.shard remover.condition q remover.before remover.call (inl remover.takes));
      };
      no_other = λ again j other.
          let same : other.replied ≡ at = same_missing (heard_of events r.no) other.replied at other.get.heard get.heard in
          let doc : other.doc ≡ d = one_document events history other.get.called get.called r.no other.get.shard get.shard other.doc d other.get.op get.op other.get.call get.call in
          none (remover_there reading events history d at j other.remover other.shard None q (subst (λ i. j < i) same other.before)
          (subst (λ e. IsCallAt events j other.remover other.shard e (Delete None)) doc other.call) (inr (again, refl)));
    }

-- ---- what offends is evidence

never_so : {X : Type 0} (o : Option X) (x : X) → Some x ≡ None → ⊥
never_so o x is = none_is_not_some x (sym is)

offends_no_writer : (reading : Reading) (events : List Event) → IsHistory events → (d : List ℕ) (rec : ℕ) → (o : Offends reading (records_of events d) rec offence.NoWriter)
    → IsUnexplainedGet reading events (kind.NoWriter o.own.no)
offends_no_writer reading events history d rec o = by_heard o.own.heard refl o.judged where
  by_heard : (h : Option (ℕ × Answer)) → o.own.heard ≡ h → IsJudged reading (records_of events d) o.own.call_at h (Some offence.NoWriter) → IsUnexplainedGet reading events (kind.NoWriter o.own.no)
  by_heard None is judged = absurd (cc)
  by_heard (Some (at, Indexed q created)) is judged = absurd (cc)
  by_heard (Some (at, Deleted q found)) is judged = absurd (cc)
  by_heard (Some (at, Found p k)) is judged = no_writer reading events history d rec o.own o.at at p k is judged
  by_heard (Some (at, Missing)) is judged = absurd judged
  by_heard (Some (at, Conflict)) is judged = absurd (cc)

-- the write that a get misses is one of the records
offends_stale_get : (reading : Reading) (events : List Event) → IsHistory events → (d : List ℕ) (rec w : ℕ) → (o : Offends reading (records_of events d) rec (offence.StaleGet w))
    → (s : Rec) × (slice_get (records_of events d) w ≡ Some s) × IsUnexplainedGet reading events (kind.StaleGet o.own.no s.no)
offends_stale_get reading events history d rec w o = by_heard o.own.heard refl o.judged where
  by_heard : (h : Option (ℕ × Answer)) → o.own.heard ≡ h → IsJudged reading (records_of events d) o.own.call_at h (Some (offence.StaleGet w))
      → (s : Rec) × (slice_get (records_of events d) w ≡ Some s) × IsUnexplainedGet reading events (kind.StaleGet o.own.no s.no)
  by_heard None is judged = absurd (cc)
  by_heard (Some (at, Indexed q created)) is judged = absurd (cc)
  by_heard (Some (at, Deleted q found)) is judged = absurd (cc)
  by_heard (Some (at, Found p k)) is (q, a, below) = (a.own, a.at, stale_get reading events history d rec o.own o.at at p k is w q a below)
  by_heard (Some (at, Missing)) is judged = absurd judged
  by_heard (Some (at, Conflict)) is judged = absurd (cc)

offends_missed_write : (reading : Reading) (events : List Event) → IsHistory events → (d : List ℕ) (rec w : ℕ) → (o : Offends reading (records_of events d) rec (offence.MissedWrite w))
    → (s : Rec) × (slice_get (records_of events d) w ≡ Some s) × IsUnexplainedGet reading events (kind.MissedWrite o.own.no s.no)
offends_missed_write reading events history d rec w o = by_heard o.own.heard refl o.judged where
  by_heard : (h : Option (ℕ × Answer)) → o.own.heard ≡ h → IsJudged reading (records_of events d) o.own.call_at h (Some (offence.MissedWrite w))
      → (s : Rec) × (slice_get (records_of events d) w ≡ Some s) × IsUnexplainedGet reading events (kind.MissedWrite o.own.no s.no)
  by_heard None is judged = absurd (cc)
  by_heard (Some (at, Indexed q created)) is judged = absurd (cc)
  by_heard (Some (at, Deleted q found)) is judged = absurd (cc)
  by_heard (Some (at, Found p k)) is judged = absurd judged
  by_heard (Some (at, Missing)) is (q, a, none) = (a.own, a.at, missed_write reading events history d rec o.own o.at at is w q a none)
  by_heard (Some (at, Conflict)) is judged = absurd (cc)

-- ---- as the records of a document name it

-- the record that is read at a place
read_there : (rs : List Rec) (k : ℕ) (r s : Rec) → slice_get rs k ≡ Some s → r ≡ get_or rs k r → r ≡ s
read_there rs k r s at is = is ∙ get_or_from_slice_get rs k s r at

pub as_no_writer : (reading : Reading) (records : List Rec) (rec : ℕ) (r : Rec) → Offends reading records rec offence.NoWriter → r ≡ get_or records rec r
    → (events : List Event) (d : List ℕ) → IsHistory events → records_of events d ≡ records → IsUnexplainedGet reading events (kind.NoWriter r.no)
as_no_writer reading records rec r o is events d history same =
    subst (λ rs. Offends reading rs rec offence.NoWriter → r ≡ get_or rs rec r → IsUnexplainedGet reading events (kind.NoWriter r.no)) same
    (λ own there. subst (λ (x : Rec). IsUnexplainedGet reading events (kind.NoWriter x.no)) (sym (read_there (records_of events d) rec r own.own own.at there)) (offends_no_writer reading events history d rec own))
    o is

pub as_stale_get : (reading : Reading) (records : List Rec) (rec w : ℕ) (r x : Rec) → Offends reading records rec (offence.StaleGet w) → r ≡ get_or records rec r
    → (events : List Event) (d : List ℕ) → IsHistory events → records_of events d ≡ records → IsUnexplainedGet reading events (kind.StaleGet r.no (get_or records w x).no)
as_stale_get reading records rec w r x o is events d history same =
    subst (λ rs. Offends reading rs rec (offence.StaleGet w) → r ≡ get_or rs rec r → IsUnexplainedGet reading events (kind.StaleGet r.no (get_or rs w x).no)) same
    (λ own there.
    let e = offends_stale_get reading events history d rec w own in
    subst (λ (y : Rec). IsUnexplainedGet reading events (kind.StaleGet y.no (get_or (records_of events d) w x).no)) (sym (read_there (records_of events d) rec r own.own own.at there))
    (subst (λ (y : Rec). IsUnexplainedGet reading events (kind.StaleGet own.own.no y.no)) (sym (get_or_from_slice_get (records_of events d) w e.0 x e.1)) e.2))
    o is

pub as_missed_write : (reading : Reading) (records : List Rec) (rec w : ℕ) (r x : Rec) → Offends reading records rec (offence.MissedWrite w) → r ≡ get_or records rec r
    → (events : List Event) (d : List ℕ) → IsHistory events → records_of events d ≡ records → IsUnexplainedGet reading events (kind.MissedWrite r.no (get_or records w x).no)
as_missed_write reading records rec w r x o is events d history same =
    subst (λ rs. Offends reading rs rec (offence.MissedWrite w) → r ≡ get_or rs rec r → IsUnexplainedGet reading events (kind.MissedWrite r.no (get_or rs w x).no)) same
    (λ own there.
    let e = offends_missed_write reading events history d rec w own in
    subst (λ (y : Rec). IsUnexplainedGet reading events (kind.MissedWrite y.no (get_or (records_of events d) w x).no)) (sym (read_there (records_of events d) rec r own.own own.at there))
    (subst (λ (y : Rec). IsUnexplainedGet reading events (kind.MissedWrite own.own.no y.no)) (sym (get_or_from_slice_get (records_of events d) w e.0 x e.1)) e.2))
    o is
