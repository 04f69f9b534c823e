-- Gets that are judged by the records of their documents, and what that says of the history.
use Rattle.std.proofs.Common.{ℕ, ◌≡◌, ◌<◌, ◌⊎◌, inl, inr, List, refl, sym, ap, subst, ◌∙◌, Option, Some, None, slice_get}
use Rattle.version_pair.specs.declared.pair.Pair.{Pair}
use Rattle.version_pair.specs.PairOrder.{IsBelow}
use Rattle.version_pair.proofs.ListLemmas.{none_is_not_some, same_some}
use Rattle.doc_register.specs.declared.op.Op.{Op}
use Rattle.doc_register.specs.declared.op.Op.TheVariants.{Delete}
use Rattle.doc_register.specs.declared.reply.Reply.{Reply as Answer}
use Rattle.doc_register.specs.declared.reply.Reply.TheVariants.{Indexed, Deleted, Found, Missing, Conflict}
use Rattle.doc_register.specs.Register.{value_of}
use Rattle.doc_register.specs.Run.{pair_taken}
use Rattle.events.specs.declared.event.Event.{Event}
use Rattle.events.specs.declared.record.Rec.{Rec}
use Rattle.events.specs.Events.{IsCallAt, IsHistory, Precedes, heard_of, records_of}
use Rattle.events.specs.Heard.{pair_of, taken_by}
use Rattle.events.specs.Laws.{IsRecordAt, IsSplitByDocument}
use Rattle.events.proofs.EventLemmas.{same_call}
use Rattle.events.proofs.HistoryLemmas.{call_passes}
use Rattle.events.proofs.RecordLaws.{split_by_document}
use Rattle.evidence.specs.Evidence.{IsFound, IsMissing, IsPerformed, IsWriter, MayTake, MayTakeAbove}
use Rattle.evidence.specs.Evidence as evidence
use Rattle.evidence.specs.declared.refuted.Refuted.{Refuted}
use Rattle.evidence.specs.declared.refuted.Refuted.TheVariants as kind
use Rattle.evidence.proofs.HeardLemmas.{record_heard}
use Rattle.readings.specs.Gets.{IsOtherRemover, IsOtherWriter, IsUnexplainedGet}
use Rattle.readings.specs.Reading.{conflicts_as}
use Rattle.readings.specs.declared.document.Offence.{Offence}
use Rattle.readings.specs.declared.document.Offence.TheVariants as offence
use Rattle.readings.specs.declared.peaks.Changes.{Changes}
use Rattle.readings.specs.declared.peaks.Changes.TheVariants.{All, Makes}
use Rattle.readings.specs.declared.reading.Reading.{Reading}
use Rattle.history.specs.declared.text_rules.Writes.TheVariants.{Repeated}
use Rattle.readings.specs.aids.Peaks.{IsAcknowledged, counted_pair, pair_made}
use Rattle.readings.specs.aids.Records.{AreExplained, HasRemover, HasSource, IsFoundJudged, IsJudged, IsMissingJudged, IsRemover, IsSource, Offends}

-- ---- records of calls

-- the record of a call
pub record IsRecorded (events : List Event) (i n : ℕ) (d : List ℕ) (op : Op) : Type 0 where
  pub place : ℕ
  pub own : Rec
  pub at : IsRecordAt events d place own
  pub called : own.call_at ≡ i
  pub number : own.no ≡ n
  pub operation : own.op ≡ op
  pub heard : own.heard ≡ heard_of events n

pub recorded : (events : List Event) → IsHistory events → (i n h : ℕ) (d : List ℕ) (op : Op) → IsCallAt events i n h d op → IsRecorded events i n d op
recorded events history i n h d op at =
    let split = split_by_document events history in
    let r = split.recorded i n h d op at in
    let of = split.of_call d r.0 r.1 r.2 in
    let same = same_call events i r.1.no n of.0 h d d r.1.op op (subst (λ c. IsCallAt events c r.1.no of.0 d r.1.op) r.3 of.1) at in
    record { place = r.0; own = r.1; at = r.2; called = r.3; number = same.0; operation = same.2; heard = record_heard events d r.0 r.1 r.2 ∙ ap (heard_of events) same.0 }

-- the call of a record
pub record IsCallOf (events : List Event) (d : List ℕ) (r : Rec) : Type 0 where
  pub shard : ℕ
  pub call : IsCallAt events r.call_at r.no shard d r.op
  pub heard : r.heard ≡ heard_of events r.no

pub call_of : (events : List Event) → IsHistory events → (d : List ℕ) (k : ℕ) (r : Rec) → IsRecordAt events d k r → IsCallOf events d r
call_of events history d k r at =
    let of = (split_by_document events history).of_call d k r at in
    record { shard = of.0; call = of.1; heard = record_heard events d k r at }

-- ---- acknowledged writes

shown_heard : (heard : Option (ℕ × Answer)) (q : Pair) → taken_by heard None ≡ Some q → (y : ℕ) × (r : Answer) × (heard ≡ Some (y, r)) × (pair_taken r None ≡ Some q)
shown_heard None q is = absurd (none_is_not_some q is)
shown_heard (Some (y, r)) q is = (y, r, refl, is)

heard_pair : (heard : Option (ℕ × Answer)) (q : Pair) → taken_by heard None ≡ Some q → pair_of heard ≡ Some q
heard_pair None q is = absurd (none_is_not_some q is)
heard_pair (Some (y, r)) q is = is

counted : (changes : Changes) (r : Rec) (q : Pair) → pair_of r.heard ≡ Some q → ((changes ≡ Makes) → (k : ℕ) × (value_of r.op ≡ Some k)) → counted_pair changes r ≡ Some q
counted All r q is makes = is
counted Makes r q is makes = let v = makes refl in ap (λ o. pair_made o (pair_of r.heard)) v.1 ∙ is

-- a performed write that precedes a call of its document was acknowledged before it
pub acknowledged : (events : List Event) → IsHistory events → (changes : Changes) (d : List ℕ) (w g c h : ℕ) (op : Op) (q : Pair) → (write : IsPerformed events w d q) → IsCallAt events c g h d op
    → Precedes events w g → ((changes ≡ Makes) → (k : ℕ) × (value_of write.op ≡ Some k)) → (j : ℕ) × IsAcknowledged changes (records_of events d) c j q
acknowledged events history changes d w g c h op q write call first makes =
    let s = recorded events history write.called w write.shard d write.op write.call in
    let r = recorded events history c g h d op call in
    let shown : taken_by s.own.heard None ≡ Some q = ap (λ o. taken_by o None) s.heard ∙ write.shows in
    let split = split_by_document events history in
    let before = (split.precedes d s.place r.place s.own r.own s.at r.at).0
    (subst (λ n. Precedes events n r.own.no) (sym s.number) (subst (λ n. Precedes events w n) (sym r.number) first)) in (
      s.place,
      record {
        own = s.own;
        at = s.at;
        replied = before.0;
        reply = before.1;
        heard = before.2;
        before = subst (λ n. before.0 < n) r.called before.3;
        pair = counted changes s.own q (heard_pair s.own.heard q shown) (λ is. let v = makes is in (v.0, ap value_of s.operation ∙ v.1));
      },
    )

-- ---- gets that are explained

-- a record of a call that was judged, by what was heard of the call
judged_so : (reading : Reading) (records : List Rec) (c : ℕ) (heard other : Option (ℕ × Answer)) → heard ≡ other → IsJudged reading records c heard None → IsJudged reading records c other None
judged_so reading records c heard other same judged = subst (λ o. IsJudged reading records c o None) same judged

explained_at : (reading : Reading) (events : List Event) (d : List ℕ) → AreExplained reading (records_of events d) → (i n : ℕ) (op : Op) → IsRecorded events i n d op
    → IsJudged reading (records_of events d) i (heard_of events n) None
explained_at reading events d explained i n op r =
    subst (λ c. IsJudged reading (records_of events d) c (heard_of events n) None) r.called
    (subst (λ o. IsJudged reading (records_of events d) r.own.call_at o None) r.heard (explained r.place r.own r.at))

pub explained_gets : (reading : Reading) (events : List Event) → IsHistory events → ((d : List ℕ) (i n h : ℕ) (op : Op) → IsCallAt events i n h d op → AreExplained reading (records_of events d))
    → (e : Refuted) → ¬ IsUnexplainedGet reading events e
explained_gets reading events history explained (kind.PairTwice a b) u = u.of_get
explained_gets reading events history explained (kind.NoWriter g) u =
    let d = u.holds.doc in
    let get = u.holds.get in
    let r = recorded events history get.called g get.shard d get.op get.call in
    let all = explained d get.called g get.shard get.op get.call in
    let judged : IsFoundJudged reading (records_of events d) get.called u.holds.replied u.holds.pair u.holds.number None =
    subst (λ o. IsJudged reading (records_of events d) get.called o None) get.heard (explained_at reading events d all get.called g get.op r) in
    let source = judged.0 in
    let s = source.1 in
    let call = call_of events history d source.0 s source.2 in
    elim source.3.takes as (λ _. ⊥) [
      | inl may ↦ u.holds.none s.call_at (record {
        before = source.3.before;
        number = s.no;
        shard = call.shard;
        op = s.op;
        call = call.call;
        gives = source.3.gives;
        takes = subst (λ o. MayTake (conflicts_as reading.conflicts) o u.holds.pair) call.heard may;
      })
      | inr again ↦ u.no_other again s.call_at (record {
        doc = d;
        replied = u.holds.replied;
        pair = u.holds.pair;
        number = u.holds.number;
        get = get;
        before = source.3.before;
        writer = s.no;
        shard = call.shard;
        op = s.op;
        call = call.call;
        gives = source.3.gives;
      })
    ]
explained_gets reading events history explained (kind.StaleGet g w) u =
    let d = u.holds.doc in
    let get = u.holds.get in
    let r = recorded events history get.called g get.shard d get.op get.call in
    let all = explained d get.called g get.shard get.op get.call in
    let judged : IsFoundJudged reading (records_of events d) get.called u.holds.replied u.holds.found u.holds.number None =
    subst (λ o. IsJudged reading (records_of events d) get.called o None) get.heard (explained_at reading events d all get.called g get.op r) in
    let write = acknowledged events history All d w g get.called get.shard get.op u.holds.pair u.holds.write get.call u.holds.first (λ is. absurd (cc)) in
    judged.1 write.0 u.holds.pair write.1 u.holds.below
explained_gets reading events history explained (kind.MissedWrite g w) u =
    let d = u.holds.doc in
    let get = u.holds.get in
    let r = recorded events history get.called g get.shard d get.op get.call in
    let all = explained d get.called g get.shard get.op get.call in
    let judged : IsMissingJudged reading (records_of events d) get.called u.holds.replied None =
    subst (λ o. IsJudged reading (records_of events d) get.called o None) get.heard (explained_at reading events d all get.called g get.op r) in
    let write = acknowledged events history Makes d w g get.called get.shard get.op u.holds.pair u.holds.write get.call u.holds.first (λ is. (u.holds.number, u.holds.gives)) in
    let remover = judged write.0 u.holds.pair write.1 in
    let s = remover.1 in
    let call = call_of events history d remover.0 s remover.2 in
    elim remover.3.takes as (λ _. ⊥) [
      | inl may ↦ u.holds.none s.call_at (record {
        before = remover.3.before;
        number = s.no;
        shard = call.shard;
        condition = remover.3.condition;
        call = subst (λ o. IsCallAt events s.call_at s.no call.shard d o) remover.3.deletes call.call;
        takes = subst (λ o. MayTakeAbove (conflicts_as reading.conflicts) o u.holds.pair) call.heard may;
      })
      | inr again ↦ u.no_other again.0 s.call_at (record {
        doc = d;
        replied = u.holds.replied;
        get = get;
        before = remover.3.before;
        remover = s.no;
        shard = call.shard;
        call = subst (λ o. IsCallAt events s.call_at s.no call.shard d o) (remover.3.deletes ∙ ap (λ c. Delete c) again.1) call.call;
      })
    ]
explained_gets reading events history explained (kind.StaleSwap a b) u = u.of_get
explained_gets reading events history explained (kind.RuledOut n) u = u.of_get
