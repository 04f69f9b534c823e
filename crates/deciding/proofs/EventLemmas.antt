-- The walk from event to event.
use Rattle.std.proofs.Common.{ℕ, zero, suc, ◌≡◌, ◌≢◌, ◌<◌, ◌≤◌, ◌+◌, ◌-◌, ◌⊎◌, ◌++◌, ◌==◌, ◌&&◌, inl, inr, nat_lt, List, [], ◌∷◌, length, refl, sym, ap, subst, ◌∙◌, arith, Bool, true, false, cond, true≢false, Some, slice_get}
use Rattle.std.proofs.lemmas.Bool.{cases_lt, eqb-true, ltb-false}
use Rattle.std.proofs.lemmas.Option.{slice_get_within}
use Rattle.version_pair.proofs.ListLemmas.{get_front, get_last, none_is_not_some, same_some}
use Rattle.doc_register.specs.declared.reply.Reply.{Reply}
use Rattle.deciding.specs.Facts.{Facts}
use Rattle.events.specs.declared.record.Rec.{Rec}
use Rattle.deciding.specs.Branches.{Branch, Covers, IsBranchOf, never_changed, position}
use Rattle.deciding.specs.Steps.{count_of, is_hidden, is_lost_delete, is_lost_make, is_made_before, without}
use Rattle.write_chain.specs.AnsweredCalls.{AreAnsweredCalls, answer_of}
use Rattle.write_chain.specs.declared.answers.AnsweredRec.{AnsweredRec}
use Rattle.write_chain.proofs.AnsweredCallLemmas.{IsAnsweredBefore, answers_rise, entry_heard, heard_entry}
use Rattle.deciding.specs.declared.row.Row.{Row}
use Rattle.deciding.specs.aids.Rows.{IsPositioned, branch_of}
use Rattle.deciding.specs.Tables.{AreLeftAtCall, AreLeftAtReply, IsNextTable, IsRuledOut, IsTableAt}
use Rattle.deciding.specs.declared.document.Document.{Document}
use Rattle.deciding.specs.declared.walk.Walk.{Walk}
use Rattle.deciding.specs.Records.{AreInOrder}
use Rattle.deciding.specs.aids.Candidates.{facts_of, AreOpen, IsDocument, IsNumberOf}
use Rattle.deciding.specs.aids.Moments.{HasMade}
use Rattle.deciding.specs.aids.TablesOf.{table_of}
use Rattle.deciding.specs.declared.made.Made.{Made}
use Rattle.deciding.specs.aids.Walks.{HasPassed, IsAnswerAt, IsPassedTo, IsWalkAt}
use Rattle.deciding.proofs.LostCounts.{count_all, count_none, made_one, made_other, made_parts, made_within}
use Rattle.deciding.proofs.StepLemmas.{covers_itself}

-- ---- one event

-- calls at one event are one
one_call : (records : List Rec) (i j : ℕ) (r s : Rec) → AreInOrder records → slice_get records i ≡ Some r → slice_get records j ≡ Some s → r.call_at ≡ s.call_at → i ≡ j
one_call records i j r s order at bt same = by_order (cases_lt i j) (cases_lt j i) where
  by_order : ((i < j) ⊎ (j ≤ i)) → ((j < i) ⊎ (i ≤ j)) → i ≡ j
  by_order (inl less) other = let before = order.calls i j r s at bt less in absurd (omega (arith, before, same))
  by_order (inr not) (inl less) = let before = order.calls j i s r bt at less in absurd (omega (arith, before, same))
  by_order (inr not) (inr nor) = omega (arith, not, nor)

-- the table behind a call
pub behind_call : (facts : Facts) (records : List Rec) (event number : ℕ) (call : Rec) (table next : List Branch) → AreInOrder records → slice_get records number ≡ Some call → call.call_at ≡ event
    → AreLeftAtCall records number call table next → IsNextTable facts records event table next
behind_call facts records event number call table next order at called left = record {
  called = λ i r there is. by_same i r (one_call records number i call r order at there (called ∙ sym is)) there;
  answered = λ i r reply there heard. absurd (order.apart i number r call event reply there at heard called);
  other = λ none quiet. absurd (none number call at called);
} where
  by_same : (i : ℕ) (r : Rec) → number ≡ i → slice_get records i ≡ Some r → AreLeftAtCall records i r table next
  by_same i r same there =
      subst (λ n. AreLeftAtCall records n r table next) same
      (subst (λ c. AreLeftAtCall records number c table next) (same_some call r (sym at ∙ (ap (slice_get records) same ∙ there))) left)

-- the table behind a reply
pub behind_reply : (facts : Facts) (records : List Rec) (event number : ℕ) (call : Rec) (table next : List Branch) → AreInOrder records → IsAnswerAt records number call event
    → AreLeftAtReply facts records event number call table next → IsNextTable facts records event table next
behind_reply facts records event number call table next order answer left = record {
  called = λ i r there is. absurd (order.apart number i call r event answer.reply answer.at there answer.heard is);
  answered = λ i r reply there heard. by_same i r (order.once number i call r event answer.reply reply answer.at there answer.heard heard) there;
  other = λ none quiet. absurd (quiet number call answer.reply answer.at answer.heard);
} where
  by_same : (i : ℕ) (r : Rec) → number ≡ i → slice_get records i ≡ Some r → AreLeftAtReply facts records event i r table next
  by_same i r same there =
      subst (λ n. AreLeftAtReply facts records event n r table next) same
      (subst (λ c. AreLeftAtReply facts records event number c table next) (same_some call r (sym answer.at ∙ (ap (slice_get records) same ∙ there))) left)

-- ---- events of other documents

-- between two events of the document its table stays
pub stays_until : (facts : Facts) (records : List Rec) (n event : ℕ) (table : List Branch) → IsTableAt facts records event table
    → ((i : ℕ) (r : Rec) → slice_get records i ≡ Some r → r.call_at < event + n → r.call_at < event)
    → ((i : ℕ) (r : Rec) (y : ℕ) (reply : Reply) → slice_get records i ≡ Some r → r.heard ≡ Some (y, reply) → y < event + n → y < event)
    → IsTableAt facts records (event + n) table
stays_until facts records zero event table is calls replies = subst (λ e. IsTableAt facts records e table) (omega arith) is
stays_until facts records (suc n) event table is calls replies =
    subst (λ e. IsTableAt facts records e table) (omega arith)
    (stays_until facts records n (suc event) table (table, is, quiet)
    (λ i r at within. (let first : r.call_at < event = calls i r at (omega (arith, within)) in omega (arith, first)))
    (λ i r y reply at heard within. (let first : y < event = replies i r y reply at heard (omega (arith, within)) in omega (arith, first)))) where
      quiet : IsNextTable facts records event table table
      quiet = record {
        called = λ i r at called. absurd (let first : r.call_at < event = calls i r at (omega (arith, called)) in omega (arith, first, called));
        answered = λ i r reply at heard. absurd (let first : event < event = replies i r event reply at heard (omega arith) in omega (arith, first));
        other = λ none silent b has. (b, has, covers_itself records b);
      }

-- ---- conflicts that are open

in_without : (numbers : List ℕ) (number n : ℕ) → IsNumberOf numbers n → (n ≡ number → ⊥) → IsNumberOf (without number numbers) n
in_without [] number n (i, at) other = absurd (none_is_not_some n at)
in_without (m ∷ ms) number n (i, at) other = by_place i at (λ j bt. in_without ms number n (j, bt) other) where
  kept : (b : Bool) → IsNumberOf (without number ms) n → IsNumberOf (cond b (without number ms) (m ∷ without number ms)) n
  kept true has = has
  kept false has = (suc has.0, has.1)

  here : m ≡ n → (b : Bool) → (m == number) ≡ b → IsNumberOf (cond b (without number ms) (m ∷ without number ms)) n
  here same true is = absurd (other (sym same ∙ eqb-true m number is))
  here same false is = (zero, ap (λ k. Some k) same)

  by_place : (i : ℕ) → slice_get (m ∷ ms) i ≡ Some n → ((j : ℕ) → slice_get ms j ≡ Some n → IsNumberOf (without number ms) n) → IsNumberOf (without number (m ∷ ms)) n
  by_place zero at rest = here (same_some m n at) (m == number) refl
  by_place (suc j) at rest = kept (m == number) (rest j at)

-- behind a call
pub open_pushed : (facts : Facts) (records : List Rec) (event number : ℕ) (call : Rec) (old new : List ℕ) → AreInOrder records → slice_get records number ≡ Some call → call.call_at ≡ event
    → AreOpen facts.conflicts records event old → new ≡ old ++ number ∷ [] → AreOpen facts.conflicts records (suc event) new
open_pushed facts records event number call old new order at called before is i r y reply there heard hides within until = by_order (cases_lt r.call_at event) where
  by_order : ((r.call_at < event) ⊎ (event ≤ r.call_at)) → IsNumberOf new i
  by_order (inl first) =
      let was = before i r y reply there heard hides first (omega (arith, until)) in
      (was.0, ap (λ xs. slice_get xs was.0) is ∙ get_front old (number ∷ []) was.0 i was.1)
  by_order (inr not) =
      let same : number ≡ i = one_call records number i call r order at there (omega (arith, called, not, within)) in
      (length old, ap (λ xs. slice_get xs (length old)) is ∙ (get_last old number ∙ ap (λ n. Some n) same))

pub open_stays : (facts : Facts) (records : List Rec) (event number : ℕ) (call : Rec) (old : List ℕ) → AreInOrder records → slice_get records number ≡ Some call → call.call_at ≡ event
    → AreOpen facts.conflicts records event old → is_hidden facts.conflicts call.heard ≡ false → AreOpen facts.conflicts records (suc event) old
open_stays facts records event number call old order at called before shows i r y reply there heard hides within until = by_order (cases_lt r.call_at event) where
  by_order : ((r.call_at < event) ⊎ (event ≤ r.call_at)) → IsNumberOf old i
  by_order (inl first) = before i r y reply there heard hides first (omega (arith, until))
  by_order (inr not) =
      let same : number ≡ i = one_call records number i call r order at there (omega (arith, called, not, within)) in
      let one : call ≡ r = same_some call r (sym at ∙ (ap (slice_get records) same ∙ there)) in
      absurd (true≢false (sym hides ∙ (ap (λ (c : Rec). is_hidden facts.conflicts c.heard) (sym one) ∙ shows)))

-- behind a reply
pub open_without : (facts : Facts) (records : List Rec) (event number : ℕ) (call : Rec) (old new : List ℕ) → AreInOrder records → IsAnswerAt records number call event
    → AreOpen facts.conflicts records event old → new ≡ without number old → AreOpen facts.conflicts records (suc event) new
open_without facts records event number call old new order answer before is i r y reply there heard hides within until = by_order (cases_lt r.call_at event) where
  other : i ≡ number → ⊥
  other same =
      let one : r ≡ call = same_some r call (sym there ∙ (ap (slice_get records) same ∙ answer.at)) in
      let now : y ≡ event = ap (λ (h : ℕ × Reply). h.0) (same_some (y, reply) (event, answer.reply) (sym heard ∙ (ap (λ (c : Rec). c.heard) one ∙ answer.heard))) in
      omega (arith, now, until)

  by_order : ((r.call_at < event) ⊎ (event ≤ r.call_at)) → IsNumberOf new i
  by_order (inl first) = subst (λ xs. IsNumberOf xs i) (sym is) (in_without old number i (before i r y reply there heard hides first (omega (arith, until))) other)
  by_order (inr not) = absurd (order.apart number i call r event answer.reply answer.at there answer.heard (omega (arith, not, within)))

-- ---- writes without a reply and without a condition

-- no call is made before the first event
none_made : (is : Rec → Bool) (records : List Rec) (most : ℕ) → count_of (is_made_before is 0) records ≤ most
none_made is records most =
    let none = count_none (is_made_before is 0) records (λ i r at made. (let parts = made_parts is 0 r made in let less : r.call_at < 0 = parts.1 in omega (arith, less))) in
    omega (arith, none)

-- what was made after a reply was made before it
pub made_at_reply : (records : List Rec) (event number : ℕ) (call : Rec) (made : Made) → AreInOrder records → IsAnswerAt records number call event → HasMade records event made
    → HasMade records (suc event) made
made_at_reply records event number call made order answer has = record {
  deletes = (let few = made_within is_lost_delete (suc event) event records before in let most : count_of (is_made_before is_lost_delete event) records ≤ made.deletes = has.deletes in omega (arith, few, most));
  makes = (let few = made_within is_lost_make (suc event) event records before in let most : count_of (is_made_before is_lost_make event) records ≤ made.makes = has.makes in omega (arith, few, most));
} where
  before : (i : ℕ) (r : Rec) → slice_get records i ≡ Some r → r.call_at < suc event → r.call_at < event
  before i r there less = by_order (cases_lt r.call_at event) where
    by_order : ((r.call_at < event) ⊎ (event ≤ r.call_at)) → r.call_at < event
    by_order (inl first) = first
    by_order (inr not) = absurd (order.apart number i call r event answer.reply answer.at there answer.heard (omega (arith, not, less)))

-- the count after a call was made
counted : (is : Rec → Bool) (records : List Rec) (event number : ℕ) (call : Rec) (old new : ℕ) → AreInOrder records → slice_get records number ≡ Some call → call.call_at ≡ event
    → count_of (is_made_before is event) records ≤ old → new ≡ cond (is call && nat_lt old (length records)) (suc old) old → count_of (is_made_before is (suc event)) records ≤ new
counted is records event number call old new order at called few same = by_kind (is call) refl where
  before : (i : ℕ) (r : Rec) → slice_get records i ≡ Some r → i ≢ number → r.call_at < suc event → r.call_at < event
  before i r there other less = by_order (cases_lt r.call_at event) where
    by_order : ((r.call_at < event) ⊎ (event ≤ r.call_at)) → r.call_at < event
    by_order (inl first) = first
    by_order (inr not) = absurd (other (one_call records i number r call order there at (omega (arith, not, less, called))))

  by_room : is call ≡ true → (b : Bool) → nat_lt old (length records) ≡ b → count_of (is_made_before is (suc event)) records ≤ new
  by_room kind true room =
      let more = made_one is (suc event) event records number before in
      let next : new ≡ suc old = same ∙ (ap (λ b. cond (b && nat_lt old (length records)) (suc old) old) kind ∙ ap (λ b. cond b (suc old) old) room) in
      omega (arith, more, few, next)
  by_room kind false room =
      let all = count_all (is_made_before is (suc event)) records in
      let stays : new ≡ old = same ∙ (ap (λ b. cond (b && nat_lt old (length records)) (suc old) old) kind ∙ ap (λ b. cond b (suc old) old) room) in
      let full : length records ≤ old = ltb-false old (length records) room in
      omega (arith, all, stays, full)

  by_kind : (b : Bool) → is call ≡ b → count_of (is_made_before is (suc event)) records ≤ new
  by_kind true kind = by_room kind (nat_lt old (length records)) refl
  by_kind false kind =
      let none = made_other is (suc event) event records number call at kind before in
      let stays : new ≡ old = same ∙ ap (λ b. cond (b && nat_lt old (length records)) (suc old) old) kind in
      omega (arith, none, few, stays)

pub made_at_call : (records : List Rec) (event number : ℕ) (call : Rec) (old new : Made) → AreInOrder records → slice_get records number ≡ Some call → call.call_at ≡ event → HasMade records event old
    → new.deletes ≡ cond (is_lost_delete call && nat_lt old.deletes (length records)) (suc old.deletes) old.deletes
    → new.makes ≡ cond (is_lost_make call && nat_lt old.makes (length records)) (suc old.makes) old.makes → HasMade records (suc event) new
made_at_call records event number call old new order at called has deletes makes = record {
  deletes = counted is_lost_delete records event number call old.deletes new.deletes order at called has.deletes deletes;
  makes = counted is_lost_make records event number call old.makes new.makes order at called has.makes makes;
}

-- ---- calls up to an event

-- between two events of the document the walk stays where it is
pub walk_stays : (d : Document) (event until : ℕ) (walk : Walk) → IsWalkAt d event walk → event ≤ until
    → ((i : ℕ) (r : Rec) → slice_get d.records.now i ≡ Some r → r.call_at < until → r.call_at < event)
    → ((i : ℕ) (r : Rec) (y : ℕ) (reply : Reply) → slice_get d.records.now i ≡ Some r → r.heard ≡ Some (y, reply) → y < until → y < event)
    → IsWalkAt d until walk
walk_stays d event until walk is within calls replies = record {
  table = subst (λ e. IsTableAt (facts_of d) d.records.now e (table_of walk.front.items)) there
      (stays_until (facts_of d) d.records.now (until - event) event (table_of walk.front.items) is.table
      (λ i r at less. calls i r at (subst (λ e. r.call_at < e) there less))
      (λ i r y reply at heard less. replies i r y reply at heard (subst (λ e. y < e) there less)));
  positioned = is.positioned;
  open_ones = λ i r y reply at heard hides called from. is.open_ones i r y reply at heard hides (calls i r at called) (omega (arith, within, from));
  made = record {
    deletes = (let few = made_within is_lost_delete until event d.records.now calls in let most : count_of (is_made_before is_lost_delete event) d.records.now ≤ walk.made.deletes = is.made.deletes in omega (arith, few, most));
    makes = (let few = made_within is_lost_make until event d.records.now calls in let most : count_of (is_made_before is_lost_make event) d.records.now ≤ walk.made.makes = is.made.makes in omega (arith, few, most));
  };
} where
  there : event + (until - event) ≡ until
  there = omega (arith, within)

-- one more call is made
pub passed_more : (d : Document) (made until : ℕ) (call : Rec) (old new : Walk) → IsDocument d → slice_get d.records.now made ≡ Some call → call.call_at < until → (p : IsPassedTo d made until old)
    → (IsWalkAt d call.call_at old → IsWalkAt d (suc call.call_at) new) → IsPassedTo d (suc made) until new
passed_more d made until call old new is at before p makes = record {
  event = suc call.call_at;
  walked = makes (walk_stays d p.event call.call_at old p.walked from earlier (λ i r y reply there heard less. p.silent i r y reply there heard (omega (arith, less, before))));
  calls = λ i r there. (λ less. by_call i r there less (cases_lt i made), λ less. by_number i r there less (cases_lt i made));
  before = omega (arith, before);
  silent = λ i r y reply there heard less. (let first : y < p.event = p.silent i r y reply there heard less in omega (arith, first, from));
} where
  order : AreInOrder d.records.now
  order = is.order

  from : p.event ≤ call.call_at
  from = by_case (cases_lt call.call_at p.event) where
    by_case : ((call.call_at < p.event) ⊎ (p.event ≤ call.call_at)) → p.event ≤ call.call_at
    by_case (inl less) = absurd (let below : made < made = (p.calls made call at).0 less in omega (arith, below))
    by_case (inr not) = not

  earlier : (i : ℕ) (r : Rec) → slice_get d.records.now i ≡ Some r → r.call_at < call.call_at → r.call_at < p.event
  earlier i r there less = by_case (cases_lt i made) where
    by_case : ((i < made) ⊎ (made ≤ i)) → r.call_at < p.event
    by_case (inl first) = (p.calls i r there).1 first
    by_case (inr not) = by_later (cases_lt made i) where
      by_later : ((made < i) ⊎ (i ≤ made)) → r.call_at < p.event
      by_later (inl later) = let up : call.call_at < r.call_at = order.calls made i call r at there later in absurd (omega (arith, up, less))
      by_later (inr nor) =
          let one : r ≡ call = same_some r call (sym there ∙ (ap (slice_get d.records.now) (omega (arith, not, nor)) ∙ at)) in
          let same : r.call_at ≡ call.call_at = ap (λ (c : Rec). c.call_at) one in
          absurd (omega (arith, same, less))

  by_call : (i : ℕ) (r : Rec) → slice_get d.records.now i ≡ Some r → r.call_at < suc call.call_at → ((i < made) ⊎ (made ≤ i)) → i < suc made
  by_call i r there less (inl first) = omega (arith, first)
  by_call i r there less (inr not) = by_later (cases_lt made i) where
    by_later : ((made < i) ⊎ (i ≤ made)) → i < suc made
    by_later (inl later) = let up : call.call_at < r.call_at = order.calls made i call r at there later in absurd (omega (arith, up, less))
    by_later (inr nor) = omega (arith, nor)

  by_number : (i : ℕ) (r : Rec) → slice_get d.records.now i ≡ Some r → i < suc made → ((i < made) ⊎ (made ≤ i)) → r.call_at < suc call.call_at
  by_number i r there less (inl first) = let was : r.call_at < p.event = (p.calls i r there).1 first in omega (arith, was, from)
  by_number i r there less (inr not) =
      let one : r ≡ call = same_some r call (sym there ∙ (ap (slice_get d.records.now) (omega (arith, not, less)) ∙ at)) in
      let same : r.call_at ≡ call.call_at = ap (λ (c : Rec). c.call_at) one in
      omega (arith, same)

-- where the next call is made no earlier than the event, the walk is there
pub passed_to : (d : Document) (made until : ℕ) (walk : Walk) → IsPassedTo d made until walk → ((i : ℕ) (r : Rec) → slice_get d.records.now i ≡ Some r → made ≤ i → until ≤ r.call_at)
    → IsWalkAt d until walk × HasPassed d.records.now made until
passed_to d made until walk p later = (
  walk_stays d p.event until walk p.walked p.before (λ i r at less. (p.calls i r at).1 (below i r at less)) p.silent,
  λ i r at. (λ less. below i r at less, λ less. (let first : r.call_at < p.event = (p.calls i r at).1 less in let within : p.event ≤ until = p.before in omega (arith, first, within))),
) where
  below : (i : ℕ) (r : Rec) → slice_get d.records.now i ≡ Some r → r.call_at < until → i < made
  below i r at less = by_case (cases_lt i made) where
    by_case : ((i < made) ⊎ (made ≤ i)) → i < made
    by_case (inl first) = first
    by_case (inr not) = let up : until ≤ r.call_at = later i r at not in absurd (omega (arith, up, less))

-- calls from one on that is made no earlier than the event aren't either
pub later_calls : (records : List Rec) (made until : ℕ) (call : Rec) → AreInOrder records → slice_get records made ≡ Some call → until ≤ call.call_at
    → (i : ℕ) (r : Rec) → slice_get records i ≡ Some r → made ≤ i → until ≤ r.call_at
later_calls records made until call order at late i r there from = by_case (cases_lt made i) where
  by_case : ((made < i) ⊎ (i ≤ made)) → until ≤ r.call_at
  by_case (inl later) = let up : call.call_at < r.call_at = order.calls made i call r at there later in omega (arith, up, late)
  by_case (inr not) =
      let one : r ≡ call = same_some r call (sym there ∙ (ap (slice_get records) (omega (arith, not, from)) ∙ at)) in
      let same : r.call_at ≡ call.call_at = ap (λ (c : Rec). c.call_at) one in
      omega (arith, same, late)

-- where all calls are made, the walk is at the event
pub all_passed : (d : Document) (made until : ℕ) (walk : Walk) → IsPassedTo d made until walk → length d.records.now ≤ made
    → IsWalkAt d until walk × HasPassed d.records.now (length d.records.now) until
all_passed d made until walk p all =
    let there = passed_to d made until walk p (λ i r at from. absurd (let inside : i < length d.records.now = slice_get_within d.records.now i r at in omega (arith, inside, from, all))) in (
      there.0,
      λ i r at. (λ less. slice_get_within d.records.now i r at, λ less. (there.1 i r at).1 (omega (arith, less, all))),
    )

-- ---- the start

-- a walk with one row, of a document that was never changed, is before the first event
pub started : (d : Document) (walk : Walk) (row : Row) → walk.front.items ≡ row ∷ [] → branch_of row ≡ never_changed → row.position ≡ 0 → IsWalkAt d 0 walk
started d walk row is never place = record {
  table = (branch_of row, subst (λ rows. IsBranchOf (table_of rows) (branch_of row)) (sym is) (zero, refl), subst (Covers d.records.now (branch_of row)) never (covers_itself d.records.now (branch_of row)));
  positioned = λ r has. by_row r has.0 (sym (ap (λ rows. slice_get rows has.0) is) ∙ has.1);
  open_ones = λ i r y reply at heard hides called from. absurd (omega (arith, called));
  made = record { deletes = none_made is_lost_delete d.records.now walk.made.deletes; makes = none_made is_lost_make d.records.now walk.made.makes };
} where
  positioned : IsPositioned d.records.now row
  positioned = place ∙ ap (position d.records.now) (sym (ap (λ (b : Branch). b.least) never))

  by_row : (r : Row) (i : ℕ) → slice_get (row ∷ []) i ≡ Some r → IsPositioned d.records.now r
  by_row r zero at = subst (IsPositioned d.records.now) (same_some row r at) positioned
  by_row r (suc i) at = absurd (none_is_not_some r at)

-- ---- answered calls in response order

-- the walk has passed so many calls, and so many answered ones
pub record IsBetween (d : Document) (answers : List AnsweredRec) (k made : ℕ) (walk : Walk) : Type 0 where
  pub event : ℕ
  pub walked : IsWalkAt d event walk
  pub calls : HasPassed d.records.now made event
  pub before : (m : ℕ) (a : AnsweredRec) → m < k → slice_get answers m ≡ Some a → a.reply_at < event
  pub after : (m : ℕ) (a : AnsweredRec) → k ≤ m → slice_get answers m ≡ Some a → event ≤ a.reply_at

-- an entry of the answered calls is of one
pub answer_at : (records : List Rec) (answers : List AnsweredRec) (m : ℕ) (a : AnsweredRec) → AreAnsweredCalls records answers → slice_get answers m ≡ Some a
    → (c : Rec) × IsAnswerAt records a.rec c a.reply_at
answer_at records answers m a are at =
    let e = entry_heard records answers m a are at in
    (e.0, record { at = e.2; reply = e.1; heard = e.3 })

-- replies come in the order of the entries
replies_rise : (records : List Rec) (answers : List AnsweredRec) → AreInOrder records → AreAnsweredCalls records answers → (i j : ℕ) (a b : AnsweredRec) → i < j
    → slice_get answers i ≡ Some a → slice_get answers j ≡ Some b → a.reply_at < b.reply_at
replies_rise records answers order are i j a b less at bt = by_case (answers_rise records answers are i j a b less at bt) where
  by_case : IsAnsweredBefore a b → a.reply_at < b.reply_at
  by_case (inl up) = up
  by_case (inr tie) =
      let x = answer_at records answers i a are at in
      let y = answer_at records answers j b are bt in
      let one : a.rec ≡ b.rec = order.once a.rec b.rec x.0 y.0 b.reply_at x.1.reply y.1.reply x.1.at y.1.at (subst (λ n. x.0.heard ≡ Some (n, x.1.reply)) tie.0 x.1.heard) y.1.heard in
      let up : a.rec < b.rec = tie.1 in
      absurd (omega (arith, one, up))

-- up to the next reply there is no other
pub passes_to : (d : Document) (answers : List AnsweredRec) (k made : ℕ) (a : AnsweredRec) (walk : Walk) → IsDocument d → AreAnsweredCalls d.records.now answers → slice_get answers k ≡ Some a
    → IsBetween d answers k made walk → IsPassedTo d made a.reply_at walk
passes_to d answers k made a walk is are at b = record {
  event = b.event;
  walked = b.walked;
  calls = b.calls;
  before = b.after k a (omega arith) at;
  silent = λ i r y reply there heard less. (let entry = heard_entry d.records.now answers i r y reply are there heard in by_entry y i entry.0 entry.1 less (cases_lt entry.0 k) (cases_lt k entry.0));
} where
  by_entry : (y i m : ℕ) → slice_get answers m ≡ Some (answer_of y i) → y < a.reply_at → ((m < k) ⊎ (k ≤ m)) → ((k < m) ⊎ (m ≤ k)) → y < b.event
  by_entry y i m bt less (inl first) other = b.before m (answer_of y i) first bt
  by_entry y i m bt less (inr not) (inl later) = let up : a.reply_at < y = replies_rise d.records.now answers is.order are k m a (answer_of y i) later at bt in absurd (omega (arith, up, less))
  by_entry y i m bt less (inr not) (inr nor) =
      let one : a ≡ answer_of y i = same_some a (answer_of y i) (sym at ∙ (ap (slice_get answers) (omega (arith, not, nor)) ∙ bt)) in
      let same : a.reply_at ≡ y = ap (λ (v : AnsweredRec). v.reply_at) one in
      absurd (omega (arith, same, less))

-- behind it
pub passes_reply : (d : Document) (answers : List AnsweredRec) (k made : ℕ) (a : AnsweredRec) (walk : Walk) → IsDocument d → AreAnsweredCalls d.records.now answers → slice_get answers k ≡ Some a
    → HasPassed d.records.now made a.reply_at → IsWalkAt d (suc a.reply_at) walk → IsBetween d answers (suc k) made walk
passes_reply d answers k made a walk is are at passed walked = record {
  event = suc a.reply_at;
  walked = walked;
  calls = λ i r there. (λ less. (passed i r there).0 (by_call i r there less), λ less. (let first : r.call_at < a.reply_at = (passed i r there).1 less in omega (arith, first)));
  before = λ m b less bt. by_entry m b less bt (cases_lt m k);
  after = λ m b from bt. (let up : a.reply_at < b.reply_at = replies_rise d.records.now answers is.order are k m a b (omega (arith, from)) at bt in omega (arith, up));
} where
  answer : (c : Rec) × IsAnswerAt d.records.now a.rec c a.reply_at
  answer = answer_at d.records.now answers k a are at

  by_call : (i : ℕ) (r : Rec) → slice_get d.records.now i ≡ Some r → r.call_at < suc a.reply_at → r.call_at < a.reply_at
  by_call i r there less = by_order (cases_lt r.call_at a.reply_at) where
    by_order : ((r.call_at < a.reply_at) ⊎ (a.reply_at ≤ r.call_at)) → r.call_at < a.reply_at
    by_order (inl first) = first
    by_order (inr not) = absurd (is.order.apart a.rec i answer.0 r a.reply_at answer.1.reply answer.1.at there answer.1.heard (omega (arith, not, less)))

  by_entry : (m : ℕ) (b : AnsweredRec) → m < suc k → slice_get answers m ≡ Some b → ((m < k) ⊎ (k ≤ m)) → b.reply_at < suc a.reply_at
  by_entry m b less bt (inl first) = let up : b.reply_at < a.reply_at = replies_rise d.records.now answers is.order are m k b a first bt at in omega (arith, up)
  by_entry m b less bt (inr not) =
      let one : a ≡ b = same_some a b (sym at ∙ (ap (slice_get answers) (omega (arith, not, less)) ∙ bt)) in
      let same : a.reply_at ≡ b.reply_at = ap (λ (v : AnsweredRec). v.reply_at) one in
      omega (arith, same)

-- where no row is left, the document is ruled out
pub none_left : (d : Document) (answers : List AnsweredRec) (k : ℕ) (a : AnsweredRec) (call : Rec) (walk : Walk) → AreAnsweredCalls d.records.now answers → slice_get answers k ≡ Some a
    → slice_get d.records.now a.rec ≡ Some call → IsWalkAt d (suc a.reply_at) walk → walk.front.items ≡ [] → IsRuledOut (facts_of d) d.records.now call.no
none_left d answers k a call walk are at there walked empty =
    let answer = answer_at d.records.now answers k a are at in
    let one : answer.0 ≡ call = same_some answer.0 call (sym answer.1.at ∙ there) in
    record {
      number = a.rec;
      call = call;
      at = there;
      named = refl;
      replied = a.reply_at;
      reply = answer.1.reply;
      heard = ap (λ (r : Rec). r.heard) (sym one) ∙ answer.1.heard;
      none = subst (λ rows. IsTableAt (facts_of d) d.records.now (suc a.reply_at) (table_of rows)) empty walked.table;
    }

-- a list without length has no items
pub no_items : {X : Type 0} (xs : List X) → length xs ≡ 0 → xs ≡ []
no_items [] is = refl
no_items (x ∷ xs) is = absurd (omega (arith, is))
