-- A replication group: its copies, its tickets, and what each step does.
use Rattle.std.specs.Prelude.{◌≡◌, ℕ, ◌+◌, ◌%◌, ◌<◌, ◌≤◌, ◌==◌, ◌&&◌, ◌||◌, ◌⊎◌, Bool, true, false, not, nat_lt, List, [], ◌∷◌, ◌++◌, MatchBool, MatchOption, Option, option_and_then, if◌then◌else◌, length, map, replicate, slice_get, slice_set}
use Rattle.std.specs.Cmp.Lexicographic.{pointwise}
use Rattle.std.specs.List.{list_all, position_or_len}
use Rattle.std.specs.Option.{option_map_or}
use Rattle.indexmap.specs.IndexSet.{insert_key}
use Rattle.version_pair.specs.declared.pair.Pair.{Pair}
use Rattle.doc_register.specs.Register.{IsPerformed, performed_reply, shown}
use Rattle.doc_register.specs.declared.op.Op.{Op}
use Rattle.doc_register.specs.declared.reply.Reply.{Reply}
use Rattle.doc_register.specs.declared.reply.Reply.TheVariants.{Conflict}
use Rattle.doc_register.specs.declared.state.DocState.{DocState}
use Rattle.repl_group.specs.declared.fault.Fault.{Fault}
use Rattle.repl_group.specs.declared.held_write.HeldWrite.{HeldWrite}
use Rattle.repl_group.specs.declared.request.Request.{Request}
use Rattle.repl_group.specs.declared.request.Stage.TheVariants.{Queued, InFlight, Answered}
use Rattle.repl_group.specs.declared.step.Answer.{Answer}
use Rattle.repl_group.specs.declared.step.Answer.TheVariants.{Ticket, Done, Waits, NotNow, Full}
use Rattle.repl_group.specs.declared.step.Step.{Step}
use Rattle.repl_group.specs.declared.step.Step.TheVariants as step
use Rattle.repl_group.specs.Copies.{ShardCopy, document_in, holds, next_seq, with_write}
use Rattle.repl_group.specs.Faults.{is_blind, is_dirty, is_early, is_same_term, is_stale}
use Rattle.repl_group.specs.Operations.{is_get, unconditional}
use Rattle.repl_group.specs.Requests.{answer_in, flight_of, is_busy, is_queued, with_flights_lost, with_stage}

-- How contracts see a `Core`.
-- Source: profile.
pub record GroupState : Type 0 where
  -- what the group does wrong
  pub fault : Fault
  -- its term
  pub term : ℕ
  -- the number of its primary copy
  pub primary : ℕ
  -- the documents in the order in which they were first named, each numbered by its index
  pub docs : List (List ℕ)
  -- the request of each ticket
  pub requests : List Request
  -- the copies
  pub copies : List ShardCopy

-- a group has 1 to 5 copies
-- Source: profile.
pub record IsCopyCount (count : ℕ) : Type 0 where
  pub some : 0 < count
  pub few : count ≤ 5

-- the greatest number of tickets that a group gives: 524,288
-- Source: profile.
abbrev pub most_tickets : ℕ
most_tickets = 524288

-- the greatest term, and the greatest sequence number: 2^63-1
-- Source: profile.
abbrev pub greatest : ℕ
greatest = 0x7fff_ffff_ffff_ffff

-- a copy that holds nothing, in sync and reached
-- Source: profile.
abbrev pub new_copy : ShardCopy
new_copy = record { writes = []; is_cut = false; is_in_sync = true }

-- a group with that many copies, all in sync and not cut, of which the first is the primary, with the term 1
-- and nothing submitted
-- Source: profile.
abbrev pub start : Fault → ℕ → GroupState
start fault count = record {
  fault = fault;
  term = 1;
  primary = 0;
  docs = [];
  requests = [];
  copies = replicate count new_copy;
}

-- ---- what steps look up

-- the writes that the copy numbered c holds
abbrev pub writes_at : GroupState → ℕ → List (ℕ × HeldWrite)
writes_at w c = option_map_or (λ y. y.writes) (slice_get w.copies c) []

-- the document numbered d, as the copy numbered c has it
abbrev pub document_at : GroupState → ℕ → ℕ → DocState
document_at w c d = document_in (writes_at w c) d

-- the primary is cut off
abbrev pub is_primary_cut : GroupState → Bool
is_primary_cut w = option_map_or (λ y. y.is_cut) (slice_get w.copies w.primary) false

-- the copy numbered c is in sync; false if there is none
abbrev pub is_in_sync : GroupState → ℕ → Bool
is_in_sync w c = option_map_or (λ y. y.is_in_sync) (slice_get w.copies c) false

-- the ticket's write may be acknowledged: each copy in sync holds it; with the fault Early, the primary does
-- Source: profile.
abbrev pub is_held : GroupState → ℕ → Bool
is_held w t =
    if is_early w.fault then holds (writes_at w w.primary) t else list_all (λ y. not y.is_in_sync || holds y.writes t) w.copies

-- the operation as the primary reads it: with the fault Blind, without its condition
-- Source: profile.
abbrev pub op_read : GroupState → Request → Op
op_read w x = if is_blind w.fault then unconditional x.op else x.op

-- the reply to the ticket, if it is answered
abbrev pub result_of : GroupState → ℕ → Option Reply
result_of w t = option_and_then (λ x. answer_in x.stage) (slice_get w.requests t)

-- ---- what is changed

-- the group after the reply r to the ticket's request x
abbrev pub answered : GroupState → ℕ → Request → Reply → GroupState
answered w t x r = record w { requests = with_stage w.requests t x (Answered r) }

-- the group in which the copy numbered c is y
abbrev pub with_copy : GroupState → ℕ → ShardCopy → GroupState
with_copy w c y = record w { copies = slice_set w.copies c y }

-- the write that the request asks for, with the pair q
abbrev pub write_of : Request → Pair → HeldWrite
write_of x q = record { doc = x.doc; op = x.op; pair = q }

-- the copy, which holds the ticket's write too
abbrev pub copy_with : ShardCopy → ℕ → HeldWrite → ShardCopy
copy_with y t write = record y { writes = with_write y.writes t write }

-- the group with one more ticket, whose document gets a number if it has none
abbrev pub submitted : GroupState → List ℕ → Op → GroupState
submitted w id op = record w {
  docs = insert_key (λ d e. pointwise ◌==◌ d e) w.docs id;
  requests = w.requests ++ record { doc = position_or_len (λ d. pointwise ◌==◌ id d) w.docs; op = op; stage = Queued } ∷ [];
}

-- the group after the primary y performed the ticket's request x, which is a write, with the pair q
abbrev pub performed : GroupState → ℕ → Request → ShardCopy → Pair → GroupState
performed w t x y q = record w {
  requests = with_stage w.requests t x (InFlight q (document_in y.writes x.doc));
  copies = slice_set w.copies w.primary (copy_with y t (write_of x q));
}

-- The group after the copy y numbered c was reached again: it is not cut any more, and if it isn't the
-- primary and the primary is not cut, it takes what the primary holds and is in sync.
-- Source: profile.
abbrev pub healed : GroupState → ℕ → ShardCopy → GroupState
healed w c y =
    with_copy w c (
    if (c == w.primary) || is_primary_cut w
    then record y { is_cut = false }
    else record { writes = writes_at w w.primary; is_cut = false; is_in_sync = true })

-- each copy, the new primary included, after a copy that holds these writes became the primary: if it is in
-- sync and not cut, it takes them; if it is in sync and cut, it is not in sync any more
-- Source: profile.
abbrev pub led_by : List (ℕ × HeldWrite) → ShardCopy → ShardCopy
led_by writes z =
    if z.is_in_sync then (if z.is_cut then record z { is_in_sync = false } else record z { writes = writes }) else z

-- The group in which the copy y numbered c is the primary: the term is greater by one (with the fault
-- SameTerm it stays as it was), what was in flight is lost, and the copies are led by the writes of y.
-- Source: profile.
abbrev pub promoted : GroupState → ℕ → ShardCopy → GroupState
promoted w c y = record w {
  term = if is_same_term w.fault then w.term else w.term + 1;
  primary = c;
  requests = with_flights_lost w.requests;
  copies = map (led_by y.writes) w.copies;
}

-- ---- what a step does, and its answer

-- the step is refused for this reason, and changes nothing
abbrev pub Refuses : Answer → GroupState → Answer → GroupState → Type 0
Refuses reason w a n = (a ≡ reason) × (n ≡ w)

-- the answer is Done, and n is the group `after`
abbrev pub Does : GroupState → Answer → GroupState → Type 0
Does after a n = (a ≡ Done) × (n ≡ after)

-- the step is done if it may be; otherwise the answer is NotNow
abbrev pub DoesWhere : Bool → GroupState → GroupState → Answer → GroupState → Type 0
DoesWhere may after w a n = MatchBool may (Does after a n) (Refuses NotNow w a n)

-- there is such a ticket, and the step does this with its request; otherwise the answer is NotNow
abbrev pub OnRequest : (Request → Answer → GroupState → Type 0) → GroupState → ℕ → Answer → GroupState → Type 0
OnRequest Acts w t a n = MatchOption (slice_get w.requests t) (Refuses NotNow w a n) (λ x. Acts x a n)

-- there is such a copy, and the step does this with it; otherwise the answer is NotNow
abbrev pub OnCopy : (ShardCopy → Answer → GroupState → Type 0) → GroupState → ℕ → Answer → GroupState → Type 0
OnCopy Acts w c a n = MatchOption (slice_get w.copies c) (Refuses NotNow w a n) (λ y. Acts y a n)

-- the get x of the ticket is answered with what the copy numbered c shows
-- Source: profile.
abbrev pub Shows : GroupState → ℕ → Request → ℕ → Answer → GroupState → Type 0
Shows w t x c a n = Does (answered w t x (shown (document_at w c x.doc))) a n

-- A get is served by the primary, which may not be cut (otherwise NotNow), and waits for a write in flight on
-- its document (Waits). With the fault Dirty it does not wait. With the fault Stale the copy whose number is
-- the ticket's modulo the number of copies serves it, cut or not, and it does not wait.
-- Source: profile.
abbrev pub ServesGet : GroupState → ℕ → Request → Answer → GroupState → Type 0
ServesGet w t x a n =
    MatchBool (is_stale w.fault) (Shows w t x (t % length w.copies) a n)
    (MatchBool (is_primary_cut w) (Refuses NotNow w a n)
    (MatchBool (is_busy w.requests x.doc && not (is_dirty w.fault)) (Refuses Waits w a n) (Shows w t x w.primary a n)))

-- the primary y performs the write x of the ticket with its term and its next sequence number, holds it, and
-- it is in flight; NotNow if no sequence number is left
-- Source: profile; OpenSearch (conditions and sequence numbers).
abbrev pub Performs : GroupState → ℕ → Request → ShardCopy → Answer → GroupState → Type 0
Performs w t x y a n =
    MatchBool (nat_lt greatest (next_seq y.writes)) (Refuses NotNow w a n)
    ((q : Pair) × (q.term ≡ w.term) × (q.seq ≡ next_seq y.writes) × Does (performed w t x y q) a n)

-- the primary y performs a write that may be performed in its state of the document (`IsPerformed`), and
-- answers any other with Conflict
-- Source: profile; OpenSearch (conditions and sequence numbers).
abbrev pub Writes : GroupState → ℕ → Request → ShardCopy → Answer → GroupState → Type 0
Writes w t x y a n =
    (IsPerformed (document_in y.writes x.doc) (op_read w x) × Performs w t x y a n)
    ⊎ ((¬ IsPerformed (document_in y.writes x.doc) (op_read w x)) × Does (answered w t x Conflict) a n)

-- a write is served by the primary, which may not be cut, and waits for a write in flight on its document
-- Source: profile; OpenSearch (conditions and sequence numbers).
abbrev pub ServesWrite : GroupState → ℕ → Request → Answer → GroupState → Type 0
ServesWrite w t x a n =
    OnCopy (λ y a' n'. MatchBool y.is_cut (Refuses NotNow w a' n')
    (MatchBool (is_busy w.requests x.doc) (Refuses Waits w a' n') (Writes w t x y a' n'))) w w.primary a n

-- a queued operation is served; NotNow if it isn't queued
-- Source: profile.
abbrev pub Serves : GroupState → ℕ → Request → Answer → GroupState → Type 0
Serves w t x a n =
    MatchBool (is_queued x.stage) (MatchBool (is_get x.op) (ServesGet w t x a n) (ServesWrite w t x a n)) (Refuses NotNow w a n)

-- the copy y numbered c takes the write of the ticket, if that is in flight, the copy is in sync, and neither
-- it nor the primary is cut
-- Source: profile.
abbrev pub CopiesTo : GroupState → ℕ → Request → ℕ → ShardCopy → Answer → GroupState → Type 0
CopiesTo w t x c y a n =
    MatchOption (flight_of x.stage) (Refuses NotNow w a n)
    (λ flight. DoesWhere (y.is_in_sync && not y.is_cut && not (is_primary_cut w)) (with_copy w c (copy_with y t (write_of x flight.0))) w a n)

-- the write of the ticket is answered with Indexed or Deleted, with the flag of the moment at which it was
-- performed, if it is in flight, the primary is not cut, and the write may be acknowledged (`is_held`)
-- Source: profile.
abbrev pub Acknowledges : GroupState → ℕ → Request → Answer → GroupState → Type 0
Acknowledges w t x a n =
    MatchOption (flight_of x.stage) (Refuses NotNow w a n)
    (λ flight. DoesWhere (not (is_primary_cut w) && is_held w t) (answered w t x (performed_reply flight.1 x.op flight.0)) w a n)

-- The table: in w the step is answered a, and the group is n after it. `Submit` returns the next ticket, or
-- Full. `Serve`, `Copy` and `Ack` are as above. `Cut` is done if the copy isn't cut, and `Heal` of each copy.
-- `Drop` is done of a copy that is in sync and cut and not the primary, if the primary isn't cut. `Promote`
-- is done of a copy that is in sync, not cut and not the primary, if the term is below the greatest. Each
-- step has exactly one answer.
-- Source: profile.
abbrev pub Gives : GroupState → Step → Answer → GroupState → Type 0
Gives w (step.Submit id op) a n =
    MatchBool (nat_lt (length w.requests) most_tickets) ((a ≡ Ticket (length w.requests)) × (n ≡ submitted w id op)) (Refuses Full w a n)
Gives w (step.Serve t) a n = OnRequest (Serves w t) w t a n
Gives w (step.Copy t c) a n = OnRequest (λ x. OnCopy (CopiesTo w t x c) w c) w t a n
Gives w (step.Ack t) a n = OnRequest (Acknowledges w t) w t a n
Gives w (step.Cut c) a n = OnCopy (λ y. DoesWhere (not y.is_cut) (with_copy w c (record y { is_cut = true })) w) w c a n
Gives w (step.Heal c) a n = OnCopy (λ y. Does (healed w c y)) w c a n
Gives w (step.Drop c) a n =
    OnCopy (λ y. DoesWhere (y.is_in_sync && y.is_cut && not (c == w.primary) && not (is_primary_cut w)) (with_copy w c (record y { is_in_sync = false })) w) w c a n
Gives w (step.Promote c) a n =
    OnCopy (λ y. DoesWhere (y.is_in_sync && not y.is_cut && not (c == w.primary) && nat_lt w.term greatest) (promoted w c y) w) w c a n

-- The step is answered a, and leads from w to n. (A record, so that a proof can name it without the table.)
pub record Takes (w : GroupState) (s : Step) (a : Answer) (n : GroupState) : Type 0 where
  -- the table gives this answer and this group
  pub gives : Gives w s a n

-- The table lets w take the step: a submission if a ticket is left, any other step if its answer is that it
-- is done.
abbrev pub MayTake : GroupState → Step → Type 0
MayTake w (step.Submit id op) = length w.requests < most_tickets
MayTake w (step.Serve t) = (n : GroupState) × Gives w (step.Serve t) Done n
MayTake w (step.Copy t c) = (n : GroupState) × Gives w (step.Copy t c) Done n
MayTake w (step.Ack t) = (n : GroupState) × Gives w (step.Ack t) Done n
MayTake w (step.Cut c) = (n : GroupState) × Gives w (step.Cut c) Done n
MayTake w (step.Heal c) = (n : GroupState) × Gives w (step.Heal c) Done n
MayTake w (step.Drop c) = (n : GroupState) × Gives w (step.Drop c) Done n
MayTake w (step.Promote c) = (n : GroupState) × Gives w (step.Promote c) Done n

-- the steps are taken one after another, from w to n
abbrev pub IsRun : GroupState → List Step → GroupState → Type 0
IsRun w [] n = n ≡ w
IsRun w (s ∷ ss) n = (m : GroupState) × (a : Answer) × Takes w s a m × IsRun m ss n
