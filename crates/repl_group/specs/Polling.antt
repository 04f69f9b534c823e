-- What one submission and one poll do to a group.
use Rattle.std.specs.Prelude.{◌≡◌, ◌<◌, ℕ, ◌/◌, ◌%◌, ◌==◌, List, Option, Some, MatchOption, MatchResult, Result, Ok, if◌then◌else◌, length, nat_lt, option_map, slice_get}
use Rattle.std.specs.Option.{option_map_or}
use Rattle.rand_pcg.specs.Lcg.{Lcg, increment_of, started}
use Rattle.rand_pcg.specs.Pcg.{multiplier_64, pcg32}
use Rattle.doc_register.specs.declared.op.Op.{Op}
use Rattle.workload.specs.declared.target.Progress.{Progress}
use Rattle.workload.specs.declared.target.Progress.TheVariants as progress
use Rattle.workload.specs.declared.target.TargetFault.{TargetFault}
use Rattle.workload.specs.declared.target.TargetFault.TheVariants as refusal
use Rattle.workload.specs.declared.target.Ticket.{Ticket}
use Rattle.repl_group.specs.declared.step.Answer.{Answer}
use Rattle.repl_group.specs.declared.step.Answer.TheVariants as answer
use Rattle.repl_group.specs.declared.step.Step.{Step}
use Rattle.repl_group.specs.declared.step.Step.TheVariants as step
use Rattle.repl_group.specs.Group.{GroupState, MayTake, Takes, most_tickets, result_of}
use Rattle.repl_group.specs.Requests.{in_flight_from}

-- the generator from whose words the steps of a group are drawn, by its seed: its stream is 55
-- Source: profile.
abbrev pub generator_of : ℕ → Lcg
generator_of seed = started 64 multiplier_64 seed (increment_of 64 55)

-- the ticket in flight at y modulo their number, in rising order; none if none is in flight
-- Source: profile.
abbrev pub flight_drawn : GroupState → ℕ → Option ℕ
flight_drawn w y = slice_get (in_flight_from 0 w.requests) (y % length (in_flight_from 0 w.requests))

-- The step of a poll of the ticket t, by its kind, from 0 to 63, the copy c and the number y that were drawn.
-- Below 24 it is `Serve` of t; below 48 `Copy` of the ticket in flight at y to c; below 60 `Ack` of the
-- ticket in flight at y; 60 is `Cut` of c, 61 and 62 `Heal` of c; 63 is `Drop` of c if y is even, otherwise
-- `Promote`. `Copy` and `Ack` are no step if nothing is in flight.
-- Source: profile.
abbrev pub step_of_kind : GroupState → ℕ → ℕ → ℕ → ℕ → Option Step
step_of_kind w t kind c y =
    if nat_lt kind 24 then Some (step.Serve t)
    else (if nat_lt kind 48 then option_map (λ u. step.Copy u c) (flight_drawn w y)
    else (if nat_lt kind 60 then option_map step.Ack (flight_drawn w y)
    else (if kind == 60 then Some (step.Cut c)
    else (if nat_lt kind 63 then Some (step.Heal c)
    else (if y % 2 == 0 then Some (step.Drop c) else Some (step.Promote c))))))

-- The step of a poll of the ticket t that draws the word: the word modulo 64 is the kind; the rest modulo the
-- number of copies is the copy, and the rest divided by it the number y.
-- Source: profile.
abbrev pub step_drawn : GroupState → ℕ → ℕ → Option Step
step_drawn w t word = step_of_kind w t (word % 64) (word / 64 % length w.copies) (word / 64 / length w.copies)

-- the report is Waiting or Done: it is not that the outcome will never be known
abbrev pub IsKnown : Progress → Type 0
IsKnown progress.Waiting = Unit {0}
IsKnown (progress.Done r) = Unit {0}
IsKnown progress.Unknown = ⊥

-- what is reported of the ticket: its reply, or that it waits
abbrev pub progress_of : GroupState → ℕ → Progress
progress_of w t = option_map_or progress.Done (result_of w t) progress.Waiting

-- The step is taken, and the poll reports what has become of the ticket; or the step, which the table lets
-- the group take, is refused memory, which changes nothing.
abbrev pub ReportsAfter : GroupState → Step → ℕ → Result Progress TargetFault → GroupState → Type 0
ReportsAfter w s t reported n =
    MatchResult reported (λ p. (a : Answer) × Takes w s a n × (p ≡ progress_of n t))
    (λ fault. (fault ≡ refusal.NoMemory) × (n ≡ w) × MayTake w s)

-- A poll of a ticket with a result reports it, and changes nothing. Any other poll draws one word, and takes
-- the step that the word determines, if it determines one.
-- Source: profile.
abbrev pub Polls : GroupState → Lcg → ℕ → Result Progress TargetFault → GroupState → Lcg → Type 0
Polls w random t reported n random' =
    MatchOption (result_of w t)
    ((random' ≡ (pcg32 random).1)
    × MatchOption (step_drawn w t (pcg32 random).0) ((reported ≡ Ok progress.Waiting) × (n ≡ w)) (λ s. ReportsAfter w s t reported n))
    (λ r. (reported ≡ Ok (progress.Done r)) × (n ≡ w) × (random' ≡ random))

-- a submission is refused: with Full, by the step Submit; or, if a ticket is left, with NoMemory, which
-- changes nothing
abbrev pub RefusesSubmission : GroupState → List ℕ → Op → TargetFault → GroupState → Type 0
RefusesSubmission w id op refusal.Full n = Takes w (step.Submit id op) answer.Full n
RefusesSubmission w id op refusal.NoMemory n = (n ≡ w) × (length w.requests < most_tickets)

-- A submission takes the step Submit, and returns its ticket or Full; or, if a ticket is left, it is refused
-- memory, which changes nothing.
abbrev pub Submits : GroupState → List ℕ → Op → Result Ticket TargetFault → GroupState → Type 0
Submits w id op reported n =
    MatchResult reported (λ ticket. Takes w (step.Submit id op) (answer.Ticket ticket.0) n) (λ fault. RefusesSubmission w id op fault n)
