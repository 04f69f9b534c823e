-- What a group that one caller owns answers.
use Rattle.std.proofs.Common.{◌≡◌, ℕ, ◌+◌, ◌%◌, ◌^◌, ◌<◌, Bool, Err, List, MatchBool, MatchOption, None, Ok, Option, Result, Some, false, length, refl, subst, sym, true}
use Rattle.std.specs.Prelude.{IfOk, nat_lt}
use Rattle.std.specs.Option.{option_map_or}
use Rattle.std.proofs.lemmas.Bool.{ltb-true}
use Rattle.rand_pcg.specs.Lcg.{Lcg}
use Rattle.rand_pcg.specs.Pcg.{pcg32}
use Rattle.doc_register.specs.declared.op.Op.{Op}
use Rattle.doc_register.specs.declared.reply.Reply.{Reply}
use Rattle.workload.specs.declared.target.Progress.{Progress}
use Rattle.workload.specs.declared.target.Progress.TheVariants as progress
use Rattle.workload.specs.declared.target.TargetFault.{TargetFault}
use Rattle.workload.specs.declared.target.Ticket.{Ticket}
use Rattle.repl_group.specs.Group.{GroupState, Refuses, most_tickets, result_of, submitted}
use Rattle.repl_group.specs.Polling.{IsKnown, ReportsAfter, step_drawn}
use Rattle.repl_group.specs.declared.step.Answer.TheVariants as answer
use Rattle.repl_group.specs.declared.step.Step.{Step}
use Rattle.disturbances.specs.Disturbed.{CountedState, DisturbedState, PollsDisturbed, SubmitsTicket, ReportsProgress, with_schedule}
use Rattle.disturbances.specs.declared.incident.Incident.{Incident}

-- a poll of a group with its schedule
pub polled : (old new : CountedState) (schedule : List Incident) (ticket : Ticket) (reported : Result Progress TargetFault)
    → IfOk reported (λ _. PollsDisturbed schedule old.polls old.core old.random ticket.0 reported new.core new.random)
    → new.polls ≡ (old.polls + 1) % 2 ^ 64
    → IfOk reported (λ progress. ReportsProgress (with_schedule old schedule) ticket progress (with_schedule new schedule))
polled old new schedule ticket (Ok progress) polls counted = record { polls = polls; counted = counted; schedule_stays = refl }
polled old new schedule ticket (Err fault) polls counted = tt

-- a ticket that it answers is one that a group has
ticket_within : (w n : GroupState) (id : List ℕ) (op : Op) (t : ℕ) (b : Bool) → nat_lt (length w.requests) most_tickets ≡ b
    → MatchBool b ((answer.Ticket t ≡ answer.Ticket (length w.requests)) × (n ≡ submitted w id op)) (Refuses answer.Full w (answer.Ticket t) n) → t < most_tickets
ticket_within w n id op t true within gives =
    let same : answer.Ticket t ≡ answer.Ticket (length w.requests) = gives.0 in
    let number : t ≡ length w.requests = cc in
    subst (λ k. k < most_tickets) (sym number) (ltb-true (length w.requests) most_tickets within)
ticket_within w n id op t false full refuses = let other : answer.Ticket t ≡ answer.Full = refuses.0 in absurd (cc)

pub tickets_issued : (old new : DisturbedState) (id : List ℕ) (op : Op) (ticket : Ticket) → SubmitsTicket old id op ticket new → ticket.0 < most_tickets
tickets_issued old new id op ticket reported =
    ticket_within old.core new.core id op ticket.0 (nat_lt (length (old.core).requests) most_tickets) refl (reported.submits).gives

-- it never reports that an outcome is unknown
abbrev reported_ok : Progress → Result Progress TargetFault
reported_ok p = Ok p

known_result : (r : Option Reply) → IsKnown (option_map_or progress.Done r progress.Waiting)
known_result None = tt
known_result (Some r) = tt

same_progress : (p q : Progress) → reported_ok p ≡ reported_ok q → q ≡ p
same_progress p q same = cc

after_step : (m n : GroupState) (t : ℕ) (p : Progress) (s : Option Step)
    → MatchOption s ((reported_ok p ≡ reported_ok progress.Waiting) × (n ≡ m)) (λ s. ReportsAfter m s t (reported_ok p) n) → IsKnown p
after_step m n t p None reported = subst IsKnown (same_progress p progress.Waiting reported.0) tt
after_step m n t p (Some s) reported = subst IsKnown (sym reported.2) (known_result (result_of n t))

after_result : (m n : GroupState) (random random' : Lcg) (t : ℕ) (p : Progress) (r : Option Reply)
    → MatchOption r ((random' ≡ (pcg32 random).1) × MatchOption (step_drawn m t (pcg32 random).0) ((reported_ok p ≡ reported_ok progress.Waiting) × (n ≡ m)) (λ s. ReportsAfter m s t (reported_ok p) n))
    (λ r. (reported_ok p ≡ reported_ok (progress.Done r)) × (n ≡ m) × (random' ≡ random)) → IsKnown p
after_result m n random random' t p None reported = after_step m n t p (step_drawn m t (pcg32 random).0) reported.1
after_result m n random random' t p (Some r) reported = subst IsKnown (same_progress p (progress.Done r) reported.0) tt

pub progress_known : (old new : DisturbedState) (ticket : Ticket) (p : Progress) → ReportsProgress old ticket p new → IsKnown p
progress_known old new ticket p reported =
    let polls = reported.polls in
    after_result polls.0 new.core old.random new.random ticket.0 p (result_of polls.0 ticket.0) polls.2
