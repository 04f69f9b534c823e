-- The plan that is drawn from a seed, by words of a generator.
use Rattle.std.specs.Prelude.{ℕ, zero, suc, ◌*◌, ◌%◌, ◌==◌, ◌||◌, List, [], ◌∷◌, Option, Some, None, if◌then◌else◌, nat_lt}
use Rattle.rand_pcg.specs.Lcg.{Lcg, increment_of, started}
use Rattle.rand_pcg.specs.Pcg.{multiplier_64, pcg32}
use Rattle.workload.specs.Plans.{most_clients, most_docs, most_turns}
use Rattle.workload.specs.declared.plan_fault.PlanFault.{PlanFault}
use Rattle.workload.specs.declared.plan_fault.PlanFault.TheVariants.{Zero, TooMany}
use Rattle.workload.specs.declared.turn.Kind.{Kind}
use Rattle.workload.specs.declared.turn.Kind.TheVariants.{Get, Put, PutIfSeen, Delete, DeleteIfSeen}
use Rattle.workload.specs.declared.turn.Turn.{Turn}

-- The first reason to draw no plan with that many clients, calls of each and documents: Zero if a number is
-- 0, TooMany if one is above the greatest that it may be.
-- Source: profile.
abbrev pub draw_refusal : ℕ → ℕ → ℕ → Option PlanFault
draw_refusal clients calls docs =
    if clients == 0 || calls == 0 || docs == 0 then Some Zero
    else (if nat_lt most_clients clients || nat_lt most_turns (clients * calls) || nat_lt most_docs docs then Some TooMany else None)

-- of eight kinds, three are gets, two puts if seen, and one each a put, a delete if seen and a delete
-- Source: profile.
abbrev pub kind_numbered : ℕ → Kind
kind_numbered n =
    if nat_lt n 3 then Get
    else (if nat_lt n 5 then PutIfSeen else (if n == 5 then Put else (if n == 6 then DeleteIfSeen else Delete)))

-- One turn takes two words: the first, modulo the number of documents, is the document, the second, modulo 8,
-- is the kind.
-- Source: profile.
unfoldable pub turn_drawn : ℕ → Lcg → Turn
turn_drawn docs g = record { doc = (pcg32 g).0 % docs; kind = kind_numbered ((pcg32 (pcg32 g).1).0 % 8) }

-- the generator after the words of a turn
-- Source: profile.
unfoldable pub after_turn : Lcg → Lcg
after_turn g = (pcg32 (pcg32 g).1).1

-- that many turns, one after the other
unfoldable pub turns_drawn : ℕ → ℕ → Lcg → List Turn
turns_drawn docs zero g = []
turns_drawn docs (suc n) g = turn_drawn docs g ∷ turns_drawn docs n (after_turn g)

-- the generator after that many turns
unfoldable pub after_turns : ℕ → Lcg → Lcg
after_turns zero g = g
after_turns (suc n) g = after_turns n (after_turn g)

-- the turns of that many clients, with that many calls each, client by client
-- Source: profile.
unfoldable pub clients_drawn : ℕ → ℕ → ℕ → Lcg → List (List Turn)
clients_drawn docs calls zero g = []
clients_drawn docs calls (suc n) g = turns_drawn docs calls g ∷ clients_drawn docs calls n (after_turns calls g)

-- the generator of a seed: PCG XSH RR 64/32 with the stream 54, which is that of plans
-- Source: profile.
abbrev pub generator_of : ℕ → Lcg
generator_of seed = started 64 multiplier_64 seed (increment_of 64 54)

-- the plan that is drawn from a seed
-- Source: profile.
abbrev pub plan_drawn : ℕ → ℕ → ℕ → ℕ → List (List Turn)
plan_drawn seed clients calls docs = clients_drawn docs calls clients (generator_of seed)
