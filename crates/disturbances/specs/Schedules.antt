-- The schedule of a disturbance, drawn from a seed by words of a generator.
use Rattle.std.specs.Prelude.{ℕ, zero, suc, ◌/◌, ◌%◌, ◌==◌, List, [], ◌∷◌, if◌then◌else◌, length, nat_lt, slice_get, unwrap_or}
use Rattle.rand_pcg.specs.Lcg.{Lcg, increment_of, started}
use Rattle.rand_pcg.specs.Pcg.{multiplier_64, pcg32}
use Rattle.disturbances.specs.declared.disturbance.Disturbance.{Disturbance}
use Rattle.disturbances.specs.declared.disturbance.Disturbance.TheVariants as by
use Rattle.disturbances.specs.declared.incident.Incident.{Incident}
use Rattle.disturbances.specs.declared.incident.Incident.TheVariants.{Quiet, CutOff, Reach, TakeOver}

-- The incident of this kind, from 0 to 63, with the number of a copy. Cuts: below 16 CutOff of that copy,
-- below 32 Reach of it. Promotions: below 8 TakeOver by it. Storm: below 16 TakeOver, otherwise CutOff, of
-- copy 0 each. Any other is Quiet.
-- Source: profile.
abbrev pub incident_of_kind : Disturbance → ℕ → ℕ → Incident
incident_of_kind by.None kind copy = Quiet
incident_of_kind by.Cuts kind copy = if nat_lt kind 16 then CutOff copy else (if nat_lt kind 32 then Reach copy else Quiet)
incident_of_kind by.Promotions kind copy = if nat_lt kind 8 then TakeOver copy else Quiet
incident_of_kind by.Storm kind copy = if nat_lt kind 16 then TakeOver 0 else CutOff 0

-- The incident that a word draws: the word modulo 64 is the kind; the rest is the number of a copy.
-- Source: profile.
abbrev pub incident_of : Disturbance → ℕ → Incident
incident_of disturbance word = incident_of_kind disturbance (word % 64) (word / 64)

-- that many incidents, each of one word
unfoldable pub incidents_drawn : Disturbance → ℕ → Lcg → List Incident
incidents_drawn disturbance zero g = []
incidents_drawn disturbance (suc n) g = incident_of disturbance (pcg32 g).0 ∷ incidents_drawn disturbance n (pcg32 g).1

-- the generator after that many words
unfoldable pub after_words : ℕ → Lcg → Lcg
after_words zero g = g
after_words (suc n) g = after_words n (pcg32 g).1

-- the generator from whose words schedules are drawn, by its seed: its stream, 56, differs from those of
-- plans and of groups
-- Source: profile.
abbrev pub generator_of : ℕ → Lcg
generator_of seed = started 64 multiplier_64 seed (increment_of 64 56)

-- The schedule of a seed and a length; no incidents if there is no disturbance.
-- Source: profile.
abbrev pub schedule_drawn : Disturbance → ℕ → ℕ → List Incident
schedule_drawn by.None seed count = []
schedule_drawn by.Cuts seed count = incidents_drawn by.Cuts count (generator_of seed)
schedule_drawn by.Promotions seed count = incidents_drawn by.Promotions count (generator_of seed)
schedule_drawn by.Storm seed count = incidents_drawn by.Storm count (generator_of seed)

-- the number of polls from one incident to the next: 16
-- Source: profile.
abbrev pub polls_apart : ℕ
polls_apart = 16

-- The incident before the poll of this number, all polls of the group counted from 0: each incident of the
-- schedule has its poll, and after the last one the first comes again. Before other polls nothing happens
-- (Quiet).
-- Source: profile.
abbrev pub incident_before : List Incident → ℕ → Incident
incident_before schedule n =
    if n % polls_apart == 0 then unwrap_or (slice_get schedule (n / polls_apart % length schedule)) Quiet else Quiet
