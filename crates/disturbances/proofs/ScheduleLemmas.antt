-- Drawn incidents one by one.
use Rattle.std.proofs.Common.{◌≡◌, ℕ, zero, suc, ◌+◌, ◌∙◌, [], ◌∷◌, ◌++◌, add-one, ap, refl}
use Rattle.rand_pcg.specs.Lcg.{Lcg}
use Rattle.rand_pcg.specs.Pcg.{pcg32}
use Rattle.disturbances.specs.Schedules.{after_words, incident_of, incidents_drawn}
use Rattle.disturbances.specs.declared.disturbance.Disturbance.{Disturbance}

after_words_suc : (n : ℕ) (g : Lcg) → after_words (suc n) g ≡ (pcg32 (after_words n g)).1
unfolding after_words
after_words_suc zero g = refl
after_words_suc (suc n) g = after_words_suc n (pcg32 g).1

pub after_words_more : (n : ℕ) (g : Lcg) → after_words (n + 1) g ≡ (pcg32 (after_words n g)).1
after_words_more n g = ap (λ m. after_words m g) (add-one n) ∙ after_words_suc n g

incidents_drawn_suc : (d : Disturbance) (n : ℕ) (g : Lcg)
    → incidents_drawn d (suc n) g ≡ incidents_drawn d n g ++ incident_of d (pcg32 (after_words n g)).0 ∷ []
unfolding after_words incidents_drawn
incidents_drawn_suc d zero g = refl
incidents_drawn_suc d (suc n) g = ap (λ drawn. incident_of d (pcg32 g).0 ∷ drawn) (incidents_drawn_suc d n (pcg32 g).1)

pub incidents_drawn_more : (d : Disturbance) (n : ℕ) (g : Lcg)
    → incidents_drawn d (n + 1) g ≡ incidents_drawn d n g ++ incident_of d (pcg32 (after_words n g)).0 ∷ []
incidents_drawn_more d n g = ap (λ m. incidents_drawn d m g) (add-one n) ∙ incidents_drawn_suc d n g

pub ruleset more_words = (after_words_more, incidents_drawn_more)
