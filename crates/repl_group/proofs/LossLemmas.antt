-- Flights that are lost one after another.
use Rattle.std.proofs.Common.{ℕ, zero, suc, ◌≡◌, ◌≤◌, ◌+◌, ◌<◌, List, [], ◌∷◌, drop, get_or, length, refl, sym, ap, ◌∙◌, add-one, add-zero, arith, Some, Bool, true, false, true≢false}
use Rattle.std.specs.Prelude.{if◌then◌else◌, slice_get, slice_set}
use Rattle.std.proofs.Math.Seq.{drop-cons}
use Rattle.std.proofs.lemmas.List.{drop_all}
use Rattle.std.proofs.lemmas.Option.{get_or_from_slice_get, slice_get_within}
use Rattle.repl_group.specs.declared.request.Request.{Request}
use Rattle.repl_group.specs.declared.request.Stage.{Stage}
use Rattle.repl_group.specs.declared.request.Stage.TheVariants.{Queued, InFlight, Answered, Lost}
use Rattle.repl_group.specs.Requests.{in_flight_from, is_in_flight, lost_from, lost_request, with_flights_lost}
use Rattle.repl_group.proofs.ListLemmas.{map-set_alike}
use Rattle.repl_group.proofs.RequestLemmas.{lost_grounded, one_further}

first : {t u : ℕ} {ts us : List ℕ} → t ∷ ts ≡ u ∷ us → (t ≡ u) × (ts ≡ us)
first same = (cc, cc)

lost-twice : (s : Stage) → lost_from (lost_from s) ≡ lost_from s
lost-twice Queued = refl
lost-twice (InFlight q before) = refl
lost-twice (Answered r) = refl
lost-twice (Lost q) = refl

lost-same : (s : Stage) → is_in_flight s ≡ false → lost_from s ≡ s
lost-same Queued is = refl
lost-same (InFlight q before) is = absurd (true≢false is)
lost-same (Answered r) is = refl
lost-same (Lost q) is = refl

-- what the first of the tickets in flight stands for, and the tickets in flight where it is lost
abbrev IsFirst : ℕ → List Request → ℕ → List ℕ → Type 0
IsFirst i xs t ts = (k : ℕ) × (x : Request) × (t ≡ i + k) × (slice_get xs k ≡ Some x) × (in_flight_from i (slice_set xs k (lost_request x)) ≡ ts)

first_lost : (i : ℕ) (xs : List Request) (t : ℕ) (ts : List ℕ) → in_flight_from i xs ≡ t ∷ ts → IsFirst i xs t ts
first_lost i [] t ts is = absurd (cc)
first_lost i (x ∷ xs) t ts is = by_test (is_in_flight x.stage) refl is (λ there. first_lost (i + 1) xs t ts there) where
  by_test : (b : Bool) → is_in_flight x.stage ≡ b → (if b then i ∷ in_flight_from (i + 1) xs else in_flight_from (i + 1) xs) ≡ t ∷ ts
      → (in_flight_from (i + 1) xs ≡ t ∷ ts → IsFirst (i + 1) xs t ts) → IsFirst i (x ∷ xs) t ts
  by_test true flies here further = (
    zero,
    x,
    sym (first here).0 ∙ sym (add-zero i),
    refl,
    ap (λ b. if b then i ∷ in_flight_from (i + 1) xs else in_flight_from (i + 1) xs) (lost_grounded x.stage) ∙ (first here).1,
  )
  by_test false stands there further =
      let rest = further there in (
        suc rest.0,
        rest.1,
        rest.2 ∙ one_further i rest.0,
        rest.3,
        ap (λ b. if b then i ∷ in_flight_from (i + 1) (slice_set xs rest.0 (lost_request rest.1)) else in_flight_from (i + 1) (slice_set xs rest.0 (lost_request rest.1))) stands ∙ rest.4,
      )

none_left : (i : ℕ) (xs : List Request) → in_flight_from i xs ≡ [] → with_flights_lost xs ≡ xs
none_left i [] none = refl
none_left i (x ∷ xs) none = by_test (is_in_flight x.stage) refl none (λ there. none_left (i + 1) xs there) where
  by_test : (b : Bool) → is_in_flight x.stage ≡ b → (if b then i ∷ in_flight_from (i + 1) xs else in_flight_from (i + 1) xs) ≡ []
      → (in_flight_from (i + 1) xs ≡ [] → with_flights_lost xs ≡ xs) → with_flights_lost (x ∷ xs) ≡ x ∷ xs
  by_test true flies here further = absurd (cc)
  by_test false stands there further =
      ap (λ s. record x { stage = s } ∷ with_flights_lost xs) (lost-same x.stage stands) ∙ ap (λ ys. x ∷ ys) (further there)

-- how far the tickets are lost
abbrev pub AreLostTo : ℕ → List Request → List ℕ → List Request → Type 0
AreLostTo i start tickets now = (with_flights_lost now ≡ with_flights_lost start) × (in_flight_from 0 now ≡ drop i tickets)

module _ (i : ℕ) (start : List Request) (tickets : List ℕ) (now : List Request) (t : ℕ) (less : i < length tickets) (is : t ≡ get_or tickets i 0) (lost : AreLostTo i start tickets now) where
  next_lost : IsFirst 0 now t (drop (i + 1) tickets)
  next_lost = first_lost 0 now t (drop (i + 1) tickets) (lost.1 ∙ (drop-cons tickets i 0 less ∙ (ap (λ u. u ∷ drop (suc i) tickets) (sym is) ∙ ap (λ k. t ∷ drop k tickets) (sym (add-one i)))))

  pub ticket_there : t < length now
  ticket_there = let within : next_lost.0 < length now = slice_get_within now next_lost.0 next_lost.1 next_lost.3 in let same : t ≡ 0 + next_lost.0 = next_lost.2 in omega arith

  pub lost_further : (x : Request) → x ≡ get_or now t x → AreLostTo (i + 1) start tickets (slice_set now t (lost_request x))
  lost_further x read =
      let same : t ≡ next_lost.0 = let number : t ≡ 0 + next_lost.0 = next_lost.2 in omega arith in
      let request : x ≡ next_lost.1 = read ∙ (ap (λ k. get_or now k x) same ∙ get_or_from_slice_get now next_lost.0 next_lost.1 x next_lost.3) in
      let put : slice_set now t (lost_request x) ≡ slice_set now next_lost.0 (lost_request next_lost.1) = ap (λ k. slice_set now k (lost_request x)) same ∙ ap (λ y. slice_set now next_lost.0 (lost_request y)) request in (
        ap with_flights_lost put ∙ (map-set_alike lost_request now next_lost.0 next_lost.1 (lost_request next_lost.1) next_lost.3
            (ap (λ s. record next_lost.1 { stage = s }) (lost-twice next_lost.1.stage)) ∙ lost.0),
        ap (in_flight_from 0) put ∙ next_lost.4,
      )

pub all_lost : (i : ℕ) (start : List Request) (tickets : List ℕ) (now : List Request) → length tickets ≤ i → AreLostTo i start tickets now → now ≡ with_flights_lost start
all_lost i start tickets now whole lost = sym (none_left 0 now (lost.1 ∙ drop_all i tickets whole)) ∙ lost.0
