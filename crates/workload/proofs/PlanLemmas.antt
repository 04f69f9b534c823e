-- Which turns are a plan.
use Rattle.std.proofs.Common.{ℕ, All, ◌≤◌, ◌<◌, ◌^◌, ◌∙◌, Some, arith, get_or, slice_get, sym, take, true, ◌≡◌, ◌+◌, ◌||◌, ◌==◌, Bool, Global, Vec, false, List, [], ◌∷◌, None, ap, length, map, refl}
use Rattle.std.specs.Prelude.{if◌then◌else◌, nat_lt, sum_by}
use Rattle.std.proofs.lemmas.Bool.{false_from_ne_true, leb-false, ltb-false, or_parts}
use Rattle.std.proofs.lemmas.List.{length-map, take-map}
use Rattle.std.proofs.lemmas.List.Folds.{fold-map, list_any_at}
use Rattle.std.proofs.lemmas.List.Sums.{sum_by_more_le}
use Rattle.std.proofs.lemmas.Option.{get_or_from_slice_get, slice_get_within}
use Rattle.std.specs.List.{list_any}
use Rattle.workload.specs.Plans.{is_far, is_idle, is_too_large, lacks_turns, most_clients, most_docs, most_turns, refusal_of, turn_count}
use Rattle.workload.specs.declared.plan_fault.PlanFault.TheVariants.{Zero, TooMany}
use Rattle.workload.specs.declared.turn.Turn.{Turn}

list_any-map : {X Y : Type 0} (p : Y → Bool) (f : X → Y) (xs : List X) → list_any p (map f xs) ≡ list_any (λ x. p (f x)) xs
list_any-map p f [] = refl
list_any-map p f (x ∷ xs) = ap (λ b. p (f x) || b) (list_any-map p f xs)

-- the lists that hold the turns
abbrev lists_in : List (Vec Turn Global) → List (List Turn)
lists_in clients = map (λ turns. turns.items) clients

turn_count-map : (clients : List (Vec Turn Global)) → turn_count (lists_in clients) ≡ sum_by (λ turns. length turns.items) clients
turn_count-map clients = fold-map (λ n turns. n + length turns) (λ (turns : Vec Turn Global). turns.items) 0 clients

pub lacks_turns_mapped : (clients : List (Vec Turn Global)) → lacks_turns (map (λ turns. turns.items) clients)
    ≡ (length clients == 0 || list_any (λ turns. is_idle turns.items) clients)
lacks_turns_mapped clients =
    rw (length-map clients (λ (turns : Vec Turn Global). turns.items), list_any-map is_idle (λ (turns : Vec Turn Global). turns.items) clients) refl

pub is_too_large_mapped : (clients : List (Vec Turn Global)) → is_too_large (map (λ turns. turns.items) clients)
    ≡ (nat_lt most_clients (length clients) || nat_lt most_turns (sum_by (λ turns. length turns.items) clients)
    || list_any (λ turns. list_any is_far turns.items) clients)
is_too_large_mapped clients =
    rw (
      length-map clients (λ (turns : Vec Turn Global). turns.items),
      turn_count-map clients,
      list_any-map (list_any is_far) (λ (turns : Vec Turn Global). turns.items) clients,
    ) refl

-- turns that fail each test are a plan
pub none_refused : (clients : List (List Turn)) → (length clients == 0) ≡ false → list_any is_idle clients ≡ false
    → nat_lt most_clients (length clients) ≡ false → nat_lt most_turns (turn_count clients) ≡ false
    → list_any (list_any is_far) clients ≡ false → refusal_of clients ≡ None
none_refused clients some busy few short near = rw (some, busy, few, short, near) refl

-- ---- what a plan keeps

none_later : (a b : Bool) → (if a then Some Zero else (if b then Some TooMany else None)) ≡ None → b ≡ false
none_later true b none = cc
none_later false true none = cc
none_later false false none = refl

is_small : (clients : List (List Turn)) → refusal_of clients ≡ None → is_too_large clients ≡ false
is_small clients plan = none_later (lacks_turns clients) (is_too_large clients) plan

-- the turns of a plan are no more than there may be
few_turns : (clients : List (List Turn)) → refusal_of clients ≡ None → turn_count clients ≤ most_turns
few_turns clients plan =
    ltb-false most_turns (turn_count clients)
    (or_parts (nat_lt most_clients (length clients)) (nat_lt most_turns (turn_count clients))
    (or_parts (nat_lt most_clients (length clients) || nat_lt most_turns (turn_count clients)) (list_any (list_any is_far) clients) (is_small clients plan)).0).1

fails_at : {X : Type 0} (p : X → Bool) (xs : List X) (i : ℕ) (d : X) → i < length xs → list_any p xs ≡ false → p (get_or xs i d) ≡ false
fails_at p xs i d within none = false_from_ne_true (p (get_or xs i d)) (λ yes. let any = list_any_at p xs i d within yes in cc)

-- the documents of a plan's turns are among those that there may be
pub near_turns : (clients : List (Vec Turn Global)) (turns : List Turn) (i : ℕ) (d : Vec Turn Global)
    → refusal_of (map (λ v. v.items) clients) ≡ None → i < length clients → turns ≡ (get_or clients i d).items
    → All (λ turn. turn.doc < most_docs) turns
near_turns clients turns i d plan within is k e here =
    let near : list_any (list_any is_far) (map (λ (v : Vec Turn Global). v.items) clients) ≡ false =
    (or_parts (nat_lt most_clients (length (lists_in clients)) || nat_lt most_turns (turn_count (lists_in clients))) _ (is_small (lists_in clients) plan)).1 in
    let each : list_any is_far (get_or clients i d).items ≡ false =
    fails_at (λ (v : Vec Turn Global). list_any is_far v.items) clients i d within (sym (list_any-map (list_any is_far) (λ (v : Vec Turn Global). v.items) clients) ∙ near) in
    leb-false most_docs (get_or turns k e).doc (fails_at is_far turns k e here (ap (list_any is_far) is ∙ each))

-- the turns of the first clients, counted of the lists that hold them
pub counted : (clients : List (Vec Turn Global)) (n : ℕ)
    → turn_count (take n (map (λ v. v.items) clients)) ≡ sum_by (λ turns. length turns.items) (take n clients)
counted clients n = ap turn_count (take-map (λ (v : Vec Turn Global). v.items) n clients) ∙ turn_count-map (take n clients)

-- the numbers that a client writes stay small
pub room_for : (clients : List (List Turn)) (client : ℕ) (turns : List Turn) → refusal_of clients ≡ None → slice_get clients client ≡ Some turns
    → 1 + turn_count (take client clients) + length turns < 2 ^ 64
room_for clients client turns plan at =
    let few = few_turns clients plan in
    let part = sum_by_more_le length clients client turns (slice_get_within clients client turns at) in
    omega (arith, ap length (get_or_from_slice_get clients client turns turns at))

-- a plan has some clients, and no more than there may be
pub some_clients : (clients : List (List Turn)) → refusal_of clients ≡ None → 1 ≤ length clients
some_clients [] plan = absurd (cc)
some_clients (turns ∷ clients) plan = omega arith

pub few_clients : (clients : List (List Turn)) → refusal_of clients ≡ None → length clients ≤ most_clients
few_clients clients plan =
    ltb-false most_clients (length clients)
    (or_parts (nat_lt most_clients (length clients)) _ (or_parts (nat_lt most_clients (length clients) || nat_lt most_turns (turn_count clients)) (list_any (list_any is_far) clients) (is_small clients plan)).0).0
