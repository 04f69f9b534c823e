-- The steps of an honest group keep it sound.
use Rattle.std.proofs.Common.{ℕ, ◌≡◌, ◌≢◌, ◌≤◌, ◌<◌, ◌+◌, ◌⊎◌, inl, inr, List, [], ◌∷◌, ◌++◌, refl, sym, ap, subst, ◌∙◌, arith, Option, Some, None, Bool, true, false, cond, max, true≢false, is_some}
use Rattle.std.specs.Prelude.{◌==◌, fold, if◌then◌else◌, map, option_map, slice_get, slice_set}
use Rattle.std.specs.Map.{lookup}
use Rattle.std.proofs.lemmas.Bool.{eqb-true, eq-eqb}
use Rattle.version_pair.specs.declared.pair.Pair.{Pair}
use Rattle.doc_register.specs.declared.state.DocState.{DocState}
use Rattle.repl_group.specs.declared.held_write.HeldWrite.{HeldWrite}
use Rattle.repl_group.specs.declared.request.Request.{Request}
use Rattle.repl_group.specs.declared.request.Stage.{Stage}
use Rattle.repl_group.specs.declared.request.Stage.TheVariants.{Queued, InFlight, Answered, Lost}
use Rattle.repl_group.specs.Copies.{ShardCopy, holds, next_seq, with_write}
use Rattle.repl_group.specs.Group.{copy_with, led_by, write_of}
use Rattle.repl_group.specs.Honest.{pair_acknowledged, pair_given}
use Rattle.repl_group.specs.Operations.{is_get}
use Rattle.repl_group.specs.Requests.{flight_of, is_queued, lost_from, lost_request, with_flights_lost, with_stage}
use Rattle.repl_group.specs.aids.Sound.{IsOwn, IsSound}
use Rattle.std.proofs.lemmas.Option.{slice_get-map, slice_get_within}
use Rattle.version_pair.proofs.ListLemmas.{from_set, get_front, get_snoc, mapped_from, none_is_not_some, same_some, slice_get-set_other, slice_get-set_same}
use Rattle.repl_group.proofs.RequestLemmas.{still_queued}

abbrev Held : Type 0
Held = List (ℕ × HeldWrite)

pub nothing_found : {X P : Type 0} {x : X} → None ≡ Some x → P
nothing_found {X} {P} {x} found = absurd (none_is_not_some x found)

-- ---- what is held

pub held_found : (writes : Held) (t : ℕ) → holds writes t ≡ true → (write : HeldWrite) × (lookup (◌==◌ t) writes ≡ Some write)
held_found writes t is = by_lookup (lookup (◌==◌ t) writes) refl is where
  by_lookup : (o : Option HeldWrite) → lookup (◌==◌ t) writes ≡ o → is_some o ≡ true → (write : HeldWrite) × (lookup (◌==◌ t) writes ≡ Some write)
  by_lookup None at there = absurd (true≢false (sym there))
  by_lookup (Some write) at there = (write, at)

lookup-append : (writes : Held) (u t : ℕ) (write : HeldWrite)
    → lookup (◌==◌ u) (writes ++ (t, write) ∷ []) ≡ (if holds writes u then lookup (◌==◌ u) writes else (if u == t then Some write else None))
lookup-append [] u t write = refl
lookup-append (e ∷ es) u t write = by_key (u == e.0) (lookup-append es u t write) where
  by_key : (b : Bool) → lookup (◌==◌ u) (es ++ (t, write) ∷ []) ≡ (if holds es u then lookup (◌==◌ u) es else (if u == t then Some write else None))
      → cond b (Some e.1) (lookup (◌==◌ u) (es ++ (t, write) ∷ []))
      ≡ (if is_some (cond b (Some e.1) (lookup (◌==◌ u) es)) then cond b (Some e.1) (lookup (◌==◌ u) es) else (if u == t then Some write else None))
  by_key true rest = refl
  by_key false rest = rest

-- what is held with one more write was held before, or is that write
pub from_with_write : (writes : Held) (t u : ℕ) (write found : HeldWrite) → lookup (◌==◌ u) (with_write writes t write) ≡ Some found
    → (lookup (◌==◌ u) writes ≡ Some found) ⊎ ((u ≡ t) × (found ≡ write))
from_with_write writes t u write found at = by_held (holds writes t) at where
  by_key : (b : Bool) → (u == t) ≡ b → (if b then Some write else None) ≡ Some found → (u ≡ t) × (found ≡ write)
  by_key true same is = (eqb-true u t same, same_some _ _ (sym is))
  by_key false other is = nothing_found is

  by_before : (b : Bool) → (if b then lookup (◌==◌ u) writes else (if u == t then Some write else None)) ≡ Some found → (lookup (◌==◌ u) writes ≡ Some found) ⊎ ((u ≡ t) × (found ≡ write))
  by_before true is = inl is
  by_before false is = inr (by_key (u == t) refl is)

  by_held : (b : Bool) → lookup (◌==◌ u) (if b then writes else writes ++ (t, write) ∷ []) ≡ Some found → (lookup (◌==◌ u) writes ≡ Some found) ⊎ ((u ≡ t) × (found ≡ write))
  by_held true is = inl is
  by_held false is = by_before (holds writes u) (sym (lookup-append writes u t write) ∙ is)

pub with_write-more : (writes : Held) (t u : ℕ) (write : HeldWrite) → holds writes u ≡ true → holds (with_write writes t write) u ≡ true
with_write-more writes t u write is = by_held (holds writes t) where
  by_held : (b : Bool) → holds (if b then writes else writes ++ (t, write) ∷ []) u ≡ true
  by_held true = is
  by_held false =
      ap is_some (lookup-append writes u t write)
      ∙ (ap (λ b. is_some (if b then lookup (◌==◌ u) writes else (if u == t then Some write else None))) is ∙ is)

with_write-own : (writes : Held) (t : ℕ) (write : HeldWrite) → holds (with_write writes t write) t ≡ true
with_write-own writes t write = by_held (holds writes t) refl where
  by_held : (b : Bool) → holds writes t ≡ b → holds (if b then writes else writes ++ (t, write) ∷ []) t ≡ true
  by_held true is = is
  by_held false is =
      ap is_some (lookup-append writes t t write)
      ∙ (ap (λ b. is_some (if b then lookup (◌==◌ t) writes else (if t == t then Some write else None))) is
      ∙ ap (λ b. is_some (if b then Some write else None)) (eq-eqb t t refl))

-- ---- sequence numbers

seq_from : (n : ℕ) (writes : Held) → n ≤ fold (λ next entry. max next (entry.1.pair.seq + 1)) n writes
seq_from n [] = omega arith
seq_from n (e ∷ es) = let rest : max n (e.1.pair.seq + 1) ≤ fold (λ next entry. max next (entry.1.pair.seq + 1)) (max n (e.1.pair.seq + 1)) es = seq_from (max n (e.1.pair.seq + 1)) es in omega arith

seq_below : (n : ℕ) (writes : Held) (t : ℕ) (write : HeldWrite) → lookup (◌==◌ t) writes ≡ Some write
    → write.pair.seq < fold (λ next entry. max next (entry.1.pair.seq + 1)) n writes
seq_below n [] t write found = nothing_found found
seq_below n (e ∷ es) t write found = by_key (t == e.0) (seq_below (max n (e.1.pair.seq + 1)) es t write) found where
  by_key : (b : Bool) → (lookup (◌==◌ t) es ≡ Some write → write.pair.seq < fold (λ next entry. max next (entry.1.pair.seq + 1)) (max n (e.1.pair.seq + 1)) es)
      → cond b (Some e.1) (lookup (◌==◌ t) es) ≡ Some write → write.pair.seq < fold (λ next entry. max next (entry.1.pair.seq + 1)) (max n (e.1.pair.seq + 1)) es
  by_key true rest is =
      let here : e.1 ≡ write = same_some _ _ is in
      let number : e.1.pair.seq ≡ write.pair.seq = ap (λ (h : HeldWrite). h.pair.seq) here in
      let from : max n (e.1.pair.seq + 1) ≤ fold (λ next entry. max next (entry.1.pair.seq + 1)) (max n (e.1.pair.seq + 1)) es = seq_from (max n (e.1.pair.seq + 1)) es in
      omega arith
  by_key false rest is = rest is

-- ---- a request comes to another stage

own_kept : (requests : List Request) (t : ℕ) (x : Request) (s : Stage) (u : ℕ) (write : HeldWrite) → slice_get requests t ≡ Some x
    → ((q : Pair) → pair_given x.stage ≡ Some q → pair_given s ≡ Some q) → IsOwn requests u write → IsOwn (with_stage requests t x s) u write
own_kept requests t x s u write at kept own = by_place (u == t) refl where
  by_place : (b : Bool) → (u == t) ≡ b → IsOwn (with_stage requests t x s) u write
  by_place true same =
      let here : u ≡ t = eqb-true u t same in
      let found : slice_get requests t ≡ Some own.request = subst (λ v. slice_get requests v ≡ Some own.request) here own.found in
      let is_x : own.request ≡ x = same_some _ _ (sym found ∙ at) in
      let request : Request = record x { stage = s } in
      record {
        request = record x { stage = s };
        found = subst (λ v. slice_get (with_stage requests t x s) v ≡ Some request) (sym here) (slice_get-set_same requests t (record x { stage = s }) (slice_get_within requests t x at));
        given = kept write.pair (ap (λ (r : Request). pair_given r.stage) (sym is_x) ∙ own.given);
        same = own.same ∙ ap (λ (r : Request). write_of r write.pair) is_x;
      }
  by_place false other = record {
    request = own.request;
    found = slice_get-set_other requests t u (record x { stage = s }) (λ here. absurd (true≢false (sym (eq-eqb u t here) ∙ other))) ∙ own.found;
    given = own.given;
    same = own.same;
  }

module _ (term primary : ℕ) (requests : List Request) (copies : List ShardCopy) (sound : IsSound term primary requests copies) where
  -- a request comes to a stage in which it is not in flight, with the pair that it was given
  pub restaged : (t : ℕ) (x : Request) (s : Stage) → slice_get requests t ≡ Some x → pair_given s ≡ pair_given x.stage → flight_of s ≡ None
      → ((c : ℕ) (y : ShardCopy) (q : Pair) → slice_get copies c ≡ Some y → pair_acknowledged s ≡ Some q → y.is_in_sync ≡ true → holds y.writes t ≡ true)
      → IsSound term primary (with_stage requests t x s) copies
  restaged t x s at same grounded on_all = record {
    leads = sound.leads;
    terms = λ u z q found given. by_request u z found (λ r. pair_given r ≡ Some q → q.term ≤ term)
        (λ here given'. sound.terms t x q at (sym same ∙ given')) (λ there given'. sound.terms u z q there given') given;
    recent = λ u z q y found given now lead. by_request u z found (λ r. pair_given r ≡ Some q → holds y.writes u ≡ true)
        (λ here given'. subst (λ v. holds y.writes v ≡ true) (sym here) (sound.recent t x q y at (sym same ∙ given') now lead))
        (λ there given'. sound.recent u z q y there given' now lead) given;
    own = λ c u y write there found. own_kept requests t x s u write at (λ q given. same ∙ given) (sound.own c u y write there found);
    writes = λ u z q before found flies. by_places u z found
        (λ here is. nothing_found (sym (ap (λ (r : Request). flight_of r.stage) is ∙ grounded) ∙ flies))
        (λ there. sound.writes u z q before there flies);
    pairs = λ u v z z' q found found' given given'.
        by_places u z found
        (λ here is. by_places v z' found'
        (λ here' is'. here ∙ sym here')
        (λ there'. here ∙ sound.pairs t v x z' q at there' (sym same ∙ (ap (λ (r : Request). pair_given r.stage) (sym is) ∙ given)) given'))
        (λ there. by_places v z' found'
        (λ here' is'. sound.pairs u t z x q there at given (sym same ∙ (ap (λ (r : Request). pair_given r.stage) (sym is') ∙ given')) ∙ sym here')
        (λ there'. sound.pairs u v z z' q there there' given given'));
    acknowledged = λ u c z y q found there given sync. by_places u z found
        (λ here is. subst (λ v. holds y.writes v ≡ true) (sym here) (on_all c y q there (ap (λ (r : Request). pair_acknowledged r.stage) (sym is) ∙ given) sync))
        (λ before. sound.acknowledged u c z y q before there given sync);
  } where
    by_places : {P : Type 0} (u : ℕ) (z : Request) → slice_get (with_stage requests t x s) u ≡ Some z
        → (u ≡ t → z ≡ record x { stage = s } → P) → (slice_get requests u ≡ Some z → P) → P
    by_places u z found here there =
        elim (from_set requests t u (record x { stage = s }) z found) [ inl is ↦ here is.0 is.1 | inr is ↦ there is.1 ]

    by_request : (u : ℕ) (z : Request) → slice_get (with_stage requests t x s) u ≡ Some z → (P : Stage → Type 0)
        → (u ≡ t → P s) → (slice_get requests u ≡ Some z → P z.stage) → P z.stage
    by_request u z found P here there =
        by_places u z found (λ at is. subst P (ap (λ (r : Request). r.stage) (sym is)) (here at)) there

  -- ---- one more request

  pub with_request : (x : Request) → is_queued x.stage ≡ true → IsSound term primary (requests ++ x ∷ []) copies
  with_request x queued = record {
    leads = sound.leads;
    terms = λ u z q found given. by_places u z found (λ is. not_given x q queued (ap (λ (r : Request). pair_given r.stage) (sym is) ∙ given)) (λ there. sound.terms u z q there given);
    recent = λ u z q y found given now lead. by_places u z found (λ is. not_given x q queued (ap (λ (r : Request). pair_given r.stage) (sym is) ∙ given))
        (λ there. sound.recent u z q y there given now lead);
    own = λ c u y write there found. (let own = sound.own c u y write there found in record {
      request = own.request;
      found = get_front requests (x ∷ []) u own.request own.found;
      given = own.given;
      same = own.same;
    });
    writes = λ u z q before found flies. by_places u z found
        (λ is. not_flying x (q, before) queued (ap (λ (r : Request). flight_of r.stage) (sym is) ∙ flies)) (λ there. sound.writes u z q before there flies);
    pairs = λ u v z z' q found found' given given'.
        by_places u z found (λ is. not_given x q queued (ap (λ (r : Request). pair_given r.stage) (sym is) ∙ given))
        (λ there. by_places v z' found' (λ is'. not_given x q queued (ap (λ (r : Request). pair_given r.stage) (sym is') ∙ given'))
        (λ there'. sound.pairs u v z z' q there there' given given'));
    acknowledged = λ u c z y q found there given sync. by_places u z found
        (λ is. not_acknowledged x q queued (ap (λ (r : Request). pair_acknowledged r.stage) (sym is) ∙ given)) (λ before. sound.acknowledged u c z y q before there given sync);
  } where
    by_places : {P : Type 0} (u : ℕ) (z : Request) → slice_get (requests ++ x ∷ []) u ≡ Some z → (z ≡ x → P) → (slice_get requests u ≡ Some z → P) → P
    by_places u z found here there = elim (get_snoc requests x z u found) [ inl is ↦ there is | inr is ↦ here (sym is.1) ]

    not_given : {P : Type 0} (y : Request) (q : Pair) → is_queued y.stage ≡ true → pair_given y.stage ≡ Some q → P
    not_given y q is given = nothing_found (sym (ap pair_given (still_queued y.stage is)) ∙ given)

    not_flying : {P : Type 0} (y : Request) (f : Pair × DocState) → is_queued y.stage ≡ true → flight_of y.stage ≡ Some f → P
    not_flying y f is flies = nothing_found (sym (ap flight_of (still_queued y.stage is)) ∙ flies)

    not_acknowledged : {P : Type 0} (y : Request) (q : Pair) → is_queued y.stage ≡ true → pair_acknowledged y.stage ≡ Some q → P
    not_acknowledged y q is reported = nothing_found (sym (ap pair_acknowledged (still_queued y.stage is)) ∙ reported)

  -- ---- a copy is changed

  pub recopied : (c : ℕ) (y z : ShardCopy) → slice_get copies c ≡ Some y
      → ((t : ℕ) (write : HeldWrite) → lookup (◌==◌ t) z.writes ≡ Some write → IsOwn requests t write)
      → (c ≡ primary → z.is_in_sync ≡ true)
      → (c ≡ primary → (t : ℕ) → holds y.writes t ≡ true → holds z.writes t ≡ true)
      → (z.is_in_sync ≡ true → (t : ℕ) (x : Request) (q : Pair) → slice_get requests t ≡ Some x → pair_acknowledged x.stage ≡ Some q → holds z.writes t ≡ true)
      → IsSound term primary requests (slice_set copies c z)
  recopied c y z at own_writes stays more all = record {
    leads = by_primary (primary == c) refl;
    terms = sound.terms;
    recent = λ t x q v found given now lead. by_copies primary v lead
        (λ here is. subst (λ (k : ShardCopy). holds k.writes t ≡ true) (sym is)
        (more (sym here) t (sound.recent t x q y found given now (subst (λ k. slice_get copies k ≡ Some y) (sym here) at))))
        (λ there. sound.recent t x q v found given now there);
    own = λ d t v write there found. by_copies d v there
        (λ here is. own_writes t write (ap (λ (k : ShardCopy). lookup (◌==◌ t) k.writes) (sym is) ∙ found)) (λ before. sound.own d t v write before found);
    writes = sound.writes;
    pairs = sound.pairs;
    acknowledged = λ t d x v q found there given sync. by_copies d v there
        (λ here is. subst (λ (k : ShardCopy). holds k.writes t ≡ true) (sym is) (all (ap (λ (k : ShardCopy). k.is_in_sync) (sym is) ∙ sync) t x q found given))
        (λ before. sound.acknowledged t d x v q found before given sync);
  } where
    by_copies : {P : Type 0} (d : ℕ) (v : ShardCopy) → slice_get (slice_set copies c z) d ≡ Some v → (d ≡ c → v ≡ z → P) → (slice_get copies d ≡ Some v → P) → P
    by_copies d v there here before = elim (from_set copies c d z v there) [ inl is ↦ here is.0 is.1 | inr is ↦ before is.1 ]

    by_primary : (b : Bool) → (primary == c) ≡ b → (v : ShardCopy) × (slice_get (slice_set copies c z) primary ≡ Some v) × (v.is_in_sync ≡ true)
    by_primary true same =
        let here : primary ≡ c = eqb-true primary c same in
        (z, subst (λ k. slice_get (slice_set copies c z) k ≡ Some z) (sym here) (slice_get-set_same copies c z (slice_get_within copies c y at)), stays (sym here))
    by_primary false other =
        (sound.leads.0, slice_get-set_other copies c primary z (λ here. absurd (true≢false (sym (eq-eqb primary c here) ∙ other))) ∙ sound.leads.1, sound.leads.2)

  -- ---- the primary performs a write

  pub performed_sound : (t : ℕ) (x : Request) (y : ShardCopy) (q : Pair) (before : DocState) → slice_get requests t ≡ Some x → is_queued x.stage ≡ true → is_get x.op ≡ false
      → slice_get copies primary ≡ Some y → q.term ≡ term → q.seq ≡ next_seq y.writes
      → IsSound term primary (with_stage requests t x (InFlight q before)) (slice_set copies primary (copy_with y t (write_of x q)))
  performed_sound t x y q before at queued writes lead now next = record {
    leads = (z, slice_get-set_same copies primary z (slice_get_within copies primary y lead), ap (λ (k : ShardCopy). k.is_in_sync) (same_some _ _ (sym lead ∙ sound.leads.1)) ∙ sound.leads.2);
    terms = λ u r p found given. by_places u r found
        (λ here is. (let pair : q.term ≡ p.term = ap (λ (k : Pair). k.term) (new_pair r p is given) in omega arith))
        (λ other there. sound.terms u r p there given);
    recent = λ u r p v found given is_now there. by_copies primary v there
        (λ here is. subst (λ (k : ShardCopy). holds k.writes u ≡ true) (sym is)
        (by_places u r found
        (λ same is'. subst (λ k. holds z.writes k ≡ true) (sym same) (with_write-own y.writes t (write_of x q)))
        (λ other old. with_write-more y.writes t u (write_of x q) (sound.recent u r p y old given is_now lead))))
        (λ other old. absurd (other refl));
    own = λ c u v write there found. by_copies c v there
        (λ here is. by_writes u write (from_with_write y.writes t u (write_of x q) write (ap (λ (k : ShardCopy). lookup (◌==◌ u) k.writes) (sym is) ∙ found)))
        (λ other old. kept u write (sound.own c u v write old found));
    writes = λ u r p s found flies. by_places u r found (λ here is. ap (λ (k : Request). is_get k.op) is ∙ writes) (λ other there. sound.writes u r p s there flies);
    pairs = λ u v r r' p found found' given given'.
        by_places u r found
        (λ here is. by_places v r' found'
        (λ here' is'. here ∙ sym here')
        (λ other there. fresh v r' p there given' (new_pair r p is given)))
        (λ other there. by_places v r' found'
        (λ here' is'. fresh u r p there given (new_pair r' p is' given'))
        (λ other' there'. sound.pairs u v r r' p there there' given given'));
    acknowledged = λ u c r v p found there reported sync. by_places u r found
        (λ here is. nothing_found (ap (λ (k : Request). pair_acknowledged k.stage) (sym is) ∙ reported))
        (λ other old. by_copies c v there
        (λ here is. subst (λ (k : ShardCopy). holds k.writes u ≡ true) (sym is)
        (with_write-more y.writes t u (write_of x q)
        (sound.acknowledged u primary r y p old lead reported (ap (λ (k : ShardCopy). k.is_in_sync) (sym is) ∙ sync))))
        (λ elsewhere before'. sound.acknowledged u c r v p old before' reported sync));
  } where
    z : ShardCopy
    z = copy_with y t (write_of x q)

    by_places : {P : Type 0} (u : ℕ) (r : Request) → slice_get (with_stage requests t x (InFlight q before)) u ≡ Some r
        → (u ≡ t → r ≡ record x { stage = InFlight q before } → P) → (u ≢ t → slice_get requests u ≡ Some r → P) → P
    by_places u r found here there =
        elim (from_set requests t u (record x { stage = InFlight q before }) r found) [ inl is ↦ here is.0 is.1 | inr is ↦ there is.0 is.1 ]

    by_copies : {P : Type 0} (c : ℕ) (v : ShardCopy) → slice_get (slice_set copies primary (copy_with y t (write_of x q))) c ≡ Some v
        → (c ≡ primary → v ≡ copy_with y t (write_of x q) → P) → (c ≢ primary → slice_get copies c ≡ Some v → P) → P
    by_copies c v there here other =
        elim (from_set copies primary c (copy_with y t (write_of x q)) v there) [ inl is ↦ here is.0 is.1 | inr is ↦ other is.0 is.1 ]

    new_pair : (r : Request) (p : Pair) → r ≡ record x { stage = InFlight q before } → pair_given r.stage ≡ Some p → q ≡ p
    new_pair r p is given = same_some _ _ (ap (λ (k : Request). pair_given k.stage) (sym is) ∙ given)

    kept : (u : ℕ) (write : HeldWrite) → IsOwn requests u write → IsOwn (with_stage requests t x (InFlight q before)) u write
    kept u write own = own_kept requests t x (InFlight q before) u write at (λ p given. nothing_found (sym (ap pair_given (still_queued x.stage queued)) ∙ given)) own

    by_writes : (u : ℕ) (write : HeldWrite) → ((lookup (◌==◌ u) y.writes ≡ Some write) ⊎ ((u ≡ t) × (write ≡ write_of x q)))
        → IsOwn (with_stage requests t x (InFlight q before)) u write
    by_writes u write (inl old) = kept u write (sound.own primary u y write lead old)
    by_writes u write (inr new) = record {
      request = record x { stage = InFlight q before };
      found = subst (λ k. slice_get (with_stage requests t x (InFlight q before)) k ≡ Some (record x { stage = InFlight q before })) (sym new.0) (slice_get-set_same requests t (record x { stage = InFlight q before }) (slice_get_within requests t x at));
      given = ap (λ (h : HeldWrite). Some h.pair) (sym new.1);
      same = new.1 ∙ ap (λ (h : HeldWrite). write_of x h.pair) (sym new.1);
    }

    -- the new pair was given to no other ticket
    fresh : {P : Type 0} (v : ℕ) (r : Request) (p : Pair) → slice_get requests v ≡ Some r → pair_given r.stage ≡ Some p → q ≡ p → P
    fresh v r p there given same =
        let is_now : p.term ≡ term = ap (λ (k : Pair). k.term) (sym same) ∙ now in
        let held = held_found y.writes v (sound.recent v r p y there given is_now lead) in
        let own = sound.own primary v y held.0 lead held.1 in
        let is_r : own.request ≡ r = same_some _ _ (sym own.found ∙ there) in
        let is_p : held.0.pair ≡ p = same_some _ _ (sym own.given ∙ (ap (λ (k : Request). pair_given k.stage) is_r ∙ given)) in
        let below : held.0.pair.seq < next_seq y.writes = seq_below 0 y.writes v held.0 held.1 in
        let number : held.0.pair.seq ≡ q.seq = ap (λ (k : Pair). k.seq) (is_p ∙ sym same) in
        absurd (omega arith)

  -- ---- a promotion

  pub promoted_sound : (c : ℕ) (y : ShardCopy) → slice_get copies c ≡ Some y → y.is_in_sync ≡ true → y.is_cut ≡ false
      → IsSound (term + 1) c (with_flights_lost requests) (map (led_by y.writes) copies)
  promoted_sound c y lead sync reached = record {
    leads = (led_by y.writes y, (slice_get-map (led_by y.writes) copies c ∙ ap (option_map (led_by y.writes)) lead), led_sync y sync reached);
    terms = λ u z q found given. (let from = mapped_from lost_request requests u z found in
        let old : q.term ≤ term = sound.terms u from.0 q from.1 (given_before from.0 z q (sym from.2) given) in omega arith);
    recent = λ u z q v found given is_now there. (let from = mapped_from lost_request requests u z found in
        let old : q.term ≤ term = sound.terms u from.0 q from.1 (given_before from.0 z q (sym from.2) given) in absurd (omega arith));
    own = λ d u v write there found. (let from = mapped_from (led_by y.writes) copies d v there in
        own_lost u write (elim (led_writes from.0) [
          | inl own ↦ sound.own d u from.0 write from.1 (ap (λ ws. lookup (◌==◌ u) ws) (sym own) ∙ (ap (λ (k : ShardCopy). lookup (◌==◌ u) k.writes) from.2 ∙ found))
          | inr handed ↦ sound.own c u y write lead (ap (λ ws. lookup (◌==◌ u) ws) (sym handed) ∙ (ap (λ (k : ShardCopy). lookup (◌==◌ u) k.writes) from.2 ∙ found))
        ]));
    writes = λ u z q s found flies. (let from = mapped_from lost_request requests u z found in
        nothing_found (sym (ap (λ (k : Request). flight_of k.stage) (sym from.2) ∙ lost_grounded from.0.stage) ∙ flies));
    pairs = λ u v z z' q found found' given given'. (let from = mapped_from lost_request requests u z found in let from' = mapped_from lost_request requests v z' found' in
        sound.pairs u v from.0 from'.0 q from.1 from'.1 (given_before from.0 z q (sym from.2) given) (given_before from'.0 z' q (sym from'.2) given'));
    acknowledged = λ u d z v q found there reported in_sync. (let from = mapped_from lost_request requests u z found in let at = mapped_from (led_by y.writes) copies d v there in
        let held : holds y.writes u ≡ true = sound.acknowledged u c from.0 y q from.1 lead (sym (ap (λ (k : Request). pair_acknowledged k.stage) (sym from.2) ∙ lost_acknowledged from.0.stage) ∙ reported) sync in
        ap (λ (k : ShardCopy). holds k.writes u) (sym at.2) ∙ (ap (λ ws. holds ws u) (led_whole at.0 (ap (λ (k : ShardCopy). k.is_in_sync) at.2 ∙ in_sync)) ∙ held));
  } where
    lost_given : (s : Stage) → pair_given (lost_from s) ≡ pair_given s
    lost_given Queued = refl
    lost_given (InFlight q b) = refl
    lost_given (Answered r) = refl
    lost_given (Lost q) = refl

    lost_acknowledged : (s : Stage) → pair_acknowledged (lost_from s) ≡ pair_acknowledged s
    lost_acknowledged Queued = refl
    lost_acknowledged (InFlight q b) = refl
    lost_acknowledged (Answered r) = refl
    lost_acknowledged (Lost q) = refl

    lost_grounded : (s : Stage) → flight_of (lost_from s) ≡ None
    lost_grounded Queued = refl
    lost_grounded (InFlight q b) = refl
    lost_grounded (Answered r) = refl
    lost_grounded (Lost q) = refl

    given_before : (x z : Request) (q : Pair) → z ≡ lost_request x → pair_given z.stage ≡ Some q → pair_given x.stage ≡ Some q
    given_before x z q is given = sym (lost_given x.stage) ∙ (ap (λ (k : Request). pair_given k.stage) (sym is) ∙ given)

    own_lost : (u : ℕ) (write : HeldWrite) → IsOwn requests u write → IsOwn (with_flights_lost requests) u write
    own_lost u write own = record {
      request = lost_request own.request;
      found = slice_get-map lost_request requests u ∙ ap (option_map lost_request) own.found;
      given = lost_given own.request.stage ∙ own.given;
      same = own.same;
    }

    led_sync : (k : ShardCopy) → k.is_in_sync ≡ true → k.is_cut ≡ false → (led_by y.writes k).is_in_sync ≡ true
    led_sync k is not_cut = by_flags k.is_in_sync k.is_cut is not_cut where
      by_flags : (a b : Bool) → a ≡ true → b ≡ false
          → (if a then (if b then record k { is_in_sync = false } else record k { writes = y.writes }) else k).is_in_sync ≡ true
      by_flags true false is' not_cut' = is
      by_flags true true is' not_cut' = absurd (true≢false not_cut')
      by_flags false b is' not_cut' = absurd (true≢false (sym is'))

    led_writes : (k : ShardCopy) → ((led_by y.writes k).writes ≡ k.writes) ⊎ ((led_by y.writes k).writes ≡ y.writes)
    led_writes k = by_flags k.is_in_sync k.is_cut where
      by_flags : (a b : Bool) → ((if a then (if b then record k { is_in_sync = false } else record k { writes = y.writes }) else k).writes ≡ k.writes)
          ⊎ ((if a then (if b then record k { is_in_sync = false } else record k { writes = y.writes }) else k).writes ≡ y.writes)
      by_flags true true = inl refl
      by_flags true false = inr refl
      by_flags false b = inl refl

    led_whole : (k : ShardCopy) → (led_by y.writes k).is_in_sync ≡ true → (led_by y.writes k).writes ≡ y.writes
    led_whole k is = by_flags k.is_in_sync k.is_cut refl is where
      by_flags : (a b : Bool) → k.is_in_sync ≡ a → (if a then (if b then record k { is_in_sync = false } else record k { writes = y.writes }) else k).is_in_sync ≡ true
          → (if a then (if b then record k { is_in_sync = false } else record k { writes = y.writes }) else k).writes ≡ y.writes
      by_flags true true same is' = absurd (true≢false (sym is'))
      by_flags true false same is' = refl
      by_flags false b same is' = absurd (true≢false (sym is' ∙ same))
