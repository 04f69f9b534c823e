-- What a pen notes stays right where an entry is added.
use Rattle.std.proofs.Common.{ℕ, suc, inl, inr, take, ◌≡◌, ◌<◌, ◌≤◌, List, [], ◌∷◌, ◌++◌, refl, sym, ap, subst, ◌∙◌, arith, Option, Some, None, slice_get, All, Bool, true, false, length, ne_eqb, get_or}
use Rattle.std.specs.Prelude.{◌==◌, ◌||◌, cond, if◌then◌else◌, option_and_then, option_map}
use Rattle.std.specs.List.{list_any}
use Rattle.std.specs.Map.{lookup}
use Rattle.std.specs.Option.{option_map_or, option_or}
use Rattle.std.proofs.lemmas.Bool.{eqb-true}
use Rattle.std.proofs.lemmas.List.Elements.{All-head, All-tail, All-push, All-map}
use Rattle.std.proofs.lemmas.List.Folds.{list_any-append, list_any_none}
use Rattle.std.proofs.lemmas.List.Quantifiers.{all_pairs_push}
use Rattle.doc_register.specs.declared.op.Op.{Op}
use Rattle.doc_register.specs.Register.{fits}
use Rattle.events.specs.declared.event.Event.{Event}
use Rattle.events.specs.declared.event.Event.TheVariants.{Call, Reply, Lost}
use Rattle.events.specs.Events.{is_call, is_ending, place_of}
use Rattle.events.specs.Refusal.{op_named, op_of}
use Rattle.recorder.specs.declared.fault.RecFault.{RecFault}
use Rattle.recorder.specs.declared.fault.RecFault.TheVariants.{NotMine, Ended, Kind}
use Rattle.recorder.specs.declared.own_call.OwnCall.{OwnCall}
use Rattle.recorder.specs.declared.unnumbered.Unnumbered.{Unnumbered}
use Rattle.recorder.specs.declared.unnumbered.Unnumbered.TheVariants as bare
use Rattle.recorder.specs.Pens.{IsRising, IsUnused, events_in, is_ended, refusal_of}
use Rattle.recorder.specs.aids.Notes.{AreNoted, IsPenList, IsEntryAt, IsNotedAt, NotesEvent, numbered, own_call_of}
use Rattle.version_pair.proofs.TruthLemmas.{or-true}
use Rattle.version_pair.proofs.ListLemmas.{get_snoc, none_is_not_some, same_some}
use Rattle.std.proofs.lemmas.List.{map_push, take-append-le, take_at}
use Rattle.std.proofs.lemmas.Option.{slice_get_within}
use Rattle.std.proofs.Math.Bool.{or-false}
use Rattle.recorder.proofs.ListLemmas.{all_at}

-- ---- the operation of a call, entry by entry

-- the operation of the call numbered n, where the event is that call
abbrev pub op_if : ℕ → Event → Option Op
op_if n e = if is_call n e then op_named e else None

-- behind one event more, the same operation is named
later : (e : Event) (es : List Event) (o : Option ℕ) → option_and_then op_named (option_and_then (slice_get (e ∷ es)) (option_map suc o)) ≡ option_and_then op_named (option_and_then (slice_get es) o)
later e es None = refl
later e es (Some i) = refl

op_of-cons : (e : Event) (es : List Event) (n : ℕ) → op_of (e ∷ es) n ≡ option_or (op_if n e) (op_of es n)
op_of-cons (Call h m d op) es n = by_number (m == n) where
  by_number : (b : Bool)
      → option_and_then op_named (option_and_then (slice_get (Call h m d op ∷ es)) (if b then Some 0 else option_map suc (place_of (is_call n) es)))
      ≡ option_or (if b then Some op else None) (op_of es n)
  by_number true = refl
  by_number false = later (Call h m d op) es (place_of (is_call n) es)
op_of-cons (Reply m r) es n = later (Reply m r) es (place_of (is_call n) es)
op_of-cons (Lost m) es n = later (Lost m) es (place_of (is_call n) es)

option_or-none : (o : Option Op) → option_or o None ≡ o
option_or-none None = refl
option_or-none (Some op) = refl

option_or_assoc : (a b c : Option Op) → option_or a (option_or b c) ≡ option_or (option_or a b) c
option_or_assoc None b c = refl
option_or_assoc (Some op) b c = refl

pub op_of-snoc : (list : List (ℕ × Event)) (x : ℕ × Event) (n : ℕ) → op_of (events_in (list ++ x ∷ [])) n ≡ option_or (op_of (events_in list) n) (op_if n x.1)
op_of-snoc [] x n = op_of-cons x.1 [] n ∙ option_or-none (op_if n x.1)
op_of-snoc (e ∷ es) x n =
    op_of-cons e.1 (events_in (es ++ x ∷ [])) n
    ∙ (ap (option_or (op_if n e.1)) (op_of-snoc es x n)
    ∙ (option_or_assoc (op_if n e.1) (op_of (events_in es) n) (op_if n x.1)
    ∙ ap (λ o. option_or o (op_if n x.1)) (sym (op_of-cons e.1 (events_in es) n))))

pub is_ended-snoc : (list : List (ℕ × Event)) (x : ℕ × Event) (n : ℕ) → is_ended (list ++ x ∷ []) n ≡ (is_ended list n || is_ending n x.1)
is_ended-snoc list x n =
    ap (list_any (is_ending n)) (map_push (λ (e : ℕ × Event). e.1) list x)
    ∙ (list_any-append (is_ending n) (events_in list) (x.1 ∷ []) ∙ ap (λ b. is_ended list n || b) (or-false (is_ending n x.1)))

-- ---- which numbers are in the list

abbrev AreFormed : List (ℕ × Event) → Type 0
AreFormed list = All (λ entry. IsEntryAt entry.0 entry.1) list

abbrev AreBelow : List (ℕ × Event) → ℕ → Type 0
AreBelow list k = All (λ entry. entry.0 < k) list

other : (m n k : ℕ) → m ≤ n → n < k → (m == k) ≡ false
other m n k up below = ne_eqb m k (λ same. absurd (omega arith))

no_ending : (n k : ℕ) (e : Event) → IsEntryAt n e → n < k → is_ending k e ≡ false
no_ending n k (Call h m d op) formed below = refl
no_ending n k (Reply m r) formed below = other m n k (omega arith) below
no_ending n k (Lost m) formed below = other m n k (omega arith) below

-- where a call is in the list, in which entry
pub record CalledIn (list : List (ℕ × Event)) (m : ℕ) (op : Op) : Type 0 where
  pub place : ℕ
  pub document : List ℕ
  pub here : slice_get list place ≡ Some (m, Call 0 m document op)

further : (x : ℕ × Event) (es : List (ℕ × Event)) (m : ℕ) (op : Op) → CalledIn es m op → CalledIn (x ∷ es) m op
further x es m op found = record { place = suc found.place; document = found.document; here = found.here }

pub called_entry : (list : List (ℕ × Event)) (m : ℕ) (op : Op) → AreFormed list → op_of (events_in list) m ≡ Some op → CalledIn list m op
called_entry [] m op formed called = absurd (none_is_not_some op called)
called_entry ((k, Call h n d o) ∷ es) m op formed called =
    by_number (n == m) refl (called_entry es m op (All-tail (λ entry. IsEntryAt entry.0 entry.1) (k, Call h n d o) es formed)) (sym (op_of-cons (Call h n d o) (events_in es) m) ∙ called) where
      entry : IsEntryAt k (Call h n d o)
      entry = All-head (λ entry. IsEntryAt entry.0 entry.1) (k, Call h n d o) es formed

      by_number : (b : Bool) → (n == m) ≡ b → (op_of (events_in es) m ≡ Some op → CalledIn es m op) → option_or (if b then Some o else None) (op_of (events_in es) m) ≡ Some op → CalledIn ((k, Call h n d o) ∷ es) m op
      by_number true is rest found =
          let number : n ≡ m = eqb-true n m is in
          record {
            place = 0;
            document = d;
            here = ap (λ (x : ℕ × Event). Some x)
                (ap (λ q. (q, Call h n d o)) (sym entry.0 ∙ number) ∙ (ap (λ q. (m, Call h q d o)) number ∙ (ap (λ q. (m, Call q m d o)) entry.1 ∙ ap (λ q. (m, Call 0 m d q)) (same_some o op found))));
          }
      by_number false is rest found = further (k, Call h n d o) es m op (rest found)
called_entry ((k, Reply n r) ∷ es) m op formed called =
    further (k, Reply n r) es m op
    (called_entry es m op (All-tail (λ entry. IsEntryAt entry.0 entry.1) (k, Reply n r) es formed) (sym (op_of-cons (Reply n r) (events_in es) m) ∙ called))
called_entry ((k, Lost n) ∷ es) m op formed called =
    further (k, Lost n) es m op
    (called_entry es m op (All-tail (λ entry. IsEntryAt entry.0 entry.1) (k, Lost n) es formed) (sym (op_of-cons (Lost n) (events_in es) m) ∙ called))

-- a call in the list has a number below one that is above all
called_below : (list : List (ℕ × Event)) (k m : ℕ) (op : Op) → AreFormed list → AreBelow list k → op_of (events_in list) m ≡ Some op → m < k
called_below list k m op formed below called =
    let found = called_entry list m op formed called in all_at (λ (entry : ℕ × Event). entry.0 < k) list found.place (m, Call 0 m found.document op) below found.here

-- so one above all is that of no call in it
uncalled : (list : List (ℕ × Event)) (k : ℕ) → AreFormed list → AreBelow list k → op_of (events_in list) k ≡ None
uncalled list k formed below = by_op (op_of (events_in list) k) refl where
  by_op : (o : Option Op) → op_of (events_in list) k ≡ o → o ≡ None
  by_op None is = refl
  by_op (Some op) is = let less : k < k = called_below list k k op formed below is in absurd (omega arith)

unended : (list : List (ℕ × Event)) (k : ℕ) → AreFormed list → AreBelow list k → is_ended list k ≡ false
unended list k formed below =
    list_any_none (is_ending k) (events_in list)
    (All-map (λ e. is_ending k e ≡ false) (λ (entry : ℕ × Event). entry.1) list (λ i d within. no_ending (get_or list i d).0 k (get_or list i d).1 (formed i d within) (below i d within)))

pub unused_above : (list : List (ℕ × Event)) (k : ℕ) → IsPenList list → AreBelow list k → IsUnused k list
unused_above list k kept below = (uncalled list k kept.formed below, unended list k kept.formed below)

-- ---- what is noted

abbrev own : Option Op → Bool → Option OwnCall
own o b = option_map (λ op. record { op = op; is_ended = b }) o

own-snoc : (list : List (ℕ × Event)) (x : ℕ × Event) (n : ℕ)
    → own_call_of (list ++ x ∷ []) n ≡ own (option_or (op_of (events_in list) n) (op_if n x.1)) (is_ended list n || is_ending n x.1)
own-snoc list x n =
    ap (λ o. own o (is_ended (list ++ x ∷ []) n)) (op_of-snoc list x n)
    ∙ ap (own (option_or (op_of (events_in list) n) (op_if n x.1))) (is_ended-snoc list x n)

found_after_call : (list : List (ℕ × Event)) (old new : List (ℕ × OwnCall)) (k : ℕ) (d : List ℕ) (op : Op)
    → AreNoted list old → AreBelow list k → IsNotedAt k (record { op = op; is_ended = false }) old new
    → (n : ℕ) → lookup (◌==◌ n) new ≡ own_call_of (list ++ (k, Call 0 k d op) ∷ []) n
found_after_call list old new k d op noted below at n =
    at n ∙ (by_number (k == n) refl ∙ sym (own-snoc list (k, Call 0 k d op) n)) where
      by_number : (b : Bool) → (k == n) ≡ b
          → cond b (Some (record { op = op; is_ended = false })) (lookup (◌==◌ n) old)
          ≡ own (option_or (op_of (events_in list) n) (if b then Some op else None)) (is_ended list n || false)
      by_number true is =
          let number : k ≡ n = eqb-true k n is in
          let bare : op_of (events_in list) n ≡ None = subst (λ m. op_of (events_in list) m ≡ None) number (uncalled list k noted.list_kept.formed below) in
          let open_ : is_ended list n ≡ false = subst (λ m. is_ended list m ≡ false) number (unended list k noted.list_kept.formed below) in
          sym (ap (λ o. own (option_or o (Some op)) (is_ended list n || false)) bare ∙ ap (λ b. own (Some op) (b || false)) open_)
      by_number false is =
          noted.found n ∙ sym (ap (λ o. own o (is_ended list n || false)) (option_or-none (op_of (events_in list) n)) ∙ ap (own (op_of (events_in list) n)) (or-false (is_ended list n)))

-- an ending of the call numbered m
record Ends (m : ℕ) (e : Event) : Type 0 where
  pub no_call : (n : ℕ) → op_if n e ≡ None
  pub ending : (n : ℕ) → is_ending n e ≡ (m == n)

found_after_ending : (list : List (ℕ × Event)) (old new : List (ℕ × OwnCall)) (k m : ℕ) (e : Event) (op : Op)
    → AreNoted list old → Ends m e → op_of (events_in list) m ≡ Some op → IsNotedAt m (record { op = op; is_ended = true }) old new
    → (n : ℕ) → lookup (◌==◌ n) new ≡ own_call_of (list ++ (k, e) ∷ []) n
found_after_ending list old new k m e op noted ends called at n =
    at n ∙ (by_number (m == n) refl ∙ (sym (tidy ∙ ap (λ b. own (op_of (events_in list) n) (is_ended list n || b)) (ends.ending n)) ∙ sym (own-snoc list (k, e) n))) where
      tidy : own (option_or (op_of (events_in list) n) (op_if n e)) (is_ended list n || is_ending n e) ≡ own (op_of (events_in list) n) (is_ended list n || is_ending n e)
      tidy = ap (λ o. own (option_or (op_of (events_in list) n) o) (is_ended list n || is_ending n e)) (ends.no_call n)
          ∙ ap (λ o. own o (is_ended list n || is_ending n e)) (option_or-none (op_of (events_in list) n))

      by_number : (b : Bool) → (m == n) ≡ b
          → cond b (Some (record { op = op; is_ended = true })) (lookup (◌==◌ n) old) ≡ own (op_of (events_in list) n) (is_ended list n || b)
      by_number true is =
          let number : m ≡ n = eqb-true m n is in
          let here : op_of (events_in list) n ≡ Some op = subst (λ q. op_of (events_in list) q ≡ Some op) number called in
          sym (ap (λ o. own o (is_ended list n || true)) here ∙ ap (own (Some op)) (or-true (is_ended list n)))
      by_number false is = noted.found n ∙ ap (own (op_of (events_in list) n)) (sym (or-false (is_ended list n)))

-- ---- all together

rising_more : (list : List (ℕ × Event)) (k : ℕ) (e : Event) → IsRising list → AreBelow list k → IsRising (list ++ (k, e) ∷ [])
rising_more list k e rising below = all_pairs_push (λ (x y : ℕ × Event). x.0 < y.0) list (k, e) rising below

pen_list_more : (list : List (ℕ × Event)) (k : ℕ) (e : Event) → IsPenList list → AreBelow list k → IsEntryAt k e → refusal_of list e ≡ None → IsPenList (list ++ (k, e) ∷ [])
pen_list_more list k e kept below formed accepted = record {
  rising = rising_more list k e kept.rising below;
  formed = All-push (λ entry. IsEntryAt entry.0 entry.1) list (k, e) kept.formed formed;
  accepted = λ i y at. elim (get_snoc list (k, e) y i at) [
    | inl here ↦ ap (λ l. refusal_of l y.1) (take-append-le i list ((k, e) ∷ []) (let within : i < length list = slice_get_within list i y here in omega arith)) ∙ kept.accepted i y here
    | inr last ↦ ap (λ l. refusal_of l y.1) (take_at list ((k, e) ∷ []) i (sym last.0)) ∙ (ap (λ (z : ℕ × Event). refusal_of list z.1) (sym last.1) ∙ accepted)
  ];
}

after_ending : (list : List (ℕ × Event)) (old new : List (ℕ × OwnCall)) (k m : ℕ) (e : Event) (op : Op)
    → AreNoted list old → AreBelow list k → Ends m e → (m < k → IsEntryAt k e) → op_of (events_in list) m ≡ Some op → refusal_of list e ≡ None
    → ((call : OwnCall) → lookup (◌==◌ m) old ≡ Some call → IsNotedAt m (record call { is_ended = true }) old new)
    → AreNoted (list ++ (k, e) ∷ []) new
after_ending list old new k m e op noted below ends formed called accepted at =
    let was : lookup (◌==◌ m) old ≡ Some (record { op = op; is_ended = is_ended list m }) = noted.found m ∙ ap (λ o. own o (is_ended list m)) called in
    record {
      list_kept = pen_list_more list k e noted.list_kept below (formed (called_below list k m op noted.list_kept.formed below called)) accepted;
      found = found_after_ending list old new k m e op noted ends called (at (record { op = op; is_ended = is_ended list m }) was);
    }

-- a call whose ending isn't refused is in the list
called_reply : (o : Option Op) (b : Bool) (r : Op → Option RecFault) → option_map_or (λ op. if b then Some Ended else r op) o (Some NotMine) ≡ None → (op : Op) × (o ≡ Some op)
called_reply None b r accepted = absurd (none_is_not_some NotMine (sym accepted))
called_reply (Some op) b r accepted = (op, refl)

-- the notes are right after an event that the list doesn't refuse
pub noted_after : (list : List (ℕ × Event)) (old new : List (ℕ × OwnCall)) (k : ℕ) (event : Unnumbered)
    → AreNoted list old → All (λ entry. entry.0 < k) list → refusal_of list (numbered event k) ≡ None → NotesEvent event k old new
    → AreNoted (list ++ (k, numbered event k) ∷ []) new
noted_after list old new k (bare.Call d op) noted below accepted at = record {
  list_kept = pen_list_more list k (Call 0 k d op) noted.list_kept below (refl, refl) accepted;
  found = found_after_call list old new k d op noted below at;
}
noted_after list old new k (bare.Reply m r) noted below accepted at =
    let call = called_reply (op_of (events_in list) m) (is_ended list m) (λ op. if fits op r then None else Some Kind) accepted in
    after_ending list old new k m (Reply m r) call.0 noted below (record { no_call = λ n. refl; ending = λ n. refl }) (λ less. less) call.1 accepted at
noted_after list old new k (bare.Lost m) noted below accepted at =
    let call = called_reply (op_of (events_in list) m) (is_ended list m) (λ op. None) accepted in
    after_ending list old new k m (Lost m) call.0 noted below (record { no_call = λ n. refl; ending = λ n. refl }) (λ less. less) call.1 accepted at
