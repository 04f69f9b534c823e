-- The documents of a history are those of its calls, with their shards.
use Rattle.std.proofs.Common.{ℕ, zero, suc, ◌≡◌, ◌⊎◌, inl, inr, List, [], ◌∷◌, refl, sym, ap, subst, Bool, true, false, Some, slice_get}
use Rattle.std.specs.Prelude.{fold, if◌then◌else◌}
use Rattle.std.specs.Cmp.Lexicographic.{bytes_decides}
use Rattle.version_pair.proofs.SortedLists.{Has}
use Rattle.doc_register.specs.declared.op.Op.{Op}
use Rattle.events.specs.declared.event.Event.{Event}
use Rattle.events.specs.declared.event.Event.TheVariants.{Call, Reply, Lost}
use Rattle.events.specs.Events.{IsCallAt, documents_of, is_same, with_document, with_event}
use Rattle.version_pair.proofs.ListLemmas.{none_is_not_some, same_some}

-- ---- one more document

-- a document stays
with_kept : (ds : List (List ℕ × ℕ)) (d : List ℕ) (h : ℕ) (c : List ℕ × ℕ) → Has ds c → Has (with_document ds d h) c
with_kept [] d h c has = absurd (none_is_not_some c has.1)
with_kept (e ∷ es) d h c (k, at) = by_test (is_same d e.0) k at (λ j bt. with_kept es d h c (j, bt)) where
  by_test : (b : Bool) (k : ℕ) → slice_get (e ∷ es) k ≡ Some c → ((j : ℕ) → slice_get es j ≡ Some c → Has (with_document es d h) c) → Has (if b then e ∷ es else e ∷ with_document es d h) c
  by_test true k at later = (k, at)
  by_test false zero at later = (0, at)
  by_test false (suc k) at later = let found = later k at in (suc found.0, found.1)

-- the document is among them
with_own : (ds : List (List ℕ × ℕ)) (d : List ℕ) (h : ℕ) → (g : ℕ) × Has (with_document ds d h) (d, g)
with_own [] d h = (h, (0, refl))
with_own (e ∷ es) d h = by_test (is_same d e.0) refl (with_own es d h) where
  by_test : (b : Bool) → is_same d e.0 ≡ b → (g : ℕ) × Has (with_document es d h) (d, g) → (g : ℕ) × Has (if b then e ∷ es else e ∷ with_document es d h) (d, g)
  by_test true is later = (e.1, (0, ap (λ c. Some (c, e.1)) (sym ((bytes_decides d e.0).0 is))))
  by_test false is later = (later.0, (suc later.1.0, later.1.1))

-- each was there, or is the new one
with_from : (ds : List (List ℕ × ℕ)) (d : List ℕ) (h : ℕ) (c : List ℕ × ℕ) → Has (with_document ds d h) c → Has ds c ⊎ (c ≡ (d, h))
with_from [] d h c (zero, at) = inr (sym (same_some (d, h) c at))
with_from [] d h c (suc k, at) = absurd (none_is_not_some c at)
with_from (e ∷ es) d h c (k, at) = by_test (is_same d e.0) k at (λ j bt. with_from es d h c (j, bt)) where
  further : Has es c ⊎ (c ≡ (d, h)) → Has (e ∷ es) c ⊎ (c ≡ (d, h))
  further (inl has) = inl (suc has.0, has.1)
  further (inr new) = inr new

  by_test : (b : Bool) (k : ℕ) → slice_get (if b then e ∷ es else e ∷ with_document es d h) k ≡ Some c
      → ((j : ℕ) → slice_get (with_document es d h) j ≡ Some c → Has es c ⊎ (c ≡ (d, h))) → Has (e ∷ es) c ⊎ (c ≡ (d, h))
  by_test true k at later = inl (k, at)
  by_test false zero at later = inl (0, at)
  by_test false (suc k) at later = further (later k at)

-- ---- the documents of calls

-- a document stays with one more event
event_kept : (ds : List (List ℕ × ℕ)) (x : Event) (c : List ℕ × ℕ) → Has ds c → Has (with_event ds x) c
event_kept ds (Call h n d op) c has = with_kept ds d h c has
event_kept ds (Reply n r) c has = has
event_kept ds (Lost n) c has = has

-- a document stays with all events
all_kept : (xs : List Event) (ds : List (List ℕ × ℕ)) (c : List ℕ × ℕ) → Has ds c → Has (fold with_event ds xs) c
all_kept [] ds c has = has
all_kept (x ∷ xs) ds c has = all_kept xs (with_event ds x) c (event_kept ds x c has)

-- the document of a call is among those of the events
called_among : (xs : List Event) (ds : List (List ℕ × ℕ)) (i n h : ℕ) (d : List ℕ) (op : Op) → IsCallAt xs i n h d op → (g : ℕ) × Has (fold with_event ds xs) (d, g)
called_among [] ds i n h d op at = absurd (none_is_not_some (Call h n d op) at)
called_among (x ∷ xs) ds zero n h d op at =
    let own = with_own ds d h in
    let here : Has (with_event ds x) (d, own.0) = subst (λ e. Has (with_event ds e) (d, own.0)) (sym (same_some x (Call h n d op) at)) own.1 in
    (own.0, all_kept xs (with_event ds x) (d, own.0) here)
called_among (x ∷ xs) ds (suc i) n h d op at = called_among xs (with_event ds x) i n h d op at

-- the document of a call is one of the history
pub call_document : (events : List Event) (i n h : ℕ) (d : List ℕ) (op : Op) → IsCallAt events i n h d op → (g : ℕ) × Has (documents_of events) (d, g)
call_document events i n h d op at = called_among events [] i n h d op at

-- some call is of the document, on the shard
abbrev pub IsCalled : List Event → List ℕ × ℕ → Type 0
IsCalled xs c = (i n : ℕ) × (op : Op) × IsCallAt xs i n c.1 c.0 op

-- the same with one more event in front
called_later : (x : Event) (xs : List Event) (c : List ℕ × ℕ) → IsCalled xs c → IsCalled (x ∷ xs) c
called_later x xs c called = (suc called.0, called.1, called.2, called.3)

-- after an event a document was there, or is that of the call
event_from : (ds : List (List ℕ × ℕ)) (x : Event) (xs : List Event) (c : List ℕ × ℕ) → Has (with_event ds x) c → Has ds c ⊎ IsCalled (x ∷ xs) c
event_from ds (Call h n d op) xs c has = by_case (with_from ds d h c has) where
  by_case : Has ds c ⊎ (c ≡ (d, h)) → Has ds c ⊎ IsCalled (Call h n d op ∷ xs) c
  by_case (inl old) = inl old
  by_case (inr new) = inr (subst (IsCalled (Call h n d op ∷ xs)) (sym new) (0, n, op, refl))
event_from ds (Reply n r) xs c has = inl has
event_from ds (Lost n) xs c has = inl has

-- after all events a document was there, or has a call
documents_from : (xs : List Event) (ds : List (List ℕ × ℕ)) (c : List ℕ × ℕ) → Has (fold with_event ds xs) c → Has ds c ⊎ IsCalled xs c
documents_from [] ds c has = inl has
documents_from (x ∷ xs) ds c has = by_case (documents_from xs (with_event ds x) c has) where
  by_case : Has (with_event ds x) c ⊎ IsCalled xs c → Has ds c ⊎ IsCalled (x ∷ xs) c
  by_case (inl old) = event_from ds x xs c old
  by_case (inr called) = inr (called_later x xs c called)

-- a document of the history has a call, on its shard
pub document_called : (events : List Event) (c : List ℕ × ℕ) → Has (documents_of events) c → IsCalled events c
document_called events c has = by_case (documents_from events [] c has) where
  by_case : Has [] c ⊎ IsCalled events c → IsCalled events c
  by_case (inl none) = absurd (none_is_not_some c none.1)
  by_case (inr called) = called
