-- What is read of a history has its documents.
use Rattle.std.proofs.Common.{ℕ, suc, ◌≡◌, ◌+◌, ◌*◌, List, [], ◌∷◌, refl, ap, ◌∙◌, Bool, true, false, map}
use Rattle.std.specs.Prelude.{fold, if◌then◌else◌}
use Rattle.std.specs.Cmp.Lexicographic.{bytes_decides}
use Rattle.doc_register.specs.declared.op.Op.{Op}
use Rattle.doc_register.specs.declared.reply.Reply.{Reply as Answer}
use Rattle.events.specs.declared.event.Event.{Event}
use Rattle.events.specs.declared.event.Event.TheVariants.{Call, Reply, Lost}
use Rattle.events.specs.Events.{documents_of, is_same, with_document, with_event}
use Rattle.history.specs.ByRules.{is_repeatable}
use Rattle.history.specs.declared.text_rules.Writes.{Writes}
use Rattle.history.specs.declared.text_rules.Writes.TheVariants as writes
use Rattle.readings.specs.Reading.{heeded, heeded_events, is_hidden, read_as, shown_events, twin_before, twinned, with_twins, without_hidden, without_void}
use Rattle.readings.specs.declared.reading.Reading.{Reading}

-- an event that is changed names the same document
masked_documents : (f : Event → Event) → ((ds : List (List ℕ × ℕ)) (e : Event) → with_event ds (f e) ≡ with_event ds e)
    → (ds : List (List ℕ × ℕ)) (events : List Event) → fold with_event ds (map f events) ≡ fold with_event ds events
masked_documents f same ds [] = refl
masked_documents f same ds (e ∷ es) =
    ap (λ all. fold with_event all (map f es)) (same ds e) ∙ masked_documents f same (with_event ds e) es

void_same : (voids : List ℕ) (ds : List (List ℕ × ℕ)) (e : Event) → with_event ds (without_void voids e) ≡ with_event ds e
void_same voids ds (Call h n d op) = refl
void_same voids ds (Reply n r) = refl
void_same voids ds (Lost n) = refl

hidden_same : (reading : Reading) (ds : List (List ℕ × ℕ)) (e : Event) → with_event ds (without_hidden reading e) ≡ with_event ds e
hidden_same reading ds (Call h n d op) = refl
hidden_same reading ds (Reply n r) = by_test (is_hidden reading r) where
  by_test : (b : Bool) → with_event ds (if b then Lost n else Reply n r) ≡ ds
  by_test true = refl
  by_test false = refl
hidden_same reading ds (Lost n) = refl

-- ---- twins

-- a document that is there is not added
known_document : (ds : List (List ℕ × ℕ)) (d : List ℕ) (h : ℕ) → with_document (with_document ds d h) d h ≡ with_document ds d h
known_document [] d h = ap (λ b. if b then (d, h) ∷ [] else (d, h) ∷ ((d, h) ∷ [])) ((bytes_decides d d).1 refl)
known_document (e ∷ es) d h = by_test (is_same d e.0) refl (known_document es d h) where
  by_test : (b : Bool) → is_same d e.0 ≡ b → with_document (with_document es d h) d h ≡ with_document es d h
      → with_document (if b then e ∷ es else e ∷ with_document es d h) d h ≡ (if b then e ∷ es else e ∷ with_document es d h)
  by_test true is later = ap (λ c. if c then e ∷ es else e ∷ with_document es d h) is
  by_test false is later =
      ap (λ c. if c then e ∷ with_document es d h else e ∷ with_document (with_document es d h) d h) is ∙ ap (λ rest. e ∷ rest) later

twin_documents : (all : List Event) (i : ℕ) (ds : List (List ℕ × ℕ)) (events : List Event) → fold with_event ds (with_twins all i events) ≡ fold with_event ds events
twin_documents all i ds [] = refl
twin_documents all i ds (Call h n d op ∷ es) = by_test (is_repeatable op) (twin_documents all (suc i) (with_document ds d h) es) where
  by_test : (b : Bool) → fold with_event (with_document ds d h) (with_twins all (suc i) es) ≡ fold with_event (with_document ds d h) es
      → fold with_event (with_document ds d h) (twin_before b (Call h (2 * i + 1) d op) (with_twins all (suc i) es)) ≡ fold with_event (with_document ds d h) es
  by_test true later = ap (λ these. fold with_event these (with_twins all (suc i) es)) (known_document ds d h) ∙ later
  by_test false later = later
twin_documents all i ds (Reply n r ∷ es) = twin_documents all (suc i) ds es
twin_documents all i ds (Lost n ∷ es) = twin_documents all (suc i) ds es

-- ---- what is read

shown_documents : (reading : Reading) (voids : List ℕ) (events : List Event) → documents_of (shown_events reading voids events) ≡ documents_of events
shown_documents reading voids events =
    masked_documents (without_hidden reading) (hidden_same reading) [] (heeded_events reading voids events)
    ∙ masked_documents (without_void (heeded reading.failed voids)) (void_same (heeded reading.failed voids)) [] events

pub read_documents : (reading : Reading) (voids : List ℕ) (events : List Event) → documents_of (read_as reading voids events) ≡ documents_of events
read_documents reading voids events = by_mode reading.writes ∙ shown_documents reading voids events where
  by_mode : (w : Writes) → documents_of (twinned w (shown_events reading voids events)) ≡ documents_of (shown_events reading voids events)
  by_mode writes.Once = refl
  by_mode writes.Repeated = twin_documents (shown_events reading voids events) 0 [] (shown_events reading voids events)
