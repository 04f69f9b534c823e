-- The records of a history whose void calls are read as gets are those of the history, with these calls as gets.
use Rattle.std.proofs.Common.{ℕ, suc, ◌≡◌, List, [], ◌∷◌, refl, sym, ap, subst, ◌∙◌, Bool, true, false, Option, Some, None, map, option_map, slice_get}
use Rattle.std.specs.Prelude.{filter_map, if◌then◌else◌, option_and_then}
use Rattle.std.specs.List.{cons_option}
use Rattle.std.proofs.lemmas.Option.{slice_get-map}
use Rattle.doc_register.specs.declared.op.Op.TheVariants.{Get}
use Rattle.doc_register.specs.declared.reply.Reply.{Reply as Answer}
use Rattle.events.specs.declared.event.Event.{Event}
use Rattle.events.specs.declared.event.Event.TheVariants.{Call, Reply, Lost}
use Rattle.events.specs.declared.record.Rec.{Rec}
use Rattle.events.specs.Events.{heard_at, heard_of, is_call_of, is_ending, place_of, places_from, record_at, record_from, records_of}
use Rattle.readings.specs.Reading.{is_among, without_void}
use Rattle.readings.specs.aids.Unexplained.{heeded_record}
use Rattle.readings.proofs.ShownLemmas.{void_mask}

same_document : (voids : List ℕ) (d : List ℕ) (e : Event) → is_call_of d (without_void voids e) ≡ is_call_of d e
same_document voids d (Call h n f op) = refl
same_document voids d (Reply n r) = refl
same_document voids d (Lost n) = refl

same_heard_at : (voids : List ℕ) (i : ℕ) (e : Event) → heard_at i (without_void voids e) ≡ heard_at i e
same_heard_at voids i (Call h n d op) = refl
same_heard_at voids i (Reply n r) = refl
same_heard_at voids i (Lost n) = refl

place_mapped : (f : Event → Event) (t : Event → Bool) → ((e : Event) → t (f e) ≡ t e) → (events : List Event) → place_of t (map f events) ≡ place_of t events
place_mapped f t same [] = refl
place_mapped f t same (e ∷ es) =
    ap (λ b. if b then Some 0 else option_map suc (place_of t (map f es))) (same e)
    ∙ ap (λ o. if t e then Some 0 else option_map suc o) (place_mapped f t same es)

places_mapped : (f : Event → Event) (t : Event → Bool) → ((e : Event) → t (f e) ≡ t e) → (i : ℕ) (events : List Event) → places_from i t (map f events) ≡ places_from i t events
places_mapped f t same i [] = refl
places_mapped f t same i (e ∷ es) =
    ap (λ b. if b then i ∷ places_from (suc i) t (map f es) else places_from (suc i) t (map f es)) (same e)
    ∙ ap (λ xs. if t e then i ∷ xs else xs) (places_mapped f t same (suc i) es)

-- what was heard of a call stays
heard_stays : (voids : List ℕ) (events : List Event) (n : ℕ) → heard_of (map (without_void voids) events) n ≡ heard_of events n
heard_stays voids events n =
    ap (λ o. option_and_then (λ i. option_and_then (heard_at i) (slice_get (map (without_void voids) events) i)) o) (place_mapped (without_void voids) (is_ending n) ((void_mask voids).endings n) events)
    ∙ by_place (place_of (is_ending n) events) where
      by_event : (i : ℕ) (o : Option Event) → option_and_then (heard_at i) (option_map (without_void voids) o) ≡ option_and_then (heard_at i) o
      by_event i None = refl
      by_event i (Some e) = same_heard_at voids i e

      by_place : (o : Option ℕ) → option_and_then (λ i. option_and_then (heard_at i) (slice_get (map (without_void voids) events) i)) o ≡ option_and_then (λ i. option_and_then (heard_at i) (slice_get events i)) o
      by_place None = refl
      by_place (Some i) = ap (option_and_then (heard_at i)) (slice_get-map (without_void voids) events i) ∙ by_event i (slice_get events i)

record_mapped : (voids : List ℕ) (events : List Event) (i : ℕ) → record_at (map (without_void voids) events) i ≡ option_map (heeded_record voids) (record_at events i)
record_mapped voids events i = ap (option_and_then (record_from (map (without_void voids) events) i)) (slice_get-map (without_void voids) events i) ∙ by_event (slice_get events i) where
  by_event : (o : Option Event) → option_and_then (record_from (map (without_void voids) events) i) (option_map (without_void voids) o) ≡ option_map (heeded_record voids) (option_and_then (record_from events i) o)
  by_event None = refl
  by_event (Some (Call h n d op)) = ap (λ o. Some (record { no = n; op = (if is_among voids n then Get else op); call_at = i; heard = o })) (heard_stays voids events n)
  by_event (Some (Reply n r)) = refl
  by_event (Some (Lost n)) = refl

filter_mapped : {X Y Z : Type 0} (f : X → Option Y) (g : X → Option Z) (h : Y → Z) → ((x : X) → g x ≡ option_map h (f x)) → (xs : List X) → filter_map g xs ≡ map h (filter_map f xs)
filter_mapped f g h same [] = refl
filter_mapped {X} {Y} {Z} f g h same (x ∷ xs) = ap (λ o. cons_option o (filter_map g xs)) (same x) ∙ by_option (f x) (filter_mapped f g h same xs) where
  by_option : (o : Option Y) → filter_map g xs ≡ map h (filter_map f xs) → cons_option (option_map h o) (filter_map g xs) ≡ map h (cons_option o (filter_map f xs))
  by_option None rest = rest
  by_option (Some y) rest = ap (λ zs. h y ∷ zs) rest

pub records_heeded : (voids : List ℕ) (events : List Event) (d : List ℕ) → records_of (map (without_void voids) events) d ≡ map (heeded_record voids) (records_of events d)
records_heeded voids events d =
    ap (filter_map (record_at (map (without_void voids) events))) (places_mapped (without_void voids) (is_call_of d) (same_document voids d) 0 events)
    ∙ filter_mapped (record_at events) (record_at (map (without_void voids) events)) (heeded_record voids) (record_mapped voids events) (places_from 0 (is_call_of d) events)

-- without void calls the records stay
pub none_heeded : (records : List Rec) → map (heeded_record []) records ≡ records
none_heeded [] = refl
none_heeded (r ∷ rs) = ap (λ xs. r ∷ xs) (none_heeded rs)
