-- The links of the calls of documents: what stays, and what comes, with one more.
use Rattle.std.proofs.Common.{ℕ, zero, suc, ◌≡◌, ◌<◌, ◌≤◌, ◌+◌, ◌⊎◌, List, [], ◌∷◌, ◌++◌, length, length-append, append-nil, map, refl, sym, ap, subst, ◌∙◌, inl, inr, arith, Some, slice_get, nat_lt, add-one}
use Rattle.std.specs.Prelude.{set, reverse, option_map}
use Rattle.std.specs.Option.{option_map_or}
use Rattle.std.proofs.lemmas.List.{length-map, map-append, map-set, reverse-append}
use Rattle.std.proofs.lemmas.Option.{slice_get-map}
use Rattle.events.specs.declared.documents.Ends.{Ends}
use Rattle.events.specs.declared.documents.Link.{Link}
use Rattle.events.specs.aids.Documents.{AreCalls, AreLinked, IsCutAt, places_back, places_of}
use Rattle.events.specs.aids.Fronts.{starts_below}
use Rattle.version_pair.proofs.ListLemmas.{from_set, get_front, get_last, get_snoc, get_within, same_some}

-- each link leads to a link
abbrev LeadBack : List Link → Type 0
LeadBack links = (i : ℕ) (link : Link) → slice_get links i ≡ Some link → link.before < length links

-- ---- one step back

pub back_one : (links : List Link) (n at : ℕ) (link : Link) → slice_get links at ≡ Some link → places_back links (suc n) at ≡ link.place ∷ places_back links n link.before
back_one links n at link here = ap (λ o. option_map_or (λ (l : Link). l.place ∷ places_back links n l.before) o []) here

-- ---- the places that were there

back_front : (links : List Link) (new : Link) → LeadBack links → (n at : ℕ) → at < length links → places_back (links ++ new ∷ []) n at ≡ places_back links n at
back_front links new back zero at within = refl
back_front links new back (suc n) at within =
    let here = get_within links at within in
    back_one (links ++ new ∷ []) n at here.0 (get_front links (new ∷ []) at here.0 here.1)
    ∙ (ap (λ ps. here.0.place ∷ ps) (back_front links new back n here.0.before (back at here.0 here.1))
    ∙ sym (back_one links n at here.0 here.1))

places_front : (links : List Link) (new : Link) (calls : Ends) → LeadBack links → calls.last < length links → places_of (links ++ new ∷ []) calls ≡ places_of links calls
places_front links new calls back within = ap reverse (back_front links new back calls.count calls.last within)

map_front : (links : List Link) (new : Link) → LeadBack links → (ends : List Ends) → ((k : ℕ) (calls : Ends) → slice_get ends k ≡ Some calls → AreCalls links calls)
    → map (places_of (links ++ new ∷ [])) ends ≡ map (places_of links) ends
map_front links new back [] calls = refl
map_front links new back (e ∷ es) calls =
    ap (λ ps. ps ∷ map (places_of (links ++ new ∷ [])) es) (places_front links new e back (calls 0 e refl).last)
    ∙ ap (λ ls. places_of links e ∷ ls) (map_front links new back es (λ k c at. calls (suc k) c at))

calls_front : (links : List Link) (new : Link) (calls : Ends) → LeadBack links → AreCalls links calls → AreCalls (links ++ new ∷ []) calls
calls_front links new calls back old = record {
  last = (let below : calls.last < length links = old.last in simp length-append (omega arith));
  count = (let few : calls.count ≤ length links = old.count in simp length-append (omega arith));
  rest = old.rest;
  first = places_front links new calls back old.last ∙ old.first;
}

-- ---- one more call of a document

-- a link to the last, and the calls with it
abbrev pub link_to : ℕ → Ends → Link
link_to place calls = record { place = place; before = calls.last }

abbrev pub one_more : List Link → Ends → Ends
one_more links calls = record { first = calls.first; last = length links; count = calls.count + 1 }

places_more : (links : List Link) (calls : Ends) (place : ℕ) → LeadBack links → calls.last < length links
    → places_of (links ++ link_to place calls ∷ []) (one_more links calls) ≡ places_of links calls ++ place ∷ []
places_more links calls place back within =
    ap (λ n. reverse (places_back (links ++ link_to place calls ∷ []) n (length links))) (add-one calls.count)
    ∙ (ap reverse (back_one (links ++ link_to place calls ∷ []) calls.count (length links) (link_to place calls) (get_last links (link_to place calls))
    ∙ ap (λ ps. place ∷ ps) (back_front links (link_to place calls) back calls.count calls.last within))
    ∙ reverse-append (place ∷ []) (places_back links calls.count calls.last))

calls_more : (links : List Link) (calls : Ends) (place : ℕ) → LeadBack links → AreCalls links calls → AreCalls (links ++ link_to place calls ∷ []) (one_more links calls)
calls_more links calls place back old = record {
  last = simp length-append (omega arith);
  count = (let few : calls.count ≤ length links = old.count in simp length-append (omega arith));
  rest = old.rest ++ place ∷ [];
  first = places_more links calls place back old.last ∙ ap (λ ps. ps ++ place ∷ []) old.first;
}

back_more : (links : List Link) (new : Link) → LeadBack links → new.before < suc (length links) → LeadBack (links ++ new ∷ [])
back_more links new back within i link at =
    elim (get_snoc links new link i at) as (λ _. link.before < length (links ++ new ∷ [])) [
      | inl old ↦ (let below : link.before < length links = back i link old in simp length-append (omega arith))
      | inr last ↦ (let same : new.before ≡ link.before = ap (λ (l : Link). l.before) last.1 in simp length-append (omega arith))
    ]

pub linked_more : (links : List Link) (ends : List Ends) (k place : ℕ) (calls : Ends) → AreLinked links ends → slice_get ends k ≡ Some calls
    → AreLinked (links ++ link_to place calls ∷ []) (set ends k (one_more links calls))
linked_more links ends k place calls old here = record {
  back = back_more links (link_to place calls) old.back (let below : calls.last < length links = (old.calls k calls here).last in omega arith);
  calls = λ j c at. elim (from_set ends k j (one_more links calls) c at) as (λ _. AreCalls (links ++ link_to place calls ∷ []) c) [
    | inl new ↦ subst (AreCalls (links ++ link_to place calls ∷ [])) (sym new.1) (calls_more links calls place old.back (old.calls k calls here))
    | inr kept ↦ calls_front links (link_to place calls) c old.back (old.calls j c kept.1)
  ];
}

pub listed_more : (links : List Link) (ends : List Ends) (k place : ℕ) (calls : Ends) (places : List ℕ) → AreLinked links ends → slice_get ends k ≡ Some calls
    → slice_get (map (places_of links) ends) k ≡ Some places
    → map (places_of (links ++ link_to place calls ∷ [])) (set ends k (one_more links calls)) ≡ set (map (places_of links) ends) k (places ++ place ∷ [])
listed_more links ends k place calls places old here listed =
    let same : places_of links calls ≡ places = same_some (places_of links calls) places (sym (ap (option_map (places_of links)) here) ∙ (sym (slice_get-map (places_of links) ends k) ∙ listed)) in
    map-set (places_of (links ++ link_to place calls ∷ [])) ends k (one_more links calls)
    ∙ (ap (λ ls. set ls k (places_of (links ++ link_to place calls ∷ []) (one_more links calls))) (map_front links (link_to place calls) old.back ends old.calls)
    ∙ ap (set (map (places_of links) ends) k) (places_more links calls place old.back (old.calls k calls here).last ∙ ap (λ ps. ps ++ place ∷ []) same))

-- ---- a new document

abbrev pub first_link : List Link → ℕ → Link
first_link links place = record { place = place; before = length links }

abbrev pub first_call : List Link → ℕ → Ends
first_call links place = record { first = place; last = length links; count = 1 }

places_new : (links : List Link) (place : ℕ) → places_of (links ++ first_link links place ∷ []) (first_call links place) ≡ place ∷ []
places_new links place = ap reverse (back_one (links ++ first_link links place ∷ []) 0 (length links) (first_link links place) (get_last links (first_link links place)))

pub linked_new : (links : List Link) (ends : List Ends) (place : ℕ) → AreLinked links ends
    → AreLinked (links ++ first_link links place ∷ []) (ends ++ first_call links place ∷ [])
linked_new links ends place old = record {
  back = back_more links (first_link links place) old.back (omega arith);
  calls = λ j c at. elim (get_snoc ends (first_call links place) c j at) as (λ _. AreCalls (links ++ first_link links place ∷ []) c) [
    | inl kept ↦ calls_front links (first_link links place) c old.back (old.calls j c kept)
    | inr new ↦ subst (AreCalls (links ++ first_link links place ∷ [])) new.1 (record {
      last = simp length-append (omega arith);
      count = simp length-append (omega arith);
      rest = [];
      first = places_new links place;
    })
  ];
}

pub listed_with_new : (links : List Link) (ends : List Ends) (place : ℕ) → AreLinked links ends
    → map (places_of (links ++ first_link links place ∷ [])) (ends ++ first_call links place ∷ []) ≡ map (places_of links) ends ++ (place ∷ []) ∷ []
listed_with_new links ends place old =
    map-append (places_of (links ++ first_link links place ∷ [])) ends (first_call links place ∷ [])
    ∙ (ap (λ ls. ls ++ places_of (links ++ first_link links place ∷ []) (first_call links place) ∷ []) (map_front links (first_link links place) old.back ends old.calls)
    ∙ ap (λ ps. map (places_of links) ends ++ ps ∷ []) (places_new links place))

-- ---- the documents that are called before a place

pub cut_of_ends : (links : List Link) (ends : List Ends) (end m : ℕ) → AreLinked links ends → IsCutAt (starts_below end) (map (places_of links) ends) m
    → IsCutAt (λ (calls : Ends). nat_lt calls.first end) ends m
cut_of_ends links ends end m linked cut = record {
  within = subst (λ n. m ≤ n) (length-map ends (places_of links)) cut.within;
  passes = λ j calls at.
      sym (ap (starts_below end) (linked.calls j calls at).first)
      ∙ cut.passes j (places_of links calls) (slice_get-map (places_of links) ends j ∙ ap (option_map (places_of links)) at);
}

-- ---- the list of a document

pub within_ends : (links : List Link) (ends : List Ends) (lists : List (List ℕ)) (k : ℕ) → map (places_of links) ends ≡ lists → k < length lists → k < length ends
within_ends links ends lists k view below = subst (λ n. k < n) (length-map ends (places_of links)) (subst (λ ls. k < length ls) (sym view) below)

-- the places that were gathered from the last to the first, turned round
pub list_turned : (links : List Link) (ends : List Ends) (lists : List (List ℕ)) (k : ℕ) (calls : Ends) (gathered turned rest : List ℕ) → map (places_of links) ends ≡ lists
    → slice_get ends k ≡ Some calls → places_back links calls.count calls.last ≡ gathered ++ rest → rest ≡ [] → turned ≡ reverse gathered → slice_get lists k ≡ Some turned
list_turned links ends lists k calls gathered turned rest view here all none is =
    ap (λ ls. slice_get ls k) (sym view)
    ∙ (slice_get-map (places_of links) ends k
    ∙ (ap (option_map (places_of links)) here
    ∙ ap (λ ps. Some ps) (ap reverse (all ∙ (ap (λ ps. gathered ++ ps) none ∙ append-nil gathered)) ∙ sym is)))
