-- The documents of a history as their type keeps them, and what contracts see of that: aids of its contracts.
use Rattle.std.specs.Prelude.{◌≡◌, ℕ, zero, suc, ◌≤◌, ◌<◌, List, [], ◌∷◌, length, map, reverse, Some, Bool, nat_lt, slice_get}
use Rattle.std.specs.Option.{option_map_or}
use Rattle.events.specs.declared.documents.Ends.{Ends}
use Rattle.events.specs.declared.documents.Link.{Link}
use Rattle.events.specs.declared.hash_keys.HashKeys.{HashKeys}

-- the keys of the hashes; the documents, each with its shard; the positions of the calls of each; and how
-- many calls there are
pub record Documented : Type 0 where
  pub keys : HashKeys
  pub entries : List (List ℕ × ℕ)
  pub lists : List (List ℕ)
  pub calls : ℕ

abbrev pub no_documents : HashKeys → Documented
no_documents keys = record { keys = keys; entries = []; lists = []; calls = 0 }

-- the positions of that many calls of a document, backwards from that of the link
abbrev pub places_back : List Link → ℕ → ℕ → List ℕ
places_back links zero at = []
places_back links (suc n) at = option_map_or (λ link. link.place ∷ places_back links n link.before) (slice_get links at) []

-- the positions of a document's calls, in their order
abbrev pub places_of : List Link → Ends → List ℕ
places_of links calls = reverse (places_back links calls.count calls.last)

abbrev pub documented : HashKeys → List (List ℕ × ℕ) → List Link → List Ends → Documented
documented keys entries links ends =
    record { keys = keys; entries = entries; lists = map (places_of links) ends; calls = length links }

-- the calls of a document: they are no more than the links, and their list begins with the first
pub record AreCalls (links : List Link) (calls : Ends) : Type 0 where
  pub last : calls.last < length links
  pub count : calls.count ≤ length links
  pub rest : List ℕ
  pub first : places_of links calls ≡ calls.first ∷ rest

-- each link leads to a link, and each document has calls
pub record AreLinked (links : List Link) (ends : List Ends) : Type 0 where
  pub back : (i : ℕ) (link : Link) → slice_get links i ≡ Some link → link.before < length links
  pub calls : (k : ℕ) (calls : Ends) → slice_get ends k ≡ Some calls → AreCalls links calls

-- exactly the first m items pass
pub record IsCutAt {X : Type 0} (p : X → Bool) (xs : List X) (m : ℕ) : Type 0 where
  pub within : m ≤ length xs
  pub passes : (j : ℕ) (x : X) → slice_get xs j ≡ Some x → p x ≡ nat_lt j m
