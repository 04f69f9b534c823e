-- What replies say of a pair, as the code keeps it.
use Rattle.std.specs.Prelude.{◌≡◌, ◌==◌, ℕ, Bool, true, false, cond, List, [], ◌∷◌, Option, Some, None, slice_get}
use Rattle.version_pair.specs.declared.pair.Pair.{Pair}
use Rattle.doc_register.specs.declared.reply.Reply.{Reply}
use Rattle.doc_register.specs.declared.reply.Reply.TheVariants.{Indexed, Deleted, Found, Missing, Conflict}
use Rattle.doc_register.specs.Register.{pair_of_reply}
use Rattle.events.specs.declared.record.Rec.{Rec}
use Rattle.deciding.specs.declared.version.FoundNumbers.{FoundNumbers}
use Rattle.deciding.specs.declared.version.FoundNumbers.TheVariants.{Unseen, One, Several}
use Rattle.deciding.specs.declared.version.Version.{Version}
use Rattle.deciding.specs.Reported.{IsFoundWith, IsKnown, known_pairs, pair_shown}
use Rattle.deciding.specs.Positions.{count_below}
use Rattle.deciding.specs.Branches.{is_same_pair}

-- ---- numbers

-- the numbers for which F holds
abbrev pub AreNumbers : (ℕ → Type 0) → FoundNumbers → Type 0
AreNumbers F Unseen = (n : ℕ) → ¬ F n
AreNumbers F (One k) = F k × ((n : ℕ) → F n → n ≡ k)
AreNumbers F Several = (k : ℕ) → ¬ ((n : ℕ) → F n → n ≡ k)

-- the numbers that gets found with the pair
abbrev pub AreNumbersFound : List Rec → Pair → FoundNumbers → Type 0
AreNumbersFound records p = AreNumbers (IsFoundWith records p)

-- the numbers that were found, with one more
abbrev pub numbers_with : FoundNumbers → ℕ → FoundNumbers
numbers_with Unseen k = One k
numbers_with (One n) k = cond (n == k) (One n) Several
numbers_with Several k = Several

-- ---- versions

-- what is known of a pair, with a reply that shows it
abbrev pub version_with : Version → Reply → Version
version_with x (Indexed p created) = record { reported = true; numbers = x.numbers }
version_with x (Deleted p found) = record { reported = true; numbers = x.numbers }
version_with x (Found p k) = record { reported = x.reported; numbers = numbers_with x.numbers k }
version_with x Missing = x
version_with x Conflict = x

-- the pair is the one that is shown
abbrev pub shows : Option Pair → Pair → Bool
shows None p = false
shows (Some q) p = is_same_pair q p

-- what is known of the pair, with what was heard of a call
abbrev pub version_heard : Version → Pair → Option (ℕ × Reply) → Version
version_heard x p None = x
version_heard x p (Some heard) = cond (shows (pair_of_reply heard.1) p) (version_with x heard.1) x

-- what is known of the pair, with what was heard of the calls
abbrev pub version_reported : Version → Pair → List Rec → Version
version_reported x p [] = x
version_reported x p (r ∷ rs) = version_reported (version_heard x p r.heard) p rs

-- no reply says anything
abbrev pub unreported : Version
unreported = record { reported = false; numbers = Unseen }

-- what the replies say of each known pair is at the index that is the number of known pairs below it
abbrev pub AreVersions : List Rec → List Version → Type 0
AreVersions records versions = (p : Pair) → IsKnown records p
    → slice_get versions (count_below (known_pairs records) p) ≡ Some (version_reported unreported p records)

-- what was heard of a call, which shows known pairs only, is added to the versions
abbrev pub IsNoted : List Rec → Option (ℕ × Reply) → List Version → List Version → Type 0
IsNoted records heard old new = ((q : Pair) → pair_shown heard ≡ Some q → IsKnown records q)
    → (p : Pair) (x : Version) → IsKnown records p → slice_get old (count_below (known_pairs records) p) ≡ Some x
    → slice_get new (count_below (known_pairs records) p) ≡ Some (version_heard x p heard)
