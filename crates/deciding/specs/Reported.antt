-- What the replies to a document's calls say of it. The records are those of one document.
use Rattle.std.specs.Prelude.{◌≡◌, ◌++◌, ℕ, List, [], ◌∷◌, Option, Some, option_and_then, slice_get}
use Rattle.std.specs.Option.{option_to_list}
use Rattle.version_pair.specs.declared.pair.Pair.{Pair}
use Rattle.doc_register.specs.declared.reply.Reply.{Reply}
use Rattle.doc_register.specs.declared.reply.Reply.TheVariants.{Found}
use Rattle.doc_register.specs.Register.{condition_of, pair_of_reply}
use Rattle.events.specs.declared.record.Rec.{Rec}
use Rattle.events.specs.Heard.{pair_of}

-- ---- calls

-- the call is one of the records
abbrev pub IsListed : List Rec → Rec → Type 0
IsListed records r = (i : ℕ) × (slice_get records i ≡ Some r)

-- ---- known pairs

-- the pair in the reply: that of a write that was performed, or of the document that was found
abbrev pub pair_shown : Option (ℕ × Reply) → Option Pair
pair_shown heard = option_and_then (λ h. pair_of_reply h.1) heard

-- the condition under which a write was performed: the document existed with this pair
abbrev pub condition_met : Rec → Option Pair
condition_met r = option_and_then (λ q. condition_of r.op) (pair_of r.heard)

-- the pairs that replies show to be pairs of changes of the document, as a pair shown or as a condition that
-- was met, each as often as a reply shows it
abbrev pub known_pairs : List Rec → List Pair
known_pairs [] = []
known_pairs (r ∷ rs) = (option_to_list (pair_shown r.heard) ++ option_to_list (condition_met r)) ++ known_pairs rs

-- the pair is known: a reply shows that a change of the document has it
abbrev pub IsKnown : List Rec → Pair → Type 0
IsKnown records p = (i : ℕ) × (slice_get (known_pairs records) i ≡ Some p)

-- a reply says which call took the pair: a write that was performed with it
abbrev pub IsReportedOf : List Rec → Pair → Type 0
IsReportedOf records p = (r : Rec) × IsListed records r × (pair_of r.heard ≡ Some p)

-- a reply says that the document had the number with the pair
pub record IsFoundWith (records : List Rec) (p : Pair) (k : ℕ) : Type 0 where
  pub call : Rec
  -- a call of the records
  pub listed : IsListed records call
  pub replied : ℕ
  -- its reply is Found with the pair and the number
  pub heard : call.heard ≡ Some (replied, Found p k)
