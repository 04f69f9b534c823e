-- The stretches of a chain, and in which of them a call can be.
use Rattle.std.specs.Prelude.{◌≡◌, ◌<◌, ◌≤◌, ◌-◌, ℕ, zero, suc, List, ◌∷◌, Bool, true, false, not, cond, Option, Some, None, length, map, slice_get, slice_index_or}
use Rattle.version_pair.specs.declared.pair.Pair.{Pair}
use Rattle.doc_register.specs.declared.op.Op.{Op}
use Rattle.doc_register.specs.declared.reply.Reply.{Reply}
use Rattle.doc_register.specs.declared.state.DocState.{DocState}
use Rattle.doc_register.specs.declared.state.DocState.TheVariants.{Never}
use Rattle.doc_register.specs.Register.{DocStep, is_here}
use Rattle.events.specs.declared.record.Rec.{Rec}
use Rattle.write_chain.specs.Chain.{IsChain, Rises, after_link}
use Rattle.events.specs.Heard.{pair_of}
use Rattle.doc_check.specs.declared.stretches.Stretches.{Stretches}

-- the state of the document in a stretch
abbrev pub state_in : List DocState → ℕ → DocState
state_in states j = slice_index_or states j Never

-- the state of the document in each stretch of the chain
abbrev pub states_of : List Rec → List (Pair × ℕ) → List DocState
states_of records chain = Never ∷ map (after_link records) chain

-- whether the document exists, or does not, as asked
abbrev pub is_as_asked : Bool → DocState → Bool
is_as_asked true s = is_here s
is_as_asked false s = not (is_here s)

abbrev pub is_so : List DocState → Bool → ℕ → Bool
is_so states live j = is_as_asked live (state_in states j)

-- the latest number below n that passes
abbrev pub latest_below : (ℕ → Bool) → ℕ → Option ℕ
latest_below test zero = None
latest_below test (suc n) = cond (test n) (Some n) (latest_below test n)

-- for each of the first n stretches, the latest one up to it in which the document exists, or doesn't
-- (`live`)
abbrev pub IsTable : List DocState → Bool → ℕ → List (Option ℕ) → Type 0
IsTable states live n table = (length table ≡ n)
    × ((j : ℕ) → j < n → slice_get table j ≡ Some (latest_below (is_so states live) (suc j)))

-- in the stretch the call has this reply, and is not a performed write
abbrev pub IsReadIn : List DocState → Op → Reply → ℕ → Type 0
IsReadIn states op reply j = DocStep (state_in states j) op reply None (state_in states j)

-- a call that is not a performed write can be in the stretch
abbrev pub ReadFits : List DocState → Op → Option (ℕ × Reply) → ℕ → Type 0
ReadFits states op None j = ⊥
ReadFits states op (Some heard) j = IsReadIn states op heard.1 j

-- a performed write can be at the beginning of the stretch
abbrev pub WriteFits : List (Pair × ℕ) → ℕ → Pair → ℕ → Type 0
WriteFits chain y q j = (k : ℕ) × (j ≡ suc k) × (slice_get chain k ≡ Some (q, y))

-- the answered record y can be in the stretch, a write at its beginning
abbrev pub FitsAs : Option Pair → List (Pair × ℕ) → List DocState → ℕ → Rec → ℕ → Type 0
FitsAs None chain states y r j = ReadFits states r.op r.heard j
FitsAs (Some q) chain states y r j = WriteFits chain y q j

abbrev pub Fits : List Rec → List (Pair × ℕ) → ℕ → Rec → ℕ → Type 0
Fits records chain y r j = FitsAs (pair_of r.heard) chain (states_of records chain) y r j

-- the last stretch for what comes before a record in this stretch
abbrev pub cap : Option Pair → ℕ → ℕ
cap None j = j
cap (Some q) j = j - 1

-- the latest number up to the bound of which P holds
pub record IsLatest (P : ℕ → Type 0) (bound j : ℕ) : Type 0 where
  pub within : j ≤ bound
  pub holds : P j
  pub latest : (l : ℕ) → l ≤ bound → P l → l ≤ j

-- if P holds of some number up to the bound, j is the latest such number
pub record IsGuess (P : ℕ → Type 0) (bound j : ℕ) : Type 0 where
  pub within : j ≤ bound
  pub best : (l : ℕ) → l ≤ bound → P l → (l ≤ j) × P j

-- P holds of no number up to the bound
abbrev pub HoldsNowhere : (ℕ → Type 0) → ℕ → Type 0
HoldsNowhere P bound = (l : ℕ) → l ≤ bound → ¬ P l

-- the stretches are those of the records' chain
pub record AreStretches (records : List Rec) (s : Stretches) : Type 0 where
  pub chain : IsChain records s.chain.items
  pub rising : Rises s.chain.items
  pub pairs : s.pairs.items ≡ map (λ l. l.0) s.chain.items
  pub states : s.states.items ≡ states_of records s.chain.items
  pub absent : IsTable s.states.items false (length s.states.items) s.absent.items
  pub present : IsTable s.states.items true (length s.states.items) s.present.items

-- the stretches are those of some records' chain
abbrev pub AreLaidOut : Stretches → Type 0
AreLaidOut s = (records : List Rec) × AreStretches records s
