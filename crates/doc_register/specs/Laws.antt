-- Laws of steps and runs.
use Rattle.std.specs.Prelude.{◌≡◌, ◌⊎◌, ◌↔◌, ◌<◌, ◌++◌, ℕ, List, ◌∷◌, Option, Some, None, slice_get}
use Rattle.version_pair.specs.declared.pair.Pair.{Pair}
use Rattle.version_pair.specs.PairOrder.{IsBelow}
use Rattle.doc_register.specs.Documents.{AreAnswered, Call, Documents, accepted, no_documents}
use Rattle.doc_register.specs.Register.{DocStep}
use Rattle.doc_register.specs.Run.{Entry, IsDocRun, IsLegalRun, IsRun, PairsDistinct, State, pair_taken, part_of, start}
use Rattle.doc_register.specs.declared.op.Op.{Op}
use Rattle.doc_register.specs.declared.op.Op.TheVariants.{Get}
use Rattle.doc_register.specs.declared.reply.Reply.{Reply}
use Rattle.doc_register.specs.declared.reply.Reply.TheVariants.{Conflict}
use Rattle.doc_register.specs.declared.state.DocState.{DocState}
use Rattle.doc_register.specs.declared.state.DocState.TheVariants.{Never}

-- ---- one document

-- two steps with the same state before, operation, reply and hidden pair have the same state after
-- Source: profile.
abbrev pub StepIsDecided : Type 0
StepIsDecided = (s : DocState) (op : Op) (r : Reply) (h : Option Pair) (t u : DocState) → DocStep s op r h t
    → DocStep s op r h u → t ≡ u

-- the entry at index i takes the pair p
abbrev pub IsPairAt : List Entry → ℕ → Pair → Type 0
IsPairAt es i p = (e : Entry) × (slice_get es i ≡ Some e) × (pair_taken e.reply e.hidden ≡ Some p)

-- in a run of one document, from any state, each pair that is taken is below those that are taken later
-- Source: profile.
abbrev pub PairsRise : Type 0
PairsRise = (s t : DocState) (es : List Entry) → IsDocRun s es t → (i j : ℕ) (p q : Pair) → i < j → IsPairAt es i p
    → IsPairAt es j q → IsBelow p q

-- entries of one document, in one shard, that are a run of it alone from Never are a legal run: its pairs
-- rise, so none is taken twice
-- Source: profile.
abbrev pub OneDocument : Type 0
OneDocument = (d : List ℕ) (h : ℕ) (es : List Entry)
    → ((i : ℕ) (e : Entry) → slice_get es i ≡ Some e → (e.doc ≡ d) × (e.shard ≡ h))
    → ((t : DocState) × IsDocRun Never es t) → IsLegalRun es

-- ---- all documents

-- two runs of the same entries from the start end with the same document under each id, and with the same
-- used pairs
-- Source: profile.
abbrev pub RunIsDecided : Type 0
RunIsDecided = (es : List Entry) (t u : State) → IsRun start es t → IsRun start es u
    → ((d : List ℕ) → t.document d ≡ u.document d) × (t.used ≡ u.used)

-- in a legal run no two performed entries of a shard carry the same pair, whether their replies show it or
-- hide it
-- Source: profile.
abbrev pub NoPairTwice : Type 0
NoPairTwice = (es : List Entry) → IsLegalRun es → PairsDistinct es

-- the entry is a get, or a write that was not performed and whose reply is a conflict
abbrev pub ChangesNothing : Entry → Type 0
ChangesNothing e = (e.op ≡ Get) ⊎ ((e.reply ≡ Conflict) × (e.hidden ≡ None))

-- an entry that changes nothing can be left out of a legal run, wherever it is
-- Source: profile.
abbrev pub LeavingOut : Type 0
LeavingOut = (es fs : List Entry) (e : Entry) → ChangesNothing e → IsLegalRun (es ++ e ∷ fs) → IsLegalRun (es ++ fs)

-- entries are a legal run if and only if each document's part of them (`part_of`) is a run of it alone from
-- Never (`IsDocRun`), and no pair of a shard is taken twice (`PairsDistinct`)
-- Source: after Herlihy and Wing, section 3.1, for sequential histories; profile (the pairs).
abbrev pub Locality : Type 0
Locality = (es : List Entry) → IsLegalRun es
    ↔ (((d : List ℕ) → (t : DocState) × IsDocRun Never (part_of d es) t) × PairsDistinct es)

-- ---- a map of documents

-- of any list of calls on a map without documents, those that it accepts are a legal run of one shard
-- Source: profile.
abbrev pub AcceptedAreLegal : Type 0
AcceptedAreLegal = (n : Documents) (cs : List Call) → AreAnswered no_documents cs n → IsLegalRun (accepted cs)
