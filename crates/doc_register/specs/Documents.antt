-- Documents of one shard that calls are made on: the state of each, the pairs used so far, and the replies to
-- calls. This is how contracts see a `DocMap`.
use Rattle.std.specs.Prelude.{◌≡◌, ◌==◌, ℕ, List, [], ◌∷◌, Option, Some, None, IfSome, map, unwrap_or, Result, Ok, Err, Contains}
use Rattle.std.specs.Cmp.Lexicographic.{pointwise}
use Rattle.std.specs.List.{filter_map}
use Rattle.std.specs.Map.{lookup}
use Rattle.version_pair.specs.declared.pair.Pair.{Pair}
use Rattle.doc_register.specs.Register.{Exceeds, IsPerformed}
use Rattle.doc_register.specs.Run.{Entry, State, Step, pair_taken}
use Rattle.doc_register.specs.declared.map_fault.MapFault.{MapFault}
use Rattle.doc_register.specs.declared.op.Op.{Op}
use Rattle.doc_register.specs.declared.reply.Reply.{Reply}
use Rattle.doc_register.specs.declared.state.DocState.{DocState}
use Rattle.doc_register.specs.declared.state.DocState.TheVariants.{Never}

-- the state of each document that was ever written, and the pairs used so far, the last one first
pub record Documents : Type 0 where
  -- the documents that were ever written, each with its state
  pub states : List (List ℕ × DocState)
  -- the pairs used so far, the last one first
  pub used : List Pair

-- the state of the document: Never if it is not listed
abbrev pub state_of : Documents → List ℕ → DocState
state_of m d = unwrap_or (lookup (λ e. pointwise ◌==◌ d e) m.states) Never

-- the same as a state of all documents: each is in shard 0
abbrev pub as_state : Documents → State
as_state m = record { document = state_of m; used = map (λ q. (0, q)) m.used }

-- a call with its reply as an entry, of shard 0, that hides no pair
abbrev pub entry_of : List ℕ → Op → Reply → Entry
entry_of d op r = record { shard = 0; doc = d; op = op; reply = r; hidden = None }

-- the call is a performed write, and its pair is already used, by any document
-- Source: profile.
pub record IsUsedTwice (m : Documents) (d : List ℕ) (op : Op) (q : Pair) : Type 0 where
  -- the call is a performed write
  pub performed : IsPerformed (state_of m d) op
  -- its pair is used already, by any document
  pub used : Contains m.used q

-- the call is a performed write, and its pair is not used, but not greater than that of the document's last
-- change
-- Source: profile.
pub record IsTooLow (m : Documents) (d : List ℕ) (op : Op) (q : Pair) : Type 0 where
  -- the call is a performed write
  pub performed : IsPerformed (state_of m d) op
  -- its pair is not used
  pub unused : ¬ Contains m.used q
  -- its pair does not exceed that of the document's last change
  pub low : ¬ Exceeds q (state_of m d)

-- The call with the reply r is accepted, and leads from m to n.
-- Source: profile.
pub record Accepts (m : Documents) (d : List ℕ) (op : Op) (q : Pair) (r : Reply) (n : Documents) : Type 0 where
  -- it is a step
  pub step : Step (as_state m) (entry_of d op r) (as_state n)
  -- a pair that r carries for a change is the one that was handed in
  pub carried : IfSome (pair_taken r None) (λ p. p ≡ q)

-- ---- many calls

-- a call, with the pair that was handed in, and its answer
pub record Call : Type 0 where
  pub doc : List ℕ
  pub op : Op
  pub pair : Pair
  pub answer : Result Reply MapFault

-- the result of the call: an accepted call is a step, and a refused one leaves the documents as they were
abbrev pub IsAnswered : Documents → List ℕ → Op → Pair → Result Reply MapFault → Documents → Type 0
IsAnswered m d op q (Ok r) n = Accepts m d op q r n
IsAnswered m d op q (Err fault) n = n ≡ m

-- the calls have these results one after another, from m to n
abbrev pub AreAnswered : Documents → List Call → Documents → Type 0
AreAnswered m [] n = n ≡ m
AreAnswered m (c ∷ cs) n = (k : Documents) × IsAnswered m c.doc c.op c.pair c.answer k × AreAnswered k cs n

-- an accepted call with its reply as an entry; nothing of a refused one
abbrev pub entry_by : List ℕ → Op → Result Reply MapFault → Option Entry
entry_by d op (Ok r) = Some (entry_of d op r)
entry_by d op (Err fault) = None

-- the accepted calls, in their order, with their replies
abbrev pub accepted : List Call → List Entry
accepted cs = filter_map (λ c. entry_by c.doc c.op c.answer) cs

-- no document was written, and no pair is used
abbrev pub no_documents : Documents
no_documents = record { states = []; used = [] }
