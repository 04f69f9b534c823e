-- Worked cases: which replies are legal in a state of one document, and which orders of calls are legal runs.
-- They show a definition that allows too much or too little.
use Rattle.std.specs.Prelude.{ℕ, ◌<◌, ◌≤◌, ◌^◌, [], ◌∷◌, true, false, Option, Some, None}
use Rattle.std.proofs.Common.{lit≤, lit<}
use Rattle.version_pair.specs.declared.pair.Pair.{Pair}
use Rattle.doc_register.specs.Register.{DocStep}
use Rattle.doc_register.specs.Run.{Entry, IsLegalRun}
use Rattle.doc_register.specs.declared.op.Op.{Op}
use Rattle.doc_register.specs.declared.op.Op.TheVariants.{Get, Index, Delete, Create}
use Rattle.doc_register.specs.declared.reply.Reply.{Reply}
use Rattle.doc_register.specs.declared.reply.Reply.TheVariants.{Indexed, Deleted, Found, Missing, Conflict}
use Rattle.doc_register.specs.declared.state.DocState.{DocState}
use Rattle.doc_register.specs.declared.state.DocState.TheVariants.{Never, Gone, Here}

-- the pair of a term and a sequence number that are in their ranges
abbrev pub pair : (term seq : ℕ) → 1 ≤ term → term < 2 ^ 63 → seq < 2 ^ 63 → Pair
pair t s a b c = record { term = t; seq = s; term_from_one = a; term_fits = b; seq_fits = c }

-- the pair with the term 1 and the sequence number 0
abbrev pub one_zero : Pair
one_zero = pair 1 0 (lit≤ tt) (lit< tt) (lit< tt)

-- the pair with the term 1 and the sequence number 1
abbrev pub one_one : Pair
one_one = pair 1 1 (lit≤ tt) (lit< tt) (lit< tt)

-- the pair with the term 2 and the sequence number 0
abbrev pub two_zero : Pair
two_zero = pair 2 0 (lit≤ tt) (lit< tt) (lit< tt)

-- the pair with the term 3 and the sequence number 2
abbrev pub three_two : Pair
three_two = pair 3 2 (lit≤ tt) (lit< tt) (lit< tt)

-- the operation cannot have this reply in this state, whatever the document is after it
abbrev pub IsIllegal : DocState → Op → Reply → Option Pair → Type 0
IsIllegal s op r h = (t : DocState) → ¬ DocStep s op r h t

-- an entry on the document "d" of shard 0
abbrev pub entry_of_d : Op → Reply → Option Pair → Entry
entry_of_d op r h = record { shard = 0; doc = 100 ∷ []; op = op; reply = r; hidden = h }

-- an entry on the document "e" of the shard
abbrev pub entry_of_e : ℕ → Op → Reply → Entry
entry_of_e n op r = record { shard = n; doc = 101 ∷ []; op = op; reply = r; hidden = None }

-- an index of the document "d" that was performed: Indexed with the pair (1,0), created
abbrev pub created_once : Entry
created_once = entry_of_d (Index 1 None) (Indexed one_zero true) None

-- an index of the document "d" with the condition (1,0) that was refused: a conflict that hides nothing
abbrev pub refused : Entry
refused = entry_of_d (Index 3 (Some one_zero)) Conflict None

-- a create of the document "e" of shard 0 that was performed with the pair, although its reply is a conflict
abbrev pub created_unsaid : Pair → Entry
created_unsaid q = record { shard = 0; doc = 101 ∷ []; op = Create 1; reply = Conflict; hidden = Some q }

-- The worked cases: legal and illegal steps of gets, of writes without and with a condition, and of creates;
-- and eight whole runs.
pub record WorkedSteps : Type 0 where
  -- a get shows the document, with its pair and its number
  pub get_shows_document : DocStep (Here one_zero 1) Get (Found one_zero 1) None (Here one_zero 1)
  -- a get does not show another number
  pub get_of_another_number : IsIllegal (Here one_zero 1) Get (Found one_zero 2) None
  -- a get does not show another pair
  pub get_of_another_pair : IsIllegal (Here one_zero 1) Get (Found one_one 1) None
  -- a get misses a document that was never written
  pub get_of_never_written : DocStep Never Get Missing None Never
  -- a get misses a deleted document
  pub get_of_deleted : DocStep (Gone one_zero) Get Missing None (Gone one_zero)
  -- a get does not miss a document that exists
  pub get_misses_document : IsIllegal (Here one_zero 1) Get Missing None
  -- a get hides no pair
  pub get_hides_pair : IsIllegal (Here one_zero 1) Get (Found one_zero 1) (Some one_one)
  -- an index creates a document that was never written
  pub index_creates : DocStep Never (Index 1 None) (Indexed one_zero true) None (Here one_zero 1)
  -- its reply says that it created the document
  pub index_creates_unsaid : IsIllegal Never (Index 1 None) (Indexed one_zero false) None
  -- an index takes no lower pair than that of the last change
  pub index_takes_low_pair : IsIllegal (Here one_one 1) (Index 2 None) (Indexed one_zero false) None
  -- an index does not take the pair of the last change again, even if the document is deleted
  pub index_takes_same_pair : IsIllegal (Gone one_one) (Index 2 None) (Indexed one_one true) None
  -- a greater term with a smaller sequence number is a greater pair
  pub term_before_sequence_number : DocStep (Here one_one 1) (Index 2 None) (Indexed two_zero false) None (Here two_zero 2)
  -- a delete finds the document
  pub delete_of_document : DocStep (Here one_zero 1) (Delete None) (Deleted one_one true) None (Gone one_one)
  -- a delete of a missing document is performed, and finds nothing
  pub delete_of_missing : DocStep Never (Delete None) (Deleted one_zero false) None (Gone one_zero)
  -- its reply does not say that it found the document
  pub delete_of_missing_found : IsIllegal (Gone one_zero) (Delete None) (Deleted one_one true) None
  -- an index without a condition has no conflict
  pub conflict_without_condition : IsIllegal (Here one_zero 1) (Index 2 None) Conflict None
  -- a condition is met, and the write is performed
  pub condition_met : DocStep (Here one_zero 1) (Index 2 (Some one_zero)) (Indexed one_one false) None (Here one_one 2)
  -- a write whose condition is not met is not performed
  pub performed_though_not_met : IsIllegal (Here one_one 1) (Index 2 (Some one_zero)) (Indexed three_two false) None
  -- a condition is not met by a deleted document
  pub performed_on_deleted : IsIllegal (Gone one_zero) (Delete (Some one_zero)) (Deleted one_one false) None
  -- a write with a condition on a missing document is a conflict
  pub conflict_on_missing : DocStep Never (Index 2 (Some one_zero)) Conflict None Never
  -- an index whose condition is met has no conflict
  pub conflict_though_met : IsIllegal (Here one_zero 1) (Index 2 (Some one_zero)) Conflict None
  -- a write whose condition is met may have a conflict as its reply that hides its pair
  pub conflict_with_hidden_pair : DocStep (Here one_zero 1) (Index 2 (Some one_zero)) Conflict (Some one_one) (Here one_one 2)
  -- a reply that shows its pair hides none
  pub hidden_pair_of_answered_write : IsIllegal Never (Index 1 None) (Indexed one_zero true) (Some one_zero)
  -- a write whose condition is not met hides no pair
  pub hidden_pair_though_not_met : IsIllegal Never (Index 2 (Some one_zero)) Conflict (Some one_one)
  -- a hidden pair is not lower than that of the last change
  pub hidden_pair_is_low : IsIllegal (Here one_one 1) (Index 2 (Some one_one)) Conflict (Some one_zero)
  -- a hidden pair is not that of the last change
  pub hidden_pair_is_same : IsIllegal (Here one_one 1) (Index 2 (Some one_one)) Conflict (Some one_one)
  -- a delete whose condition is met is performed
  pub delete_under_condition_met : DocStep (Here one_zero 1) (Delete (Some one_zero)) (Deleted one_one true) None (Gone one_one)
  -- a delete whose condition is met has no conflict
  pub delete_conflict_though_met : IsIllegal (Here one_zero 1) (Delete (Some one_zero)) Conflict None
  -- a create of a deleted document is performed
  pub create_of_absent : DocStep (Gone one_zero) (Create 2) (Indexed one_one true) None (Here one_one 2)
  -- a create does not replace a document
  pub create_over_document : IsIllegal (Here one_zero 1) (Create 2) (Indexed one_one false) None
  -- a create is refused if the document exists
  pub create_refused : DocStep (Here one_zero 1) (Create 2) Conflict None (Here one_zero 1)
  -- a create is not refused if the document was never written
  pub create_refused_on_never_written : IsIllegal Never (Create 2) Conflict None
  -- a create is not refused if the document is deleted
  pub create_refused_on_deleted : IsIllegal (Gone one_zero) (Create 2) Conflict None
  -- a get of the version before a write, the write, and a get of the version after it
  pub overlapping_gets : IsLegalRun (
      created_once
      ∷ entry_of_d Get (Found one_zero 1) None
      ∷ entry_of_d (Index 2 (Some one_zero)) (Indexed one_one false) None
      ∷ entry_of_d Get (Found one_one 2) None
      ∷ [])
  -- a conflict without a cause is illegal
  pub conflict_without_cause : ¬ IsLegalRun (created_once ∷ refused ∷ [])
  -- a lost write explains the conflict
  pub lost_write_explains_conflict : IsLegalRun (created_once ∷ entry_of_d (Index 2 (Some one_zero)) (Indexed three_two false) None ∷ refused ∷ [])
  -- one pair twice in a shard is illegal
  pub pair_twice_in_a_shard : ¬ IsLegalRun (created_once ∷ entry_of_e 0 (Index 1 None) (Indexed one_zero true) ∷ [])
  -- the same pair in two shards is legal
  pub same_pair_in_two_shards : IsLegalRun (created_once ∷ entry_of_e 1 (Index 1 None) (Indexed one_zero true) ∷ [])
  -- a hidden pair that was used before is illegal
  pub hidden_pair_was_used : ¬ IsLegalRun (created_once ∷ created_unsaid one_zero ∷ [])
  -- a hidden pair that is used again is illegal
  pub hidden_pair_used_again : ¬ IsLegalRun (created_unsaid one_zero ∷ created_once ∷ [])
  -- a hidden pair that no other call takes is legal
  pub hidden_pair_of_its_own : IsLegalRun (created_once ∷ created_unsaid one_one ∷ [])
