-- The answered calls of a document in response order.
use Rattle.std.specs.Prelude.{ℕ, suc, List, [], ◌∷◌, Option, Some, None, IsPermutation, IsSorted}
use Rattle.std.specs.declared.cmp.Ordering.{Ordering}
use Rattle.std.specs.Ordering.{nat_cmp, ordering_then}
use Rattle.doc_register.specs.declared.reply.Reply.{Reply}
use Rattle.events.specs.declared.record.Rec.{Rec}
use Rattle.write_chain.specs.declared.answers.AnsweredRec.{AnsweredRec}

-- the answered call with this position of its reply and this number of its record
abbrev pub answer_of : ℕ → ℕ → AnsweredRec
answer_of y k = record { reply_at = y; rec = k }

-- the answered calls of a list, with that numbered k before them if it was answered
abbrev pub answer_at : ℕ → Option (ℕ × Reply) → List AnsweredRec → List AnsweredRec
answer_at k None rest = rest
answer_at k (Some heard) rest = answer_of heard.0 k ∷ rest

-- the answered calls, if the first record is numbered k
abbrev pub answers_from : ℕ → List Rec → List AnsweredRec
answers_from k [] = []
answers_from k (r ∷ rs) = answer_at k r.heard (answers_from (suc k) rs)

-- how two answered calls compare: by the position of the reply, then by number
abbrev pub by_reply : AnsweredRec → AnsweredRec → Ordering
by_reply a b = ordering_then (nat_cmp a.reply_at b.reply_at) (nat_cmp a.rec b.rec)

-- the answered calls in response order
-- Source: profile.
pub record AreAnsweredCalls (records : List Rec) (answers : List AnsweredRec) : Type 0 where
  -- each of them once
  pub all : IsPermutation (answers_from 0 records) answers
  -- by the position of the reply, then by number
  pub in_order : IsSorted by_reply answers
