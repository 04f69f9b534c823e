-- Evidence in a history that no order of its calls explains it. That a write was performed means here that a
-- reply shows it: Indexed or Deleted.
use Rattle.std.specs.Prelude.{◌≡◌, ◌≢◌, ◌<◌, ◌⊎◌, ℕ, Bool, true, List, Option, Some, None, length, slice_get}
use Rattle.version_pair.specs.declared.pair.Pair.{Pair}
use Rattle.version_pair.specs.PairOrder.{IsBelow}
use Rattle.doc_register.specs.declared.op.Op.{Op}
use Rattle.doc_register.specs.declared.op.Op.TheVariants.{Delete}
use Rattle.doc_register.specs.Register.{condition_of, value_of}
use Rattle.doc_register.specs.declared.reply.Reply.{Reply as Answer}
use Rattle.doc_register.specs.declared.reply.Reply.TheVariants.{Indexed, Deleted, Found, Missing, Conflict}
use Rattle.doc_register.specs.declared.state.Conflicts.{Conflicts}
use Rattle.doc_register.specs.declared.state.Conflicts.TheVariants.{Maybe}
use Rattle.events.specs.declared.event.Event.{Event}
use Rattle.events.specs.Events.{IsCallAt, IsHistory, Precedes, documents_of, heard_of, records_of}
use Rattle.events.specs.Order.{IsLinearizable}
use Rattle.events.specs.Heard.{taken_by}
use Rattle.deciding.specs.Laws.{IsElsewhere}
use Rattle.deciding.specs.Tables.{IsRuledOut}
use Rattle.evidence.specs.declared.refuted.Refuted.{Refuted}
use Rattle.evidence.specs.declared.refuted.Refuted.TheVariants as evidence
use Rattle.evidence.specs.declared.ruling_out.RulingOut.{RulingOut}
use Rattle.evidence.specs.declared.ruling_out.RulingOut.TheVariants.{On}

-- ---- calls

-- the pair that the reply to the call numbered n shows to have been taken; none if it has no reply, or one
-- that is neither Indexed nor Deleted
abbrev pub pair_shown : List Event → ℕ → Option Pair
pair_shown events n = taken_by (heard_of events n) None

-- The call numbered n is a write of the document d, and its reply shows that it was performed with the pair
-- q.
pub record IsPerformed (events : List Event) (n : ℕ) (d : List ℕ) (q : Pair) : Type 0 where
  pub called : ℕ
  pub shard : ℕ
  pub op : Op
  -- the call numbered n is on the document d
  pub call : IsCallAt events called n shard d op
  -- its reply shows that it was performed with the pair q: in a history only a write is answered so
  pub shows : pair_shown events n ≡ Some q

-- The call numbered n is a get of the document d, and the reply at the position i shows that it found the
-- pair p with the number k.
pub record IsFound (events : List Event) (n : ℕ) (d : List ℕ) (i : ℕ) (p : Pair) (k : ℕ) : Type 0 where
  pub called : ℕ
  pub shard : ℕ
  pub op : Op
  -- the call numbered n is on the document d
  pub call : IsCallAt events called n shard d op
  -- its reply, at the position i, is Found with the pair p and the number k: in a history only a get is
  -- answered so
  pub heard : heard_of events n ≡ Some (i, Found p k)

-- The call numbered n is a get of the document d, and the reply at the position i shows that it found nothing.
pub record IsMissing (events : List Event) (n : ℕ) (d : List ℕ) (i : ℕ) : Type 0 where
  pub called : ℕ
  pub shard : ℕ
  pub op : Op
  -- the call numbered n is on the document d
  pub call : IsCallAt events called n shard d op
  -- its reply, at the position i, is Missing: in a history only a get is answered so
  pub heard : heard_of events n ≡ Some (i, Missing)

-- ---- writers

-- What was heard of an index or a create allows that it took the pair p: it was answered with this pair, it
-- is pending, or, under Maybe, it was answered with a conflict.
-- Source: profile.
abbrev pub MayTake : Conflicts → Option (ℕ × Answer) → Pair → Type 0
MayTake conflicts None p = Unit {0}
MayTake conflicts (Some (at, Indexed q created)) p = q ≡ p
MayTake conflicts (Some (at, Deleted q found)) p = ⊥
MayTake conflicts (Some (at, Found q k)) p = ⊥
MayTake conflicts (Some (at, Missing)) p = ⊥
MayTake conflicts (Some (at, Conflict)) p = conflicts ≡ Maybe

-- The call at the position j, before i, is an index or a create that may have given the document d the number
-- k with the pair p.
pub record IsWriter (conflicts : Conflicts) (events : List Event) (d : List ℕ) (i : ℕ) (p : Pair) (k j : ℕ) : Type 0 where
  -- the call is before the position i
  pub before : j < i
  pub number : ℕ
  pub shard : ℕ
  pub op : Op
  -- it is on the document d
  pub call : IsCallAt events j number shard d op
  -- it is an index or a create with the number k
  pub gives : value_of op ≡ Some k
  -- it may have taken the pair p
  pub takes : MayTake conflicts (heard_of events number) p

-- ---- removers

-- What was heard of a delete allows that it took a pair above q: it was answered with such a pair, it is
-- pending, or, under Maybe, it was answered with a conflict.
-- Source: profile.
abbrev pub MayTakeAbove : Conflicts → Option (ℕ × Answer) → Pair → Type 0
MayTakeAbove conflicts None q = Unit {0}
MayTakeAbove conflicts (Some (at, Indexed p created)) q = ⊥
MayTakeAbove conflicts (Some (at, Deleted p found)) q = IsBelow q p
MayTakeAbove conflicts (Some (at, Found p k)) q = ⊥
MayTakeAbove conflicts (Some (at, Missing)) q = ⊥
MayTakeAbove conflicts (Some (at, Conflict)) q = conflicts ≡ Maybe

-- The call at the position j, before i, is a delete that may have removed the document d after its change with
-- the pair q.
pub record IsRemover (conflicts : Conflicts) (events : List Event) (d : List ℕ) (i : ℕ) (q : Pair) (j : ℕ) : Type 0 where
  -- the call is before the position i
  pub before : j < i
  pub number : ℕ
  pub shard : ℕ
  pub condition : Option Pair
  -- it is a delete of the document d
  pub call : IsCallAt events j number shard d (Delete condition)
  -- it may have taken a pair above q
  pub takes : MayTakeAbove conflicts (heard_of events number) q

-- ---- the kinds of evidence

-- different writes of one shard were performed with the same pair, of one document or of two
-- Source: OpenSearch: a sequence number is given once in a shard.
pub record IsPairTwice (events : List Event) (a b : ℕ) : Type 0 where
  -- the calls are different
  pub apart : a ≢ b
  pub pair : Pair
  pub doc : List ℕ
  pub other : List ℕ
  -- the first was performed with the pair
  pub one : IsPerformed events a doc pair
  -- the second was performed with the same pair
  pub two : IsPerformed events b other pair
  -- both are of one shard
  pub same_shard : one.shard ≡ two.shard

-- the get found a pair with a number, and no call before its reply may have given its document both
-- Source: profile.
pub record HasNoWriter (conflicts : Conflicts) (events : List Event) (g : ℕ) : Type 0 where
  pub doc : List ℕ
  pub replied : ℕ
  pub pair : Pair
  pub number : ℕ
  -- the get found the pair with the number
  pub get : IsFound events g doc replied pair number
  -- no call before its reply may have written them
  pub none : (j : ℕ) → ¬ IsWriter conflicts events doc replied pair number j

-- the get found a pair below that of a write of its document that precedes it
-- Source: Herlihy and Wing, section 2, the order of operations; profile (the rest).
pub record IsStaleGet (events : List Event) (g w : ℕ) : Type 0 where
  pub doc : List ℕ
  pub replied : ℕ
  pub found : Pair
  pub number : ℕ
  pub pair : Pair
  -- the get found a pair
  pub get : IsFound events g doc replied found number
  -- a write of its document was performed with another
  pub write : IsPerformed events w doc pair
  -- the write precedes the get
  pub first : Precedes events w g
  -- the pair found is below that of the write
  pub below : IsBelow found pair

-- The get found nothing, an index or a create of its document precedes it, and no delete called before its
-- reply may have removed the document after that.
-- Source: Herlihy and Wing, section 2, the order of operations; profile (the rest).
pub record IsMissedWrite (conflicts : Conflicts) (events : List Event) (g w : ℕ) : Type 0 where
  pub doc : List ℕ
  pub replied : ℕ
  pub pair : Pair
  pub number : ℕ
  -- the get found nothing
  pub get : IsMissing events g doc replied
  -- a write of its document was performed
  pub write : IsPerformed events w doc pair
  -- the write is an index or a create
  pub gives : value_of write.op ≡ Some number
  -- the write precedes the get
  pub first : Precedes events w g
  -- no call before the reply of the get may have removed the document after the write
  pub none : (j : ℕ) → ¬ IsRemover conflicts events doc replied pair j

-- Different writes of one document were performed. The second has a condition below the first one's pair, and
-- the first comes before it: it precedes it, or its pair is below the second one's.
-- Source: OpenSearch: a write with `if_seq_no` and `if_primary_term` is performed only if the document's last
-- change has them.
pub record IsStaleSwap (events : List Event) (a b : ℕ) : Type 0 where
  -- the calls are different
  pub apart : a ≢ b
  pub doc : List ℕ
  pub pair : Pair
  pub later : Pair
  pub condition : Pair
  -- the first was performed with the pair
  pub one : IsPerformed events a doc pair
  -- the second was performed with the later pair, on the same document
  pub two : IsPerformed events b doc later
  -- the second has the condition
  pub asks : condition_of two.op ≡ Some condition
  -- the condition is below the pair of the first
  pub below : IsBelow condition pair
  -- the first comes before the second: it precedes it, or its pair is below that of the second
  pub first : Precedes events a b ⊎ IsBelow pair later

-- a document of the history is ruled out at the call numbered n, by its records
-- Source: profile.
pub record IsRuledOutIn (conflicts : Conflicts) (events : List Event) (n : ℕ) : Type 0 where
  pub doc : ℕ
  pub document : List ℕ × ℕ
  -- the document is one of the history
  pub listed : slice_get (documents_of events) doc ≡ Some document
  pub elsewhere : Pair → Bool
  -- these are pairs that other documents of its shard are known to have
  pub apart : (q : Pair) → elsewhere q ≡ true → IsElsewhere events document.0 q
  -- its records are ruled out at the call (`IsRuledOut`)
  pub ruled_out : IsRuledOut (record { conflicts = conflicts; elsewhere = elsewhere }) (records_of events document.0) n

-- the document of this number is ruled out at some call
abbrev pub IsDocumentRuledOut : Conflicts → List Event → ℕ → Type 0
IsDocumentRuledOut conflicts events doc = (n : ℕ) × (is : IsRuledOutIn conflicts events n) × (is.doc ≡ doc)

-- these are numbers of documents of the history
abbrev pub AreDocuments : List Event → List ℕ → Type 0
AreDocuments events docs = (i doc : ℕ) → slice_get docs i ≡ Some doc → doc < length (documents_of events)

-- the evidence holds in the history, in this reading of conflicts: for each kind the definition above
abbrev pub Holds : Conflicts → List Event → Refuted → Type 0
Holds conflicts events (evidence.PairTwice a b) = IsPairTwice events a b
Holds conflicts events (evidence.NoWriter g) = HasNoWriter conflicts events g
Holds conflicts events (evidence.StaleGet g w) = IsStaleGet events g w
Holds conflicts events (evidence.MissedWrite g w) = IsMissedWrite conflicts events g w
Holds conflicts events (evidence.StaleSwap a b) = IsStaleSwap events a b
Holds conflicts events (evidence.RuledOut n) = IsRuledOutIn conflicts events n

-- ---- what is reported

-- the evidence is one or two calls, and not a document that is ruled out
abbrev pub IsOfCalls : Refuted → Type 0
IsOfCalls (evidence.PairTwice a b) = Unit {0}
IsOfCalls (evidence.NoWriter g) = Unit {0}
IsOfCalls (evidence.StaleGet g w) = Unit {0}
IsOfCalls (evidence.MissedWrite g w) = Unit {0}
IsOfCalls (evidence.StaleSwap a b) = Unit {0}
IsOfCalls (evidence.RuledOut n) = ⊥

-- The evidence may be reported. One or two calls always may; that a document is ruled out may be reported
-- only if that is asked for.
-- Source: profile.
abbrev pub IsReported : RulingOut → Refuted → Type 0
IsReported ruling (evidence.PairTwice a b) = Unit {0}
IsReported ruling (evidence.NoWriter g) = Unit {0}
IsReported ruling (evidence.StaleGet g w) = Unit {0}
IsReported ruling (evidence.MissedWrite g w) = Unit {0}
IsReported ruling (evidence.StaleSwap a b) = Unit {0}
IsReported ruling (evidence.RuledOut n) = ruling ≡ On

-- ---- the law

-- if evidence holds in a history, no order of its calls explains it, however its pending calls are completed,
-- and in both readings of a conflict
-- Source: profile.
abbrev pub EvidenceRefutes : Type 0
EvidenceRefutes = (conflicts : Conflicts) (events : List Event) (evidence : Refuted) → IsHistory events → Holds conflicts events evidence
    → ¬ IsLinearizable conflicts events
