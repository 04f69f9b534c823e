-- What a history says of a get that found its document, and of a write that was performed.
use Rattle.std.specs.Prelude.{◌≡◌, ◌<◌, ◌⊎◌, ℕ, List, Option, Some, None}
use Rattle.version_pair.specs.declared.pair.Pair.{Pair}
use Rattle.version_pair.specs.PairOrder.{IsBelow}
use Rattle.doc_register.specs.declared.op.Op.{Op}
use Rattle.doc_register.specs.declared.reply.Reply.{Reply as Answer}
use Rattle.doc_register.specs.declared.reply.Reply.TheVariants.{Found, Missing}
use Rattle.doc_register.specs.Run.{pair_taken}
use Rattle.events.specs.declared.event.Event.{Event}
use Rattle.events.specs.Events.{IsCallAt, heard_of}
use Rattle.doc_register.specs.Register.{condition_of}
use Rattle.evidence.specs.Evidence.{IsFound, IsMissing, IsPerformed}
use Rattle.evidence.specs.declared.answered_call.FoundGet.{FoundGet}
use Rattle.evidence.specs.declared.answered_call.MissingGet.{MissingGet}
use Rattle.evidence.specs.declared.answered_call.PerformedWrite.{PerformedWrite}

-- the call numbered n is a get of a document, and has this reply
pub record IsFoundGet (events : List Event) (n : ℕ) (get : FoundGet) : Type 0 where
  pub doc : List ℕ
  pub shard : ℕ
  pub op : Op
  pub call : IsCallAt events get.called n shard doc op
  pub heard : heard_of events n ≡ Some (get.replied, Found get.pair get.k)

-- the same, or nothing if the call numbered n found no pair
abbrev pub IsFoundAs : List Event → ℕ → Option FoundGet → Type 0
IsFoundAs events n None = (d : List ℕ) (i : ℕ) (p : Pair) (k : ℕ) → ¬ IsFound events n d i p k
IsFoundAs events n (Some get) = IsFoundGet events n get

-- the call numbered n is a get of a document, and found nothing
pub record IsMissingGet (events : List Event) (n : ℕ) (get : MissingGet) : Type 0 where
  pub doc : List ℕ
  pub shard : ℕ
  pub op : Op
  pub call : IsCallAt events get.called n shard doc op
  pub heard : heard_of events n ≡ Some (get.replied, Missing)

-- the same, or nothing if the call numbered n wasn't answered so
abbrev pub IsMissingAs : List Event → ℕ → Option MissingGet → Type 0
IsMissingAs events n None = (d : List ℕ) (i : ℕ) → ¬ IsMissing events n d i
IsMissingAs events n (Some get) = IsMissingGet events n get

-- the call numbered n is a write of a document, and was performed as given
pub record IsPerformedWrite (events : List Event) (n : ℕ) (write : PerformedWrite) : Type 0 where
  pub doc : List ℕ
  pub reply : Answer
  pub call : IsCallAt events write.called n write.shard doc write.op
  pub heard : heard_of events n ≡ Some (write.replied, reply)
  pub shows : pair_taken reply None ≡ Some write.pair

-- the same, or nothing if no reply to the call numbered n shows that it was performed
abbrev pub IsPerformedAs : List Event → ℕ → Option PerformedWrite → Type 0
IsPerformedAs events n None = (d : List ℕ) (q : Pair) → ¬ IsPerformed events n d q
IsPerformedAs events n (Some write) = IsPerformedWrite events n write

-- the second write has a condition below the first one's pair although the first comes before it
pub record AsksTooLittle (first second : PerformedWrite) : Type 0 where
  pub condition : Pair
  pub asks : condition_of second.op ≡ Some condition
  pub below : IsBelow condition first.pair
  pub before : (first.replied < second.called) ⊎ IsBelow first.pair second.pair
