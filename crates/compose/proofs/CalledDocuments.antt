-- The shard of a document is that of its calls.
use Rattle.std.proofs.Common.{ℕ, ◌≡◌, List}
use Rattle.doc_register.specs.declared.op.Op.{Op}
use Rattle.events.specs.declared.event.Event.{Event}
use Rattle.events.specs.Events.{IsCallAt, IsHistory}
use Rattle.events.proofs.CalledDocuments.{document_called}
use Rattle.covers.specs.Covers.{IsOfShard}

-- the shard of a document is that of its calls
pub shard_of_call : (events : List Event) → IsHistory events → (i n g h : ℕ) (d : List ℕ) (op : Op) → IsCallAt events i n g d op → IsOfShard events d h → g ≡ h
shard_of_call events history i n g h d op at of =
    let called = document_called events (d, h) of in
    history.one_shard i called.0 n called.1 g h d op called.2 at called.3
