-- The walk along the events of a document, as the code keeps it.
use Rattle.std.specs.Prelude.{◌≡◌, ◌<◌, ◌≤◌, ◌↔◌, ℕ, false, List, Some, slice_get}
use Rattle.doc_register.specs.declared.reply.Reply.{Reply}
use Rattle.events.specs.declared.record.Rec.{Rec}
use Rattle.deciding.specs.declared.document.Document.{Document}
use Rattle.deciding.specs.declared.row.Row.{Row}
use Rattle.deciding.specs.declared.walk.Walk.{Walk}
use Rattle.deciding.specs.Branches.{IsCovered, position}
use Rattle.deciding.specs.Tables.{IsTableAt, is_past, owing, settled}
use Rattle.deciding.specs.aids.Candidates.{AreOpen, facts_of}
use Rattle.deciding.specs.aids.Moments.{HasMade}
use Rattle.deciding.specs.aids.Rows.{branch_of}
use Rattle.deciding.specs.aids.StepsOf.{ArePositioned}
use Rattle.deciding.specs.aids.TablesOf.{table_of}

-- each row that served the call is covered behind its reply
abbrev pub AreSettledIn : List Rec → ℕ → List Row → List Row → Type 0
AreSettledIn records number served rows = (k : ℕ) (row : Row) → slice_get served k ≡ Some row → IsCovered records (table_of rows) (settled number (branch_of row))

-- the row after the call was made is covered, unless it is past what the call finds
abbrev pub IsOwingIn : List Rec → ℕ → Rec → List Row → Row → Type 0
IsOwingIn records number call rows row = is_past records (position records row.least) call.heard ≡ false → IsCovered records (table_of rows) (owing number call (branch_of row))

-- the call of this number is answered at the event
pub record IsAnswerAt (records : List Rec) (number : ℕ) (call : Rec) (event : ℕ) : Type 0 where
  pub at : slice_get records number ≡ Some call
  pub reply : Reply
  pub heard : call.heard ≡ Some (event, reply)

-- the walk has a table of what the document may be before the event
pub record IsWalkAt (d : Document) (event : ℕ) (walk : Walk) : Type 0 where
  pub table : IsTableAt (facts_of d) d.records.now event (table_of walk.front.items)
  pub positioned : ArePositioned d.records.now walk.front.items
  pub open_ones : AreOpen d.conflicts d.records.now event walk.open.items
  pub made : HasMade d.records.now event walk.made

-- the calls that are made before the event are those below this number
abbrev pub HasPassed : List Rec → ℕ → ℕ → Type 0
HasPassed records made event = (i : ℕ) (r : Rec) → slice_get records i ≡ Some r → (r.call_at < event) ↔ (i < made)

-- the walk has passed so many calls, and no reply comes from there up to the event
pub record IsPassedTo (d : Document) (made until : ℕ) (walk : Walk) : Type 0 where
  pub event : ℕ
  pub walked : IsWalkAt d event walk
  pub calls : HasPassed d.records.now made event
  pub before : event ≤ until
  pub silent : (i : ℕ) (r : Rec) (y : ℕ) (reply : Reply) → slice_get d.records.now i ≡ Some r → r.heard ≡ Some (y, reply) → y < until → y < event
