-- Calls that are tried as the next write of a document.
use Rattle.std.specs.Prelude.{◌≡◌, ◌≤◌, ◌<◌, ℕ, true, List, Some, map, slice_get}
use Rattle.version_pair.specs.declared.pair.Pair.{Pair}
use Rattle.doc_register.specs.declared.reply.Reply.{Reply}
use Rattle.doc_register.specs.declared.state.Conflicts.{Conflicts}
use Rattle.deciding.specs.Facts.{Facts}
use Rattle.events.specs.declared.record.Rec.{Rec}
use Rattle.deciding.specs.declared.document.Document.{Document}
use Rattle.deciding.specs.declared.groups.Entry.{Entry}
use Rattle.deciding.specs.declared.writes.Lost.{Lost}
use Rattle.deciding.specs.Records.{AreInOrder}
use Rattle.deciding.specs.Branches.{Branch}
use Rattle.deciding.specs.Steps.{MayPerform, is_hidden, performed}
use Rattle.deciding.specs.Elsewhere.{is_kept}
use Rattle.deciding.specs.aids.VersionsOf.{AreOf}
use Rattle.deciding.specs.aids.Writes.{AreWritesOf, kind_of}

-- the numbers of entries
abbrev pub numbers_in : List Entry → List ℕ
numbers_in entries = map (λ e. e.number) entries

-- the number is one of the list
abbrev pub IsNumberOf : List ℕ → ℕ → Type 0
IsNumberOf numbers n = (i : ℕ) × (slice_get numbers i ≡ Some n)

-- the numbers of the first list are in the second
abbrev pub AreIn : List ℕ → List ℕ → Type 0
AreIn old new = (n : ℕ) → IsNumberOf old n → IsNumberOf new n

-- what the document has of its records is theirs, and they are in order
pub record IsDocument (d : Document) : Type 0 where
  pub order : AreInOrder d.records.now
  pub versions : AreOf d.records.now d.versions
  pub writes : AreWritesOf d.records.now d.writes

-- what is known beside the records of the document
abbrev pub facts_of : Document → Facts
facts_of d = record { conflicts = d.conflicts; elsewhere = is_kept d.elsewhere.now.ends }

-- the conflicts that may hide a write and are made and not answered before the event are among these
abbrev pub AreOpen : Conflicts → List Rec → ℕ → List ℕ → Type 0
AreOpen conflicts records event numbers = (i : ℕ) (r : Rec) (y : ℕ) (reply : Reply) → slice_get records i ≡ Some r → r.heard ≡ Some (y, reply)
    → is_hidden conflicts r.heard ≡ true → r.call_at < event → event ≤ y → IsNumberOf numbers i

-- one of the numbers is that of a call that may be performed too, and has the same branch behind it
pub record IsRepresented (facts : Facts) (records : List Rec) (event : ℕ) (b : Branch) (j : ℕ) (s : Rec) (q : Pair) (numbers : List ℕ) : Type 0 where
  pub number : ℕ
  pub call : Rec
  pub listed : IsNumberOf numbers number
  pub may : MayPerform facts records event b number call q
  pub same : performed records event b number call q ≡ performed records event b j s q

-- each call that may be performed with the pair is represented among the numbers
abbrev pub AreCandidates : Facts → List Rec → ℕ → Branch → Pair → List ℕ → Type 0
AreCandidates facts records event b q numbers = (j : ℕ) (s : Rec) → MayPerform facts records event b j s q → IsRepresented facts records event b j s q numbers

-- each call of a kind that may be performed with the pair is represented among the numbers
abbrev pub AreLostIn : List Rec → Pair → List ℕ → Type 0
AreLostIn records q numbers = (facts : Facts) (event : ℕ) (b : Branch) (j : ℕ) (s : Rec) (kind : Lost) → kind_of s ≡ Some kind
    → MayPerform facts records event b j s q → IsRepresented facts records event b j s q numbers
