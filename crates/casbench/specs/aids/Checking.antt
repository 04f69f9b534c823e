-- What comes of a text that is checked.
use Rattle.std.specs.Prelude.{◌≡◌, ◌<◌, ℕ, List, Option, None, Some, Result, Ok, Err, IfSome, length, slice_index_or}
use Rattle.readings.specs.declared.reading.Reading.{Reading}
use Rattle.evidence.specs.declared.ruling_out.RulingOut.{RulingOut}
use Rattle.report.specs.Calls.{CountsCalls}
use Rattle.report.specs.Verdict.{AnswersInput}
use Rattle.stream_io.specs.Faults.{IsCheckFault, IsReadingFault}
use Rattle.stream_io.specs.declared.stream_fault.StreamFault.{StreamFault}
use Rattle.casbench.specs.Each.{IsInForm}
use Rattle.command_line.specs.declared.form.Form.{Form}
use Rattle.casbench.specs.declared.named_text.NamedText.{NamedText}
use Rattle.casbench.specs.declared.named_text.Written.{Written}

-- what is written of a text, before it is known how many calls are asked for
pub record IsWrittenOf (ruling : RulingOut) (reading : Reading) (form : Form) (name : List ℕ) (input : Option (List ℕ)) (it : Written) : Type 0 where
  pub line : List ℕ
  pub named : IsInForm reading form name input line it.text.items
  pub answers : AnswersInput ruling reading input it.status line
  pub counted : IfSome input (λ bytes. CountsCalls bytes it.status it.calls)

-- it was checked: there is what is written of it, or a fault of a check, which with one worker is no lost worker
abbrev pub HasCome : RulingOut → Reading → Form → ℕ → List ℕ → Option (List ℕ) → Option (Result Written StreamFault) → Type 0
HasCome ruling reading form workers name input None = ⊥
HasCome ruling reading form workers name input (Some (Ok it)) = IsWrittenOf ruling reading form name input it
HasCome ruling reading form workers name input (Some (Err fault)) = IsCheckFault fault × (workers ≡ 1 → IsReadingFault fault)

-- the text keeps its name, and what came of it is of the bytes that its source had
pub record IsChecked {S : Type 0} (remaining : S → Option (List ℕ)) (ruling : RulingOut) (reading : Reading) (form : Form) (workers : ℕ) (before after : NamedText S) : Type 0 where
  pub name : after.name.now ≡ before.name.now
  pub come : HasCome ruling reading form workers before.name.now (remaining before.source) after.written

-- the same of each of several texts
abbrev pub AreChecked : {S : Type 0} → (S → Option (List ℕ)) → RulingOut → Reading → Form → ℕ → List (NamedText S) → List (NamedText S) → Type 0
AreChecked remaining ruling reading form workers before after =
    (i : ℕ) (d : NamedText _) → i < length before → IsChecked remaining ruling reading form workers (slice_index_or before i d) (slice_index_or after i d)
