-- What is reported of a line that is refused. Being out of memory is reported too, but no definition says
-- when.
use Rattle.std.specs.Prelude.{◌≡◌, ℕ, Result, Ok, Err}
use Rattle.api_lines.specs.declared.text_fault.LineFault.{LineFault}
use Rattle.api_lines.specs.declared.text_fault.LineFault.TheVariants as line
use Rattle.api_lines.specs.declared.text_fault.ReadFault.{ReadFault}
use Rattle.api_lines.specs.declared.text_fault.ReadFault.TheVariants as text
use Rattle.api_lines.specs.declared.text_fault.TextCause.{TextCause}
use Rattle.api_lines.specs.declared.text_fault.TextFault.{TextFault}

-- what is reported of a text if its line n fails: the line with its cause, or out of memory
abbrev pub text_fault : ℕ → LineFault → ReadFault
text_fault n (line.Reported cause) = text.Text (record { line = n; cause = cause })
text_fault n line.NoMemory = text.NoMemory

-- P holds of the cause that is reported; if memory was refused, none is
abbrev pub IfReported : LineFault → (TextCause → Type 0) → Type 0
IfReported (line.Reported cause) P = P cause
IfReported line.NoMemory P = Unit {0}

-- What a step gives that may be refused: its value, or the first cause. If memory was refused, this says
-- nothing of it.
abbrev pub Gives : {A : Type 0} → Result A LineFault → Result A TextCause → Type 0
Gives (Ok x) reported = reported ≡ Ok x
Gives (Err fault) reported = IfReported fault (λ cause. reported ≡ Err cause)

-- P holds of the line and the cause that are reported; if memory was refused, none are
abbrev pub IfTextReported : ReadFault → (TextFault → Type 0) → Type 0
IfTextReported (text.Text reported) P = P reported
IfTextReported text.NoMemory P = Unit {0}

-- a first step that may be refused, and what follows it
infixl 10 ◌>>=◌
abbrev pub ◌>>=◌ : {A B E : Type 0} → Result A E → (A → Result B E) → Result B E
Ok x >>= f = f x
Err e >>= f = Err e
