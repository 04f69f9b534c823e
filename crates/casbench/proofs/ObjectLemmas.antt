-- What is written in place of a witness, and of the line of one.
use Rattle.std.proofs.Common.{ℕ, ◌≡◌, ◌≢◌, ◌++◌, List, Option, Some, refl, subst, sym}
use Rattle.std.proofs.lemmas.Option.{IfSome_then}
use Rattle.casbench.specs.Objects.{IsObjectOfAnswer, IsObjectOn, IsWitnessInJson, VerifiesInJson}
use Rattle.readings.specs.declared.reading.Reading.{Reading}
use Rattle.evidence.specs.declared.ruling_out.RulingOut.{RulingOut}
use Rattle.report.specs.Details.{status_of}
use Rattle.report.specs.Verdict.{IsAnswer, VerifiesInputs}
use Rattle.report.specs.Witnessed.{MayFollow}
use Rattle.stream_io.proofs.WrittenLemmas.{nothing_follows}
use Rattle.result_lines.specs.Objects.{line_of}
use Rattle.result_lines.specs.declared.reported.Reported.{Reported}
use Rattle.stream_io.specs.declared.status.Status.{Status}
use Rattle.stream_io.specs.declared.status.Status.TheVariants.{Yes, No, Refuted, Refused}

-- the object of a line that is not yes, with a certificate after it if the history is refuted
pub answered_in_json : (file : List ℕ) (ruling : RulingOut) (reading : Reading) (input : List ℕ) (status : Status) (line text certificate : List ℕ) → status ≢ Yes
    → MayFollow status certificate → IsAnswer ruling reading input status line → IsObjectOn reading file (Some input) line text
    → IsWitnessInJson file ruling reading input status (text ++ certificate)
answered_in_json file ruling reading input Yes line text certificate not_yes none is object = absurd (not_yes refl)
answered_in_json file ruling reading input No line text certificate not_yes none is object =
    subst (IsObjectOfAnswer file ruling reading input No) (sym (nothing_follows text certificate none)) (line, is, object)
answered_in_json file ruling reading input Refuted line text certificate not_yes none is object = (text, certificate, refl, (line, is, object))
answered_in_json file ruling reading input Refused line text certificate not_yes none is object =
    subst (IsObjectOfAnswer file ruling reading input Refused) (sym (nothing_follows text certificate none)) (line, is, object)

-- the object of what is reported of a witness
pub verified_in_json : (file : List ℕ) (reading : Reading) (history witness : Option (List ℕ)) (said : Reported) (status : Status) (text : List ℕ) → status ≡ status_of said
    → VerifiesInputs reading history witness (status_of said) (line_of said) → ((h : List ℕ) → IsObjectOn reading file (Some h) (line_of said) text) → VerifiesInJson file reading history witness status text
verified_in_json file reading history witness said status text same verifies object =
    subst (λ (s : Status). VerifiesInJson file reading history witness s text) (sym same)
    (IfSome_then history verifies (λ h both. IfSome_then witness both (λ w is. (line_of said, is, object h))))
