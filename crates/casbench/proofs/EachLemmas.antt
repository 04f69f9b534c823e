-- What is written of several texts, one after the other.
use Rattle.std.proofs.Common.{◌≡◌, ◌∙◌, ◌++◌, ◌∷◌, ◌<◌, ◌+◌, ℕ, [], Err, List, Ok, Option, Result, Some, add-one, ap, get_or, length, map, refl, subst, sym, take, true}
use Rattle.std.specs.List.{All}
use Rattle.std.proofs.lemmas.Option.{IfSome_then}
use Rattle.casbench.specs.Outcomes.{IsJudged, status_of}
use Rattle.casbench.specs.aids.Checking.{HasCome, IsWrittenOf}
use Rattle.stream_io.specs.Faults.{IsCheckFault, IsReadingFault}
use Rattle.stream_io.specs.declared.stream_fault.StreamFault.{StreamFault}
use Rattle.std.specs.Prelude.{IfErr, IfOk}
use Rattle.casbench.specs.declared.named_text.Written.{Written}
use Rattle.report.specs.Calls.{CountsCalls}
use Rattle.report.specs.Verdict.{AnswersInput}
use Rattle.stream_io.specs.declared.status.Status.{Status}
use Rattle.std.proofs.lemmas.List.{flat_map_more, map-append}
use Rattle.std.proofs.Math.Seq.{take-suc}
use Rattle.std.proofs.lemmas.List.Elements.{All-cons, All-head, All-nil, All-push, All-tail}
use Rattle.casbench.specs.Each.{AnswersEach, AnswersOne, AreOfFiles, CheckedText, Named, worst_from, named_of}
use Rattle.casbench.specs.Exit.{worse_outcome}
use Rattle.casbench.specs.Input.{names_input}
use Rattle.command_line.specs.declared.form.Form.{Form}
use Rattle.casbench.specs.declared.named_text.NamedText.{NamedText}
use Rattle.casbench.specs.declared.outcome.Outcome.{Outcome}
use Rattle.casbench.specs.declared.outcome.Outcome.TheVariants.{Answered}
use Rattle.readings.specs.declared.reading.Reading.{Reading}
use Rattle.evidence.specs.declared.ruling_out.RulingOut.{RulingOut}
use Rattle.stream_io.specs.declared.status.Status.TheVariants.{Yes}

-- of no text nothing is written
pub nothing : (ruling : RulingOut) (reading : Reading) (least : ℕ) (form : Form) → AnswersEach ruling reading least form [] (Answered Yes) []
unfolding worst_from
nothing ruling reading least form = record {
  checked = [];
  each = refl;
  answered = All-nil (λ (c : CheckedText). AnswersOne ruling reading least form c.text c.outcome c.line);
  lines = refl;
  worst = refl;
}

-- the worst outcome, with one more
worst_more : (outcome : Outcome) (cs : List CheckedText) (c : CheckedText)
    → worst_from outcome (cs ++ c ∷ []) ≡ worse_outcome (worst_from outcome cs) c.outcome
unfolding worst_from
worst_more outcome [] c = refl
worst_more outcome (d ∷ cs) c = worst_more (worse_outcome outcome d.outcome) cs c

-- of one more text its line is added, and the worse outcome counts
pub one_more : (ruling : RulingOut) (reading : Reading) (least : ℕ) (form : Form) {texts : List Named} {before : Outcome} {lines : List ℕ} {text : Named} {outcome : Outcome} {line : List ℕ}
    → AnswersEach ruling reading least form texts before lines → AnswersOne ruling reading least form text outcome line
    → AnswersEach ruling reading least form (texts ++ text ∷ []) (worse_outcome before outcome) (lines ++ line)
one_more ruling reading least form {texts} {before} {lines} {text} {outcome} {line} each one =
    let more : CheckedText = record { text = text; outcome = outcome; line = line } in
    record {
      checked = each.checked ++ more ∷ [];
      each = ap (λ ts. ts ++ text ∷ []) each.each ∙ sym (map-append (λ (c : CheckedText). c.text) each.checked (more ∷ []));
      answered = All-push (λ (c : CheckedText). AnswersOne ruling reading least form c.text c.outcome c.line) each.checked more each.answered one;
      lines = ap (λ ls. ls ++ line) each.lines ∙ flat_map_more (λ (c : CheckedText). c.line) [] each.checked more;
      worst = ap (λ o. worse_outcome o outcome) each.worst ∙ sym (worst_more (Answered Yes) each.checked more);
    }

-- what is written of a text answers it, with an outcome of its status and the number of its calls
pub answers_one : (ruling : RulingOut) (reading : Reading) (least : ℕ) (form : Form) (name : List ℕ) (input : Option (List ℕ)) (it : Written) (outcome : Outcome)
    → IsWrittenOf ruling reading form name input it → status_of outcome ≡ it.status → ((bytes : List ℕ) → CountsCalls bytes it.status it.calls → IsJudged least bytes outcome)
    → AnswersOne ruling reading least form (name, input) outcome it.text.items
answers_one ruling reading least form name input it outcome written same judged = record {
  line = written.line;
  named = written.named;
  answers = subst (λ (s : Status). AnswersInput ruling reading input s written.line) (sym same) written.answers;
  judged = IfSome_then input written.counted judged;
}

-- a check that ended came to what it returned
pub has_come : (ruling : RulingOut) (reading : Reading) (form : Form) (workers : ℕ) (name : List ℕ) (input : Option (List ℕ)) (r : Result Written StreamFault)
    → IfOk r (IsWrittenOf ruling reading form name input) → IfErr r IsCheckFault → (workers ≡ 1 → IfErr r IsReadingFault)
    → HasCome ruling reading form workers name input (Some r)
has_come ruling reading form workers name input (Ok it) written fault alone = written
has_come ruling reading form workers name input (Err it) written fault alone = (fault, alone)

-- of one more of the texts its line is added, which is written of it, as it is judged
pub one_more_written : {S : Type 0} (remaining : S → Option (List ℕ)) (ruling : RulingOut) (reading : Reading) (least : ℕ) (form : Form) (texts : List (NamedText S)) (i : ℕ) (d : NamedText S)
    {before : Outcome} {lines : List ℕ} (it : Written) (outcome : Outcome) → i < length texts
    → AnswersEach ruling reading least form (map (named_of remaining) (take i texts)) before lines
    → IsWrittenOf ruling reading form (get_or texts i d).name.now (remaining (get_or texts i d).source) it → status_of outcome ≡ it.status
    → ((bytes : List ℕ) → CountsCalls bytes it.status it.calls → IsJudged least bytes outcome)
    → AnswersEach ruling reading least form (map (named_of remaining) (take (i + 1) texts)) (worse_outcome before outcome) (lines ++ it.text.items)
one_more_written remaining ruling reading least form texts i d {before} {lines} it outcome within each written same judged =
    let text = get_or texts i d in
    let one = answers_one ruling reading least form text.name.now (remaining text.source) it outcome written same judged in
    let more : map (named_of remaining) (take (i + 1) texts) ≡ map (named_of remaining) (take i texts) ++ named_of remaining text ∷ [] =
    ap (λ n. map (named_of remaining) (take n texts)) (add-one i) ∙ ap (map (named_of remaining)) (take-suc texts i d within)
    ∙ map-append (named_of remaining) (take i texts) (text ∷ []) in
    subst (λ ts. AnswersEach ruling reading least form ts (worse_outcome before outcome) (lines ++ it.text.items)) (sym more)
    (one_more ruling reading least form each one)

-- ---- the texts of files

-- texts that are at hand keep their names
names_kept : {S : Type 0} (remaining : S → Option (List ℕ)) (texts : List (NamedText S)) → map (λ (t : Named). t.0) (map (named_of remaining) texts) ≡ map (λ t. t.name.now) texts
names_kept remaining [] = refl
names_kept remaining (t ∷ ts) = ap (λ ns. t.name.now ∷ ns) (names_kept remaining ts)

-- and that of standard input has its bytes
input_kept : {S : Type 0} (remaining : S → Option (List ℕ)) (input : Option (List ℕ)) (texts : List (NamedText S))
    → All (λ (t : NamedText S). names_input (Some t.name.now) ≡ true → remaining t.source ≡ input) texts
    → All (λ (t : Named). names_input (Some t.0) ≡ true → t.1 ≡ input) (map (named_of remaining) texts)
input_kept remaining input [] all = All-nil (λ (t : Named). names_input (Some t.0) ≡ true → t.1 ≡ input)
input_kept remaining input (t ∷ ts) all =
    All-cons (λ (t : Named). names_input (Some t.0) ≡ true → t.1 ≡ input) (named_of remaining t) (map (named_of remaining) ts)
    (All-head (λ (t : NamedText _). names_input (Some t.name.now) ≡ true → remaining t.source ≡ input) t ts all)
    (input_kept remaining input ts (All-tail (λ (t : NamedText _). names_input (Some t.name.now) ≡ true → remaining t.source ≡ input) t ts all))

pub of_files : {S : Type 0} (remaining : S → Option (List ℕ)) (names : List (List ℕ)) (input : Option (List ℕ)) (texts : List (NamedText S))
    → map (λ t. t.name.now) texts ≡ names → All (λ (t : NamedText S). names_input (Some t.name.now) ≡ true → remaining t.source ≡ input) texts
    → AreOfFiles names input (map (named_of remaining) texts)
of_files remaining names input texts named all = record {
  names = names_kept remaining texts ∙ named;
  input = input_kept remaining input texts all;
}
