use Rattle.std.proofs.Common.{◌≡◌, Bor, List, Option, Result, Some, ap, map, true, ℕ}
use Rattle.std.specs.List.{All}
use Rattle.std.specs.Prelude.{IfOk}
use Rattle.std.proofs.lemmas.List.Elements.{All-weaker}
use Rattle.std.proofs.lemmas.Result.{IfOk-weaker}
use Rattle.readings.specs.declared.reading.Reading.{Reading}
use Rattle.evidence.specs.declared.ruling_out.RulingOut.{RulingOut as Ruling}
use Rattle.stream_io.specs.Written.{HasAnswer}
use Rattle.stream_io.specs.declared.stream_fault.StreamFault.{StreamFault}
use Rattle.casbench.proofs.EachLemmas.{of_files}
use Rattle.casbench.specs.Each.{AnswersEach, AreOfFiles, Named, named_of, or_input}
use Rattle.casbench.specs.Input.{names_input}
use Rattle.casbench.specs.aids.Source.{remaining_of}
use Rattle.casbench.specs.declared.files.Source.{Source}
use Rattle.casbench.specs.declared.files.Source.TheVariants.{Input}
use Rattle.command_line.specs.declared.form.Form.{Form}
use Rattle.casbench.specs.declared.named_text.NamedText.{NamedText}
use Rattle.casbench.specs.declared.outcome.Outcome.{Outcome}
use Rattle.casbench.proofs.check_each.check_files.Goals as goal

-- texts that are opened are those of their files, and of the input
texts_of_files : {F I : Type 0} (file : F → Option (List ℕ)) (rest : I → Option (List ℕ)) (input : I) (texts : List (NamedText (Source F I))) (names : List (List ℕ))
    → map (λ t. t.name.now) texts ≡ names → All (λ (t : NamedText (Source F I)). names_input (Some t.name.now) ≡ true → t.source ≡ Input input) texts
    → AreOfFiles names (rest input) (map (named_of (remaining_of file rest)) texts)
texts_of_files file rest input texts names named all =
    let remaining = remaining_of file rest in
    let P : NamedText (Source _ _) → Type 0 = λ t. names_input (Some t.name.now) ≡ true → t.source ≡ Input input in
    let Q : NamedText (Source _ _) → Type 0 = λ t. names_input (Some t.name.now) ≡ true → remaining t.source ≡ rest input in
    of_files remaining names (rest input) texts named (All-weaker P Q (λ t from is. ap remaining (from is)) texts all)

-- what is written of texts of files is written of the files, and of the input
each_of_files : {F I : Type 0} (file : F → Option (List ℕ)) (rest : I → Option (List ℕ)) (input : I) (result : Result Outcome StreamFault) (texts : List (NamedText (Source F I)))
    (names : List (List ℕ)) (ruling : Ruling) (reading : Reading) (least : ℕ) (form : Form) (old new : Option (List ℕ)) → map (λ t. t.name.now) texts ≡ names
    → All (λ (t : NamedText (Source F I)). names_input (Some t.name.now) ≡ true → t.source ≡ Input input) texts
    → IfOk result (λ outcome. HasAnswer (AnswersEach ruling reading least form (map (named_of (remaining_of file rest)) texts) outcome) old new)
    → IfOk result (λ outcome. (ts : List Named) × AreOfFiles names (rest input) ts × HasAnswer (AnswersEach ruling reading least form ts outcome) old new)
each_of_files file rest input result texts names ruling reading least form old new named all answered =
    IfOk-weaker result _ _ (λ outcome has. (map (named_of (remaining_of file rest)) texts, texts_of_files file rest input texts names named all, has)) answered

pub returns-clause-answered : goal.returns-clause-answered
returns-clause-answered g c =
    let made = c.in_ok-texts in
    each_of_files _ g.I.Read.remaining c.args.input c.check_each.result made.texts.items (or_input (map (λ (f : Bor (List ℕ)). f.now) c.args.files.now))
    c.args.task.options.ruling_out c.args.task.options.reading c.args.task.at_least c.args.form (g.W.Write.contents c.args.writer.now) (g.W.Write.contents c.check_each.new.writer)
    made.ensures.names made.ensures.input c.check_each.ensures.answered

pub returns-clause-cut_off : goal.returns-clause-cut_off
returns-clause-cut_off g c = λ cut.
    let made = c.in_ok-texts in (
      map (named_of (remaining_of _ g.I.Read.remaining)) made.texts.items,
      texts_of_files _ g.I.Read.remaining c.args.input made.texts.items (or_input (map (λ (f : Bor (List ℕ)). f.now) c.args.files.now)) made.ensures.names made.ensures.input,
      c.check_each.ensures.cut_off cut,
    )
