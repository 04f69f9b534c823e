use Rattle.std.proofs.Common.{arith, rules, ℕ, List, Option, Result, ◌≡◌, ◌<◌, ◌+◌, ◌++◌, ◌∷◌, ◌∙◌, [], ap, inl, inr, length, subst, sym, Ok, Err, IfOk, IfSome, OnOk}
use Rattle.std.specs.Prelude.{IfErr, MatchResult, OnSome}
use Rattle.std.specs.Io.KnownBytes.{IsAtEnd, Keeps, prepend_known}
use Rattle.std.proofs.KnownBytes.{prepend_known-nil}
use Rattle.serde_json.specs.Data.{Data}
use Rattle.api_lines.proofs.InputLemmas.{IsReadOn, next_counts, none_taken, on_all, on_end, on_kept, on_line, on_more, on_none, on_past_last, on_stop, on_stopped}
use Rattle.api_lines.specs.Faults.{IfTextReported}
use Rattle.api_lines.specs.Lines.{HasNoLineFeed, lines_of, most_lines}
use Rattle.api_lines.specs.Texts.{IsReadTo, SoFar, next_line, read_lines, so_far}
use Rattle.api_lines.proofs.LineByLine.{reads_line_by_line}
use Rattle.api_lines.specs.declared.line_reader.RefusedLine.{RefusedLine}
use Rattle.api_lines.specs.declared.text_fault.ReadFault.TheVariants as refusal
use Rattle.api_lines.specs.declared.text_fault.TextCause.{TextCause}
use Rattle.api_lines.specs.declared.text_fault.TextCause.TheVariants.{Lines}
use Rattle.api_lines.proofs.line_reader.take_lines.Goals as goal

pub returns-in_err-chunk-clause-taken : goal.returns-in_err-chunk-clause-taken
returns-in_err-chunk-clause-taken g c = none_taken g.L.LineReader.takes (g.L.LineReader.reached c.args.reader.now).state (g.R.Read.remaining c.args.input.now)

-- before the first line
begins : {S : Type 0} (takes : S → Data → Result S TextCause) (input : Option (List ℕ)) (chunk : List ℕ) (r : SoFar S)
    → chunk ≡ [] → r.lines ≡ 0 → IsReadOn takes r.state input (prepend_known chunk input) r
begins takes input chunk r empty none =
    subst (λ old. IsReadOn takes r.state input old r) (sym (ap (λ l. prepend_known l input) empty ∙ prepend_known-nil input))
    (subst (λ n. IsReadOn takes r.state input input (so_far r.state n)) (sym none) (on_none takes r.state input))

-- no line is those of the empty text
no_text : {S : Type 0} (takes : S → Data → Result S TextCause) (r : SoFar S) → r.lines ≡ 0 → (text : List ℕ) × IsReadTo takes r.state text r
no_text takes r none = ([], subst (λ n. IsReadTo takes r.state [] (so_far r.state n)) (sym none) (reads_line_by_line takes r.state).none)

-- one line more is those of a longer text
more_text : {S : Type 0} (takes : S → Data → Result S TextCause) (start : S) (line : List ℕ) (r q : SoFar S)
    → (text : List ℕ) × IsReadTo takes start text r → HasNoLineFeed line → next_line takes r line ≡ Ok q
    → (text : List ℕ) × IsReadTo takes start text q
more_text takes start line r q some unfed next =
    (some.0 ++ (line ++ 10 ∷ []), (reads_line_by_line takes start).more some.0 line r q some.1 unfed next)

pub loop-init : goal.loop-init
loop-init g c = record {
  read = begins g.L.LineReader.takes (g.R.Read.remaining c.args.input.now) c.in_ok-chunk.chunk (g.L.LineReader.reached c.args.reader.now) c.in_ok-chunk.ensures c.requires;
  count = c.requires;
  some = no_text g.L.LineReader.takes (g.L.LineReader.reached c.args.reader.now) c.requires;
}

pub returns-in_err-next_line-clause-taken : goal.returns-in_err-next_line-clause-taken
returns-in_err-next_line-clause-taken g c =
    on_stopped g.L.LineReader.takes (g.L.LineReader.reached c.args.reader.now).state (g.R.Read.remaining c.args.input.now)
    (prepend_known c.loop.chunk (g.R.Read.remaining c.loop.input)) (g.R.Read.remaining c.next_line.new.reader) c.next_line.new.chunk c.next_line.new.line.items
    (g.L.LineReader.reached c.loop.reader) c.loop.invariant.read c.in_err-next_line.ensures.err (inl c.in_err-next_line.ensures.unfed)
    c.in_err-next_line.ensures.few (inr (omega (arith, c.loop-test.true, c.loop.invariant.count))) c.in_err-next_line.ensures.brought

pub returns-then-not-branch-clause-reported : goal.returns-then-not-branch-clause-reported
returns-then-not-branch-clause-reported g c =
    on_all g.L.LineReader.takes (g.L.LineReader.reached c.args.reader.now).state (g.R.Read.remaining c.args.input.now)
    (prepend_known c.loop.chunk (g.R.Read.remaining c.loop.input)) (g.L.LineReader.reached c.loop.reader) c.loop.invariant.read
    (c.in_ok-next_line.ensures.end (ap (λ b. Ok b) c.if-not-branch.true)).0

pub returns-then-not-branch-clause-taken : goal.returns-then-not-branch-clause-taken
returns-then-not-branch-clause-taken g c =
    on_kept g.L.LineReader.takes (g.L.LineReader.reached c.args.reader.now).state (g.R.Read.remaining c.args.input.now)
    (prepend_known c.loop.chunk (g.R.Read.remaining c.loop.input)) (g.R.Read.remaining c.next_line.new.reader) c.next_line.new.chunk
    (g.L.LineReader.reached c.loop.reader) c.loop.invariant.read (c.in_ok-next_line.ensures.end (ap (λ b. Ok b) c.if-not-branch.true)).1 c.in_ok-next_line.ensures.brought

pub returns-then-not-branch-clause-end : goal.returns-then-not-branch-clause-end
returns-then-not-branch-clause-end g c =
    let ended = c.in_ok-next_line.ensures.end (ap (λ b. Ok b) c.if-not-branch.true) in
    on_end g.L.LineReader.takes (g.L.LineReader.reached c.args.reader.now).state (g.R.Read.remaining c.args.input.now)
    (prepend_known c.loop.chunk (g.R.Read.remaining c.loop.input)) (g.R.Read.remaining c.next_line.new.reader) c.next_line.new.chunk
    (g.L.LineReader.reached c.loop.reader) c.loop.invariant.read ended.0 ended.1

pub line-requires : goal.line-requires
line-requires g c = subst HasNoLineFeed (sym c.deref.ensures.value) c.in_ok-next_line.ensures.unfed

pub returns-in-Err-Text-clause-reported : goal.returns-in-Err-Text-clause-reported
returns-in-Err-Text-clause-reported g c =
    let reported : IfSome (g.R.Read.remaining c.args.input.now) (λ text. read_lines g.L.LineReader.takes 1 (g.L.LineReader.reached c.args.reader.now).state (lines_of text) ≡ Err c.in-Err-Text.fault) =
    on_stop g.L.LineReader.takes (g.L.LineReader.reached c.args.reader.now).state (g.R.Read.remaining c.args.input.now)
    (prepend_known c.loop.chunk (g.R.Read.remaining c.loop.input)) (prepend_known c.next_line.new.chunk (g.R.Read.remaining c.next_line.new.reader))
    c.next_line.new.line.items (g.L.LineReader.reached c.loop.reader) (refusal.Text c.in-Err-Text.fault) c.loop.invariant.read c.in_ok-next_line.ensures.unfed
    (c.in_ok-next_line.ensures.more (ap (λ b. Ok b) c.if-not-branch.false))
    (subst (λ l. next_line g.L.LineReader.takes (g.L.LineReader.reached c.loop.reader) l ≡ Err c.in-Err-Text.fault) c.deref.ensures.value
    (subst (λ f. IfTextReported f (λ reported. next_line g.L.LineReader.takes (g.L.LineReader.reached c.loop.reader) c.deref.result.now ≡ Err reported))
    c.in-Err-Text.field-0-is c.in-Err-Text.ensures.fault)) in
    search (rules, c.in-Err-Text.fault-is)

pub returns-in-Err-Text-clause-taken : goal.returns-in-Err-Text-clause-taken
returns-in-Err-Text-clause-taken g c =
    on_line g.L.LineReader.takes (g.L.LineReader.reached c.args.reader.now).state (g.R.Read.remaining c.args.input.now)
    (prepend_known c.loop.chunk (g.R.Read.remaining c.loop.input)) (g.R.Read.remaining c.next_line.new.reader) c.next_line.new.chunk c.next_line.new.line.items
    (g.L.LineReader.reached c.loop.reader) c.loop.invariant.read (c.in_ok-next_line.ensures.more (ap (λ b. Ok b) c.if-not-branch.false))
    c.in_ok-next_line.ensures.unfed c.in_ok-next_line.ensures.few (omega (arith, c.loop-test.true, c.loop.invariant.count)) c.in_ok-next_line.ensures.brought

pub returns-in-Err-NoMemory-clause-taken : goal.returns-in-Err-NoMemory-clause-taken
returns-in-Err-NoMemory-clause-taken g c =
    on_line g.L.LineReader.takes (g.L.LineReader.reached c.args.reader.now).state (g.R.Read.remaining c.args.input.now)
    (prepend_known c.loop.chunk (g.R.Read.remaining c.loop.input)) (g.R.Read.remaining c.next_line.new.reader) c.next_line.new.chunk c.next_line.new.line.items
    (g.L.LineReader.reached c.loop.reader) c.loop.invariant.read (c.in_ok-next_line.ensures.more (ap (λ b. Ok b) c.if-not-branch.false))
    c.in_ok-next_line.ensures.unfed c.in_ok-next_line.ensures.few (omega (arith, c.loop-test.true, c.loop.invariant.count)) c.in_ok-next_line.ensures.brought

pub loop-preserved : goal.loop-preserved
loop-preserved g c =
    let next : next_line g.L.LineReader.takes (g.L.LineReader.reached c.loop.reader) c.next_line.new.line.items ≡ Ok (g.L.LineReader.reached c.line.new.self) =
    subst (λ l. next_line g.L.LineReader.takes (g.L.LineReader.reached c.loop.reader) l ≡ Ok (g.L.LineReader.reached c.line.new.self)) c.deref.ensures.value
    c.in-Ok.ensures.ok in
    record {
      read =
          on_more g.L.LineReader.takes (g.L.LineReader.reached c.args.reader.now).state (g.R.Read.remaining c.args.input.now)
          (prepend_known c.loop.chunk (g.R.Read.remaining c.loop.input)) (prepend_known c.next_line.new.chunk (g.R.Read.remaining c.next_line.new.reader))
          c.next_line.new.line.items (g.L.LineReader.reached c.loop.reader) (g.L.LineReader.reached c.line.new.self) c.loop.invariant.read
          c.in_ok-next_line.ensures.unfed (c.in_ok-next_line.ensures.more (ap (λ b. Ok b) c.if-not-branch.false)) next c.in-Ok.ensures.within;
      count =
          next_counts g.L.LineReader.takes (g.L.LineReader.reached c.loop.reader) (g.L.LineReader.reached c.line.new.self) c.next_line.new.line.items next
          ∙ ap (λ n. n + 1) c.loop.invariant.count;
      some =
          more_text g.L.LineReader.takes (g.L.LineReader.reached c.args.reader.now).state c.next_line.new.line.items
          (g.L.LineReader.reached c.loop.reader) (g.L.LineReader.reached c.line.new.self) c.loop.invariant.some c.in_ok-next_line.ensures.unfed next;
    }

-- what is reported behind the most lines
ends : {S U E : Type 0} (takes : S → Data → Result S TextCause) (start : S) (input old : Option (List ℕ)) (r : SoFar S) (reported : Result (Result U RefusedLine) E)
    → IsReadOn takes start input old r → r.lines ≡ most_lines → IfOk reported (λ t. OnOk t (IsAtEnd old))
    → IfOk reported (λ t. IfErr t (λ refused. (refused.fault ≡ record { line = 4194305; cause = Lines }) × IfSome old (λ bytes. 0 < length bytes)))
    → IfOk reported (λ t. IfSome input (λ text. MatchResult t (λ _. read_lines takes 1 start (lines_of text) ≡ Ok r.state)
    (λ refused. read_lines takes 1 start (lines_of text) ≡ Err refused.fault)))
ends takes start input old r (Ok (Ok u)) before all end past = on_all takes start input old r before end
ends takes start input old r (Ok (Err refused)) before all end past = on_past_last takes start input old r refused.fault before all past.0 past.1
ends takes start input old r (Err fault) before all end past = tt

ends_empty : {S U E : Type 0} (takes : S → Data → Result S TextCause) (start : S) (input old rest : Option (List ℕ)) (chunk : List ℕ) (r : SoFar S)
    (reported : Result (Result U RefusedLine) E)
    → IsReadOn takes start input old r → Keeps old (prepend_known chunk rest) → IfOk reported (λ t. OnOk t (IsAtEnd old)) → IfOk reported (λ t. OnOk t (OnSome input (IsAtEnd rest)))
ends_empty takes start input old rest chunk r (Ok (Ok u)) before kept end = on_end takes start input old rest chunk r before end kept
ends_empty takes start input old rest chunk r (Ok (Err refused)) before kept end = tt
ends_empty takes start input old rest chunk r (Err fault) before kept end = tt

pub returns-clause-reported : goal.returns-clause-reported
returns-clause-reported g c =
    ends g.L.LineReader.takes (g.L.LineReader.reached c.args.reader.now).state (g.R.Read.remaining c.args.input.now)
    (prepend_known c.loop.chunk (g.R.Read.remaining c.loop.input)) (g.L.LineReader.reached c.loop.reader) c.refuse_line_past_limit.result c.loop.invariant.read
    (omega (arith, c.loop-test.false, c.loop.auto.counter-end, c.loop.invariant.count)) c.refuse_line_past_limit.ensures.end c.refuse_line_past_limit.ensures.past

pub returns-clause-taken : goal.returns-clause-taken
returns-clause-taken g c =
    on_kept g.L.LineReader.takes (g.L.LineReader.reached c.args.reader.now).state (g.R.Read.remaining c.args.input.now)
    (prepend_known c.loop.chunk (g.R.Read.remaining c.loop.input)) (g.R.Read.remaining c.refuse_line_past_limit.new.input) c.refuse_line_past_limit.new.chunk
    (g.L.LineReader.reached c.loop.reader) c.loop.invariant.read c.refuse_line_past_limit.ensures.kept c.refuse_line_past_limit.ensures.brought

pub returns-clause-end : goal.returns-clause-end
returns-clause-end g c =
    ends_empty g.L.LineReader.takes (g.L.LineReader.reached c.args.reader.now).state (g.R.Read.remaining c.args.input.now)
    (prepend_known c.loop.chunk (g.R.Read.remaining c.loop.input)) (g.R.Read.remaining c.refuse_line_past_limit.new.input) c.refuse_line_past_limit.new.chunk
    (g.L.LineReader.reached c.loop.reader) c.refuse_line_past_limit.result c.loop.invariant.read c.refuse_line_past_limit.ensures.kept c.refuse_line_past_limit.ensures.end
