-- What the arguments of the command line ask for. `Request` is what the code made of them.
use Rattle.std.specs.Prelude.{ℕ, ◌==◌, Bool, true, false, List, Option, Some, None, ◌&&◌, ◌++◌, ◌^◌, codes, if◌then◌else◌, [], ◌∷◌, length, map, nat_lt, option_and_then, option_map, slice_get, unwrap_or}
use Rattle.std.specs.Char.{digit_value}
use Rattle.std.specs.List.{after_first, before_first, list_all, position_or_len}
use Rattle.std.specs.Str.{bytes_eq}
use Rattle.std.specs.Str.Parse.{digits_value, without_leading_plus}
use Rattle.clap.specs.Simple.{on_top}
use Rattle.clap.specs.Words.{App, Kinds, Row, Rule, Text, all_of, first_of, fault_of, new_app, new_rule, subcommand_of, with_rule, with_subcommand}
use Rattle.clap.specs.declared.builder.action.ArgAction.TheVariants.{Append, SetTrue}
use Rattle.clap.specs.declared.builder.value_parser.ValueParser.TheVariants as parser
use Rattle.evidence.specs.declared.ruling_out.RulingOut.{RulingOut}
use Rattle.evidence.specs.declared.ruling_out.RulingOut.TheVariants.{Off, On}
use Rattle.history.specs.declared.text_rules.Failed.{Failed}
use Rattle.history.specs.declared.text_rules.Failed.TheVariants as failed
use Rattle.history.specs.declared.text_rules.Writes.{Writes}
use Rattle.history.specs.declared.text_rules.Writes.TheVariants as writes
use Rattle.readings.specs.declared.reading.ConflictReading.{ConflictReading}
use Rattle.readings.specs.declared.reading.ConflictReading.TheVariants as conflict
use Rattle.readings.specs.declared.reading.Gets.{Gets}
use Rattle.readings.specs.declared.reading.Gets.TheVariants as gets
use Rattle.readings.specs.declared.reading.Reading.{Reading}
use Rattle.readings.specs.Reading.{opensearch_reading, strict_reading}
use Rattle.repl_group.specs.declared.fault.Fault.{Fault}
use Rattle.repl_group.specs.declared.fault.Fault.TheVariants as fault
use Rattle.disturbances.specs.declared.disturbance.Disturbance.{Disturbance}
use Rattle.disturbances.specs.declared.disturbance.Disturbance.TheVariants as by
use Rattle.recorded_runs.specs.declared.manner.Manner.{Manner}
use Rattle.recorded_runs.specs.declared.manner.Playing.{Playing}
use Rattle.recorded_runs.specs.declared.manner.Playing.TheVariants.{OnThreads, InTurns}
use Rattle.recorded_runs.specs.declared.run_setting.RunSetting.{RunSetting}
use Rattle.recorded_runs.specs.Range.{seeds_between}
use Rattle.command_line.specs.declared.form.Form.{Form}
use Rattle.command_line.specs.declared.form.Form.TheVariants.{Lines, Objects}
use Rattle.command_line.specs.declared.page_request.Drawn.{Drawn}
use Rattle.command_line.specs.declared.page_request.PageRequest.{PageRequest}
use Rattle.command_line.specs.declared.profile.Profile.{Profile}
use Rattle.command_line.specs.declared.profile.Profile.TheVariants.{Strict, OpenSearch}
use Rattle.command_line.specs.declared.request.Request.{Request}
use Rattle.command_line.specs.declared.request.Request.TheVariants as request

-- A document that is drawn: its id, and the first and the last of the lines on which the calls are.
-- Source: profile.
pub record AskedDrawing : Type 0 where
  pub document : Text
  pub lines : ℕ × ℕ

-- A page: its file, and the document that is drawn on it, if one is.
-- Source: profile.
pub record AskedPage : Type 0 where
  pub path : Text
  pub drawn : Option AskedDrawing

-- What is asked for.
-- Source: profile.
pub data Asked : Type 0 where
  -- a check of a history, in the named file or in standard input, with a reading, a number of workers, whether
  -- documents are checked for being ruled out, and the least number of calls that is asked for
  ToCheck : Option Text → Reading → ℕ → RulingOut → ℕ → Asked
  -- the same of each of some files, in this order, or of standard input if there is none, answered in a form
  ToCheckEach : List Text → Form → Reading → ℕ → RulingOut → ℕ → Asked
  -- a witness of a history, in the same way, without workers; or why there is none, in a form
  ToWitness : Option Text → Form → Reading → RulingOut → Asked
  -- a check of a witness against a history, of two files, answered in a form, with a reading
  ToVerify : Text → Text → Form → Reading → Asked
  -- the lines of a bulk's body and its reply, of two files, the calls numbered from a number on
  ToWriteBulk : Text → Text → ℕ → Asked
  -- a run with a setting, in a manner
  ToRun : RunSetting → Manner → Asked
  -- runs in turns from the first seed to the last, with a setting, under a disturbance, until one is found
  -- for which no order was found
  ToSearch : ℕ → ℕ → RunSetting → Disturbance → Asked
  -- a check that is explained, in a form, with what a check has but the least number of calls, and with a page or
  -- none
  ToExplain : Option Text → Form → Reading → ℕ → RulingOut → Option AskedPage → Asked

-- the document that is drawn, as the code has it
abbrev pub drawing_asked : Drawn → AskedDrawing
drawing_asked drawn = record { document = drawn.document.now; lines = (drawn.lines.first, drawn.lines.last) }

-- the page, as the code has it
abbrev pub page_asked : PageRequest → AskedPage
page_asked page = record { path = page.path.now; drawn = option_map drawing_asked page.drawn }

-- the same as the code has it
abbrev pub asked_by : Request → Asked
asked_by (request.Check file reading workers ruling at_least) = ToCheck (option_map (λ f. f.now) file) reading workers ruling at_least
asked_by (request.CheckEach files form reading workers ruling at_least) = ToCheckEach (map (λ f. f.now) files.items) form reading workers ruling at_least
asked_by (request.Witness file form reading ruling) = ToWitness (option_map (λ f. f.now) file) form reading ruling
asked_by (request.Verify history witness form reading) = ToVerify history.now witness.now form reading
asked_by (request.Bulk body reply first) = ToWriteBulk body.now reply.now first
asked_by (request.Run setting manner) = ToRun setting manner
asked_by (request.Search seeds setting disturbance) = ToSearch seeds.first seeds.last setting disturbance
asked_by (request.Explain file form reading workers ruling page) = ToExplain (option_map (λ f. f.now) file) form reading workers ruling (option_map page_asked page)

-- the profile of this name: `strict`, which it is if no name is given, or `opensearch`; nothing of another name
-- Source: profile.
abbrev pub profile_named : Option Text → Option Profile
profile_named None = Some Strict
profile_named (Some name) =
    if bytes_eq name (codes "strict") then Some Strict
    else (if bytes_eq name (codes "opensearch") then Some OpenSearch else None)

-- the profile that arguments ask for
abbrev pub profile_of : List Row → Option Profile
profile_of rows = profile_named (first_of (codes "profile") rows)

-- the reading of a profile
abbrev pub profile_reading : Profile → Reading
profile_reading Strict = strict_reading
profile_reading OpenSearch = opensearch_reading

-- what a reply to a get shows, by this name: `last` or `any`; the usual if no name is given; nothing of another
-- name
-- Source: profile.
abbrev pub gets_named : Gets → Option Text → Option Gets
gets_named usual None = Some usual
gets_named usual (Some name) =
    if bytes_eq name (codes "last") then Some gets.Last
    else (if bytes_eq name (codes "any") then Some gets.Any else None)

-- what a conflict shows, by this name: `plain`, `maybe` or `unknown`; the usual if no name is given; nothing of
-- another name
-- Source: profile.
abbrev pub conflicts_named : ConflictReading → Option Text → Option ConflictReading
conflicts_named usual None = Some usual
conflicts_named usual (Some name) =
    if bytes_eq name (codes "plain") then Some conflict.Plain
    else (if bytes_eq name (codes "maybe") then Some conflict.Maybe
    else (if bytes_eq name (codes "unknown") then Some conflict.Unknown else None))

-- how often a write is performed, by this name: `once` or `repeated`; the usual if no name is given; nothing of
-- another name
-- Source: profile.
abbrev pub writes_named : Writes → Option Text → Option Writes
writes_named usual None = Some usual
writes_named usual (Some name) =
    if bytes_eq name (codes "once") then Some writes.Once
    else (if bytes_eq name (codes "repeated") then Some writes.Repeated else None)

-- what a lost line says that is marked as void, by this name: `lost` or `trusted`; the usual if no name is given;
-- nothing of another name
-- Source: profile.
abbrev pub failed_named : Failed → Option Text → Option Failed
failed_named usual None = Some usual
failed_named usual (Some name) =
    if bytes_eq name (codes "lost") then Some failed.Lost
    else (if bytes_eq name (codes "trusted") then Some failed.Trusted else None)

-- the usual reading, but for what arguments name of it; nothing if one of the names is unknown
-- Source: profile.
abbrev pub reading_with : Reading → List Row → Option Reading
reading_with usual rows =
    option_and_then (λ g. option_and_then (λ c. option_and_then (λ w. option_map (λ f. record { gets = g; conflicts = c; writes = w; failed = f })
    (failed_named usual.failed (first_of (codes "failed") rows))) (writes_named usual.writes (first_of (codes "writes") rows)))
    (conflicts_named usual.conflicts (first_of (codes "conflicts") rows))) (gets_named usual.gets (first_of (codes "gets") rows))

-- the reading that arguments ask for: that of the profile, but for what is named beside it; nothing if a name is
-- unknown
-- Source: profile.
abbrev pub reading_of : List Row → Option Reading
reading_of rows = option_and_then (λ profile. reading_with (profile_reading profile) rows) (profile_of rows)

-- a number below 2^64: digits, with or without a plus before them
-- Source: profile.
abbrev pub is_number : Text → Bool
is_number text =
    let digits = without_leading_plus text in
    (nat_lt 0 (length digits) && list_all (λ c. nat_lt (digit_value c) 10) digits) && nat_lt (digits_value 10 digits) (2 ^ 64)

-- the number that is given, or another one if none is; none if the text is no number
-- Source: profile.
abbrev pub number_or : ℕ → Option Text → Option ℕ
number_or other None = Some other
number_or other (Some text) = if is_number text then Some (digits_value 10 (without_leading_plus text)) else None

-- whether an option without a value is given, whose text is then `true`
-- Source: profile.
abbrev pub flag_given : Option Text → Bool
flag_given None = false
flag_given (Some text) = bytes_eq text (codes "true")

-- Objects if the option `--json` is given, otherwise Lines
abbrev pub form_given : Option Text → Form
form_given text = if flag_given text then Objects else Lines

-- On under the profile `opensearch`; under the strict one On if the option `--rule-out` is given, otherwise Off
-- Source: profile.
abbrev pub ruling_by : Profile → Option Text → RulingOut
ruling_by OpenSearch text = On
ruling_by Strict text = if flag_given text then On else Off

-- whether documents are checked for being ruled out, as arguments ask; nothing if the name of the profile is unknown
abbrev pub ruling_of : List Row → Option RulingOut
ruling_of rows = option_map (λ profile. ruling_by profile (first_of (codes "rule-out") rows)) (profile_of rows)

-- the texts that the argument of this name was given, in their order
-- Source: profile.
abbrev pub texts_of : Text → List Row → List Text
texts_of name rows = unwrap_or (all_of name rows) []

-- a check of the one file, or of standard input, if the form is Lines and there are fewer than two files; else a check of
-- each of them
-- Source: profile.
abbrev pub to_check : Form → List Text → Reading → ℕ → RulingOut → ℕ → Asked
to_check Objects files reading workers ruling at_least = ToCheckEach files Objects reading workers ruling at_least
to_check Lines files reading workers ruling at_least =
    if nat_lt (length files) 2 then ToCheck (slice_get files 0) reading workers ruling at_least
    else ToCheckEach files Lines reading workers ruling at_least

-- the check of these files that arguments ask for, by one worker if no number is given, and of 0 calls or
-- more if no least number is; nothing if a name of the reading is unknown, or one of the numbers is none
abbrev pub checked_of : List Text → List Row → Option Asked
checked_of files rows =
    option_and_then (λ reading. option_and_then (λ n. option_and_then (λ ruling. option_map (λ at_least. to_check (form_given (first_of (codes "json") rows)) files reading n ruling at_least)
    (number_or 0 (first_of (codes "at-least") rows))) (ruling_of rows)) (number_or 1 (first_of (codes "workers") rows))) (reading_of rows)

-- the check that arguments ask for, of the files that they name
abbrev pub check_of : List Row → Option Asked
check_of rows = checked_of (texts_of (codes "history") rows) rows

-- the number that is given; none if none is given or the text is no number
abbrev pub number_given : Option Text → Option ℕ
number_given None = None
number_given (Some text) = number_or 0 (Some text)

-- a minus sign
-- Source: profile.
abbrev pub is_minus : ℕ → Bool
is_minus c = c == 45

-- The numbers of a text A-B: on both sides of the first minus sign are numbers below 2^64, and the first is not
-- above the last.
-- Source: profile.
abbrev pub range_named : Text → Option (ℕ × ℕ)
range_named text =
    if nat_lt (position_or_len is_minus text) (length text)
    then option_and_then (λ first. option_and_then (λ last. seeds_between first last) (number_given (Some (after_first is_minus text)))) (number_given (Some (before_first is_minus text)))
    else None

-- all lines of a text
abbrev pub all_lines : ℕ × ℕ
all_lines = (1, 18446744073709551615)

-- a page on which these lines of a document are drawn
abbrev pub page_by : Text → Text → ℕ × ℕ → AskedPage
page_by path document lines = record { path = path; drawn = Some (record { document = document; lines = lines }) }

-- The page by the texts of `--html`, `--document` and `--lines`: none if none of them is given; nothing if a
-- document is named without a page, or lines without a document, or if they are no two numbers A-B. Without
-- lines all are drawn.
-- Source: profile.
abbrev pub pages_of : Option Text → Option Text → Option Text → Option (Option AskedPage)
pages_of None None None = Some None
pages_of (Some path) None None = Some (Some (record { path = path; drawn = None }))
pages_of (Some path) (Some document) None = Some (Some (page_by path document all_lines))
pages_of (Some path) (Some document) (Some lines) = option_map (λ named. Some (page_by path document named)) (range_named lines)
pages_of _ _ _ = None

-- the page that arguments ask for, or none
abbrev pub page_of : List Row → Option (Option AskedPage)
page_of rows = pages_of (first_of (codes "html") rows) (first_of (codes "document") rows) (first_of (codes "lines") rows)

-- the same for a check that is explained, without a least number, and with the page
abbrev pub explain_of : List Row → Option Asked
explain_of rows =
    option_and_then (λ reading. option_and_then (λ n. option_and_then (λ ruling. option_map (λ page. ToExplain (first_of (codes "history") rows) (form_given (first_of (codes "json") rows)) reading n ruling page)
    (page_of rows)) (ruling_of rows)) (number_or 1 (first_of (codes "workers") rows))) (reading_of rows)

-- the witness that arguments ask for; nothing if a name of the reading is unknown
abbrev pub witness_of : List Row → Option Asked
witness_of rows =
    option_and_then (λ reading. option_map (λ ruling. ToWitness (first_of (codes "history") rows) (form_given (first_of (codes "json") rows)) reading ruling) (ruling_of rows)) (reading_of rows)

-- the check of a witness that arguments ask for, if both files are named; nothing if a name of the reading is
-- unknown
abbrev pub verify_of : List Row → Option Asked
verify_of rows =
    option_and_then (λ history. option_and_then (λ witness. option_map (λ reading. ToVerify history witness (form_given (first_of (codes "json") rows)) reading) (reading_of rows))
    (first_of (codes "witness") rows)) (first_of (codes "history") rows)

-- the lines of a bulk that arguments ask for, if both files are named; the calls are numbered from 0 if no
-- number is given; nothing if the text that is given is no number
abbrev pub bulk_of : List Row → Option Asked
bulk_of rows =
    option_and_then (λ body. option_and_then (λ reply. option_map (λ n. ToWriteBulk body reply n) (number_or 0 (first_of (codes "first") rows))) (first_of (codes "reply") rows)) (first_of (codes "body") rows)

-- the number that is given, if it is below 2^32; none if none is
abbrev pub small_given : Option Text → Option ℕ
small_given text = option_and_then (λ n. if nat_lt n (2 ^ 32) then Some n else None) (number_given text)

-- the fault of a group of this name: `none`, `dirty`, `early`, `same-term`, `stale` or `blind`; none of
-- another name
-- Source: profile.
abbrev pub fault_named : Text → Option Fault
fault_named name =
    if bytes_eq name (codes "none") then Some fault.None
    else (if bytes_eq name (codes "dirty") then Some fault.Dirty
    else (if bytes_eq name (codes "early") then Some fault.Early
    else (if bytes_eq name (codes "same-term") then Some fault.SameTerm
    else (if bytes_eq name (codes "stale") then Some fault.Stale
    else (if bytes_eq name (codes "blind") then Some fault.Blind else None)))))

-- what a run is made with, if each number is given and the fault is named
abbrev pub setting_given : Option ℕ → List Row → Option RunSetting
setting_given seed rows =
    option_and_then (λ s. option_and_then (λ a. option_and_then (λ b. option_and_then (λ d. option_and_then (λ e.
    option_map (λ f. record { seed = s; clients = a; calls = b; docs = d; copies = e; fault = f }) (option_and_then fault_named (first_of (codes "fault") rows)))
    (small_given (first_of (codes "copies") rows))) (small_given (first_of (codes "docs") rows))) (small_given (first_of (codes "calls") rows)))
    (small_given (first_of (codes "clients") rows))) seed

-- the disturbance of this name: `none`, which it is if no name is given, `cuts`, `promotions` or `storm`
-- Source: profile.
abbrev pub disturbance_named : Option Text → Option Disturbance
disturbance_named None = Some by.None
disturbance_named (Some name) =
    if bytes_eq name (codes "none") then Some by.None
    else (if bytes_eq name (codes "cuts") then Some by.Cuts
    else (if bytes_eq name (codes "promotions") then Some by.Promotions
    else (if bytes_eq name (codes "storm") then Some by.Storm else None)))

-- InTurns if the option `--in-turns` is given, otherwise OnThreads
abbrev pub playing_given : Option Text → Playing
playing_given text = if flag_given text then InTurns else OnThreads

-- how a run goes, if the disturbance is named or none is
abbrev pub manner_given : List Row → Option Manner
manner_given rows =
    option_map (λ d. record { playing = playing_given (first_of (codes "in-turns") rows); disturbance = d }) (disturbance_named (first_of (codes "disturb") rows))

-- one run with that seed and the setting, in the manner of the arguments
abbrev pub one_run_of : Option Text → List Row → Option Asked
one_run_of seed rows = option_and_then (λ setting. option_map (λ manner. ToRun setting manner) (manner_given rows)) (setting_given (number_given seed) rows)

-- runs with these seeds, of which the first is that of the setting, under the disturbance of the arguments
-- Source: profile.
abbrev pub search_among : ℕ × ℕ → List Row → Option Asked
search_among seeds rows =
    option_and_then (λ setting. option_map (λ disturbance. ToSearch seeds.0 seeds.1 setting disturbance) (disturbance_named (first_of (codes "disturb") rows)))
    (setting_given (Some seeds.0) rows)

-- runs with the seeds that are named, until one is refuted or gets `no`, if `refuted` is searched for;
-- nothing for another text, or if no seeds are named
-- Source: profile.
abbrev pub search_of : Text → Text → List Row → Option Asked
search_of until seeds rows =
    if bytes_eq until (codes "refuted") then option_and_then (λ named. search_among named rows) (range_named seeds) else None

-- One run if neither what is searched for nor seeds are given; a search if both are, and no seed; otherwise
-- nothing.
-- Source: profile.
abbrev pub runs_of : Option Text → Option Text → Option Text → List Row → Option Asked
runs_of seed None None rows = one_run_of seed rows
runs_of None (Some until) (Some seeds) rows = search_of until seeds rows
runs_of _ _ _ rows = None

-- the run or the search that arguments ask for
-- Source: profile.
abbrev pub run_of : List Row → Option Asked
run_of rows = runs_of (first_of (codes "seed") rows) (first_of (codes "until") rows) (first_of (codes "seeds") rows) rows

-- what the command of this name asks for, given what its arguments have: `check`, `witness`, `verify`,
-- `bulk`, `run` or `explain`; nothing of another name
-- Source: profile.
abbrev pub request_of_command : Text → List Row → Option Asked
request_of_command name rows =
    if bytes_eq name (codes "check") then check_of rows
    else (if bytes_eq name (codes "witness") then witness_of rows
    else (if bytes_eq name (codes "verify") then verify_of rows
    else (if bytes_eq name (codes "bulk") then bulk_of rows
    else (if bytes_eq name (codes "run") then run_of rows
    else (if bytes_eq name (codes "explain") then explain_of rows else None)))))

-- what a command asks for; without a command it is a check of standard input by one worker, with the strict reading
-- Source: profile.
abbrev pub asked_of : Option (Text × List Row) → Option Asked
asked_of None = Some (ToCheck None strict_reading 1 Off 0)
asked_of (Some command) = request_of_command command.0 command.1

-- ---- the command line

-- an argument with one value, by its position
-- Source: profile.
abbrev pub file_rule : Text → Rule
file_rule name = record (new_rule name) { value_names = 1 }

-- an argument with one value or more, by its position
-- Source: profile.
abbrev pub files_rule : Text → Rule
files_rule name = record (file_rule name) { action = Some Append }

-- an argument with one value, by its position, which is required
-- Source: profile.
abbrev pub needed_rule : Text → Rule
needed_rule name = record (file_rule name) { required = true }

-- an option with a value, of this name, which may be left out
-- Source: profile.
abbrev pub option_rule : Text → Rule
option_rule name = record (file_rule name) { long = Some name }

-- the same, which is required
-- Source: profile.
abbrev pub needed_option_rule : Text → Rule
needed_option_rule name = record (option_rule name) { required = true }

-- an option with a number from the one to the other, of this name, which may be left out
-- Source: profile.
abbrev pub number_rule : Text → ℕ → ℕ → Rule
number_rule name least most = record (option_rule name) { parser = Some (parser.Unsigned least most) }

-- the same, which is required
-- Source: profile.
abbrev pub needed_number_rule : Text → ℕ → ℕ → Rule
needed_number_rule name least most = record (number_rule name least most) { required = true }

-- a required number below 2^32, of this name
-- Source: profile.
abbrev pub small_rule : Text → Rule
small_rule name = needed_number_rule name 0 4294967295

-- an option without a value, of this name, which may be left out
-- Source: profile.
abbrev pub switch_rule : Text → Rule
switch_rule name = record (new_rule name) { long = Some name; action = Some SetTrue }

-- a command with these arguments after its own, in this order
-- Source: profile.
abbrev pub with_rules : App → List Rule → App
with_rules command [] = command
with_rules command (r ∷ rs) = with_rules (with_rule command r) rs

-- the options of a reading: `--profile`, `--gets`, `--conflicts`, `--writes` and `--failed`
-- Source: profile.
abbrev pub reading_rules : List Rule
reading_rules = option_rule (codes "profile") ∷ option_rule (codes "gets") ∷ option_rule (codes "conflicts") ∷ option_rule (codes "writes") ∷ option_rule (codes "failed") ∷ []

-- the command `check`, which takes histories, which may be left out, the options of a reading, `--workers`, from 1
-- to 16, `--rule-out`, `--at-least`, below 2^64, and `--json`
-- Source: profile.
abbrev pub check_command : App
check_command =
    with_rules (new_app (codes "check"))
    (files_rule (codes "history") ∷ reading_rules
    ++ (number_rule (codes "workers") 1 16 ∷ switch_rule (codes "rule-out") ∷ number_rule (codes "at-least") 0 18446744073709551615 ∷ switch_rule (codes "json") ∷ []))

-- the command `explain`, which takes a history, which may be left out, the options of a reading, `--workers`, from 1
-- to 16, `--rule-out`, the options of a page, which are `--html`, `--document` and `--lines`, and `--json`
-- Source: profile.
abbrev pub explain_command : App
explain_command =
    with_rules (new_app (codes "explain"))
    (file_rule (codes "history") ∷ reading_rules
    ++ (number_rule (codes "workers") 1 16 ∷ switch_rule (codes "rule-out") ∷ option_rule (codes "html") ∷ option_rule (codes "document") ∷ option_rule (codes "lines") ∷ switch_rule (codes "json") ∷ []))

-- the command `witness`, which takes a history, which may be left out, the options of a reading, `--rule-out` and
-- `--json`
-- Source: profile.
abbrev pub witness_command : App
witness_command = with_rules (new_app (codes "witness")) (file_rule (codes "history") ∷ reading_rules ++ (switch_rule (codes "rule-out") ∷ switch_rule (codes "json") ∷ []))

-- the command `verify`, which takes a history and a witness, both required, the options of a reading and `--json`
-- Source: profile.
abbrev pub verify_command : App
verify_command = with_rules (new_app (codes "verify")) (needed_rule (codes "history") ∷ needed_rule (codes "witness") ∷ reading_rules ++ (switch_rule (codes "json") ∷ []))

-- the command `bulk`, which takes a body and a reply, both required, and `--first`, below 2^64
-- Source: profile.
abbrev pub bulk_command : App
bulk_command = with_rules (new_app (codes "bulk")) (needed_rule (codes "body") ∷ needed_rule (codes "reply") ∷ number_rule (codes "first") 0 18446744073709551615 ∷ [])

-- The command `run`. It takes what the clients do: `--seed`, below 2^64, which may be left out, and `--clients` and
-- `--calls`, below 2^32, both required; what the group is: `--docs` and `--copies`, below 2^32, and `--fault`, all
-- required; how the run goes: `--in-turns` and `--disturb`; and which seeds are tried: `--until` and `--seeds`.
-- Source: profile.
abbrev pub run_command : App
run_command =
    with_rules (new_app (codes "run"))
    (number_rule (codes "seed") 0 18446744073709551615 ∷ small_rule (codes "clients") ∷ small_rule (codes "calls") ∷ small_rule (codes "docs") ∷ small_rule (codes "copies") ∷ needed_option_rule (codes "fault")
    ∷ switch_rule (codes "in-turns") ∷ option_rule (codes "disturb") ∷ option_rule (codes "until") ∷ option_rule (codes "seeds") ∷ [])

-- `casbench`, which has a version
-- Source: profile.
abbrev pub named_line : App
named_line = on_top (λ s. record s { has_version = true }) (new_app (codes "casbench"))

-- a program with these commands after its own, in this order
-- Source: profile.
abbrev pub with_commands : App → List App → App
with_commands program [] = program
with_commands program (c ∷ cs) = with_commands (with_subcommand program c.top) cs

-- the commands, in the order of the help
-- Source: profile.
abbrev pub all_commands : List App
all_commands = check_command ∷ witness_command ∷ verify_command ∷ bulk_command ∷ run_command ∷ explain_command ∷ []

-- `casbench` with its six commands
-- Source: profile.
abbrev pub command_line : App
command_line = with_commands named_line all_commands

-- what the arguments ask for, the first of which is the program's name
-- Source: profile.
unfoldable pub asked_on : List Text → Option Asked
asked_on line = asked_of (subcommand_of command_line line)

-- the fault of the arguments, as the kinds of error that they may be reported with; none if they are accepted
-- Source: profile.
unfoldable pub faults_on : List Text → Kinds
faults_on line = fault_of command_line line
