-- The answer to a history that is known is one to each of its texts.
use Rattle.std.proofs.Common.{ℕ, ◌≡◌, ◌+◌, ◌≤◌, List, [], ◌∷◌, arith, refl, suc, Option, Ok, ap, length, subst, sym, ◌∙◌}
use Rattle.std.specs.Prelude.{Bool}
use Rattle.events.specs.Refusal.{most_events}
use Rattle.events.specs.declared.event.Event.{Event}
use Rattle.evidence.specs.declared.ruling_out.RulingOut.{RulingOut}
use Rattle.std.proofs.lemmas.List.Sums.{sum_by-cons}
use Rattle.events.specs.declared.event.Event.TheVariants.{Call, Reply, Lost}
use Rattle.history.specs.ByRules.{room_of, room_taken}
use Rattle.history.specs.declared.text_rules.Writes.TheVariants.{Once}
use Rattle.history.specs.Laws.{TextsAreRead, TextsAreReadByRules, without_voids}
use Rattle.history.specs.Text.{IsHistoryText}
use Rattle.history.specs.declared.text_read.TextRead.{TextRead}
use Rattle.readings.specs.Reading.{strict_reading}
use Rattle.readings.specs.declared.reading.Reading.{Reading}
use Rattle.result_lines.specs.Objects.{line_of}
use Rattle.result_lines.specs.declared.reported.Reported.{Reported}
use Rattle.stream_io.specs.declared.status.Status.{Status}
use Rattle.report.specs.Details.{status_of}
use Rattle.report.specs.Verdict.{IsAnswer, IsReadBy}
use Rattle.report.specs.aids.Reports.{IsReportOn}
use Rattle.report.proofs.AnswerLemmas.{is_answer}

-- each event takes the room of one, if writes are performed once
room_once : (events : List Event) → room_taken Once events ≡ length events
room_once [] = refl
room_once (Call h n d op ∷ es) = let rest = room_once es in omega (arith, sum_by-cons (room_of Once) (Call h n d op) es)
room_once (Reply n r ∷ es) = let rest = room_once es in omega (arith, sum_by-cons (room_of Once) (Reply n r) es)
room_once (Lost n ∷ es) = let rest = room_once es in omega (arith, sum_by-cons (room_of Once) (Lost n) es)

-- by the strict reading a history takes the room of its events
pub strict_room : (reading : Reading) (events : List Event) → reading ≡ strict_reading → length events ≤ most_events → room_taken reading.writes events ≤ most_events
strict_room reading events same few = subst (λ r. room_taken r.writes events ≤ most_events) (sym same) (subst (λ n. n ≤ most_events) (sym (room_once events)) few)

pub known_answer : (ruling : RulingOut) (reading : Reading) (events : List Event) (voids : List ℕ) (said : Reported) (proved : Option Bool) (status : Status) (line : List ℕ) → TextsAreRead → TextsAreReadByRules
    → reading ≡ strict_reading → voids ≡ [] → IsReportOn ruling reading (record { history = events; voids = voids }) said proved → status ≡ status_of said → line ≡ line_of said
    → (input : List ℕ) → IsHistoryText input events → IsAnswer ruling strict_reading input status line
known_answer ruling reading events voids said proved status line read laws same none report status_is line_is input is =
    let by : IsReadBy strict_reading input (record { history = events; voids = [] }) = record { is_text = is; is_read = laws.strict input ∙ ap without_voids (read.is_read input events is) } in
    let own = subst (λ vs. IsReportOn ruling strict_reading (record { history = events; voids = vs }) said proved) none
    (subst (λ r. IsReportOn ruling r (record { history = events; voids = voids }) said proved) same report) in
    subst (λ s. IsAnswer ruling strict_reading input s line) (sym status_is)
    (subst (IsAnswer ruling strict_reading input (status_of said)) (sym line_is) (is_answer ruling strict_reading input _ (status_of said) (line_of said) by own.says))
