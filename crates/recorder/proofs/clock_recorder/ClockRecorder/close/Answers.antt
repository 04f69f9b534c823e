use Rattle.std.proofs.Common.{◌≡◌, ◌∙◌, ap, false, length, sym, true}
use Rattle.std.proofs.lemmas.List.Elements.{All-weaker}
use Rattle.events.specs.declared.fault.HistFault.TheVariants.{NoMemory}
use Rattle.recorder.specs.Pens.{IsRising}
use Rattle.recorder.specs.aids.Notes.{IsPenList}
use Rattle.recorder.proofs.RecordingLaws.{recordings_are_by_number}
use Rattle.recorder.proofs.UnrefusedLemmas.{merged_accepted}
use Rattle.recorder.proofs.clock_recorder.ClockRecorder.close.Goals.{in-NoMemory, in_default-matches}
use Rattle.recorder.proofs.clock_recorder.ClockRecorder.close.Goals as goal

pub merge-requires-clause-rising : goal.merge-requires-clause-rising
merge-requires-clause-rising c = All-weaker IsPenList IsRising (λ list kept. kept.rising) c.in-Ok.strands.items c.in-Ok.ensures.kept

pub prove-unreachable-requires : goal.prove-unreachable-requires
prove-unreachable-requires c =
    let accepted = merged_accepted c.in-Ok.strands.items c.in-Ok-merge.events.items c.in-Ok-merge.ensures.recording c.in-Ok.ensures.kept c.in-Ok.ensures.dense.1 in
    let memory : c.in-Err.fault ≡ NoMemory = c.in-Err.ensures.accepted accepted in
    elim c.match-matches.branch [
      | in-NoMemory w ↦ (let impossible : true ≡ false = sym w.matches-is ∙ c.if-prove.true in absurd (cc))
      | in_default-matches w ↦ absurd (w.in_default-matches.not-NoMemory memory)
    ]

pub returns-in-Ok-history_of-clause-full : goal.returns-in-Ok-history_of-clause-full
returns-in-Ok-history_of-clause-full c full =
    ap length c.in-Ok-history_of.ensures.history
    ∙ sym (recordings_are_by_number.by_number c.in-Ok.strands.items c.in-Ok-merge.events.items c.in-Ok-merge.ensures.recording).count
    ∙ c.in-Ok.ensures.full full
