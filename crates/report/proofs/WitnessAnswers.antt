-- What is written as the witness of a text that is explained.
use Rattle.std.proofs.Common.{ℕ, ◌≡◌, ◌≤◌, List, None, Some, Ok, length, map, subst, sym}
use Rattle.covers.specs.Covers.{AreCover, AreWitnesses}
use Rattle.compose.specs.Verdicts.{Proven}
use Rattle.compose.specs.declared.finding.Finding.TheVariants.{Explained}
use Rattle.events.specs.Events.{IsHistory}
use Rattle.events.specs.Order.{IsLinearizable}
use Rattle.events.specs.Refusal.{most_events}
use Rattle.evidence.specs.declared.ruling_out.RulingOut.{RulingOut}
use Rattle.history.specs.declared.text_read.TextRead.{TextRead}
use Rattle.places.specs.Documents.{witness_places}
use Rattle.places.specs.Witness.{Witness}
use Rattle.readings.specs.Reading.{conflicts_as}
use Rattle.readings.specs.declared.reading.Reading.{Reading}
use Rattle.witness.specs.Text.{AreWithinLimits, witness_text}
use Rattle.report.specs.Findings.{IsFoundBy, IsFoundOf, IsFoundOfGets, conflicts_of, events_of}
use Rattle.report.specs.Verdict.{IsWitnessed, judged}
use Rattle.report.specs.aids.Reports.{IsProofOf}
use Rattle.report.specs.declared.text_finding.TextFinding.{TextFinding}
use Rattle.report.proofs.WitnessLimits.{within_limits}

pub witnessed_found : (ruling : RulingOut) (reading : Reading) (read : TextRead) (found : TextFinding) (proof : Proven) (ws : List Witness) (text : List ℕ)
    → IsProofOf found.finding found.get (Some proof) → IsHistory proof.events → length proof.events ≤ most_events → AreWitnesses proof.conflicts proof.events proof.witnesses
    → IsLinearizable proof.conflicts proof.events → ws ≡ proof.witnesses → (AreWithinLimits (map witness_places ws) → witness_text text ≡ Ok (map witness_places ws))
    → IsFoundOf ruling reading read found → IsWitnessed reading read text
witnessed_found ruling reading read found proof ws text is history few are order same reads of =
    let c = conflicts_as reading.conflicts in
    let events = subst (λ f. events_of f ≡ judged reading read) is.0 of.events in
    let way = subst (λ f. conflicts_of f ≡ c) is.0 of.conflicts in
    let written = subst (λ vs. AreWithinLimits (map witness_places vs) → witness_text text ≡ Ok (map witness_places vs)) same reads in
    record {
      entries = map witness_places proof.witnesses;
      reads = written (within_limits proof.conflicts proof.events proof.witnesses history few are);
      cover = subst (λ H. AreCover c H (map witness_places proof.witnesses)) events (subst (λ k. AreCover k proof.events (map witness_places proof.witnesses)) way are.cover);
      explained = record {
        linearizable = subst (IsLinearizable c) events (subst (λ k. IsLinearizable k proof.events) way order);
        gets = subst (IsFoundOfGets reading read) is.1 (subst (λ f. IsFoundBy ruling reading read f found.get) is.0 of.outcome);
      };
    }
