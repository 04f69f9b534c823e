use Rattle.report.proofs.FindingLemmas.{lost_kept}
use Rattle.report.proofs.finding.find_alone.Goals as goal

pub found_by-requires : goal.found_by-requires
found_by-requires c =
    lost_kept c.args.options.reading c.args.read c.in_ok-judged.field-0.judged c.in_ok-judged.field-0.text c.requires.void c.in_ok-judged.ensures.kept
