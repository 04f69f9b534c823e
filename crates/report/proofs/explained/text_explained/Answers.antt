use Rattle.report.proofs.InputAnswers.{has_its_evidence}
use Rattle.report.proofs.explained.text_explained.Goals as goal

pub story_of-requires : goal.story_of-requires
story_of-requires g c = has_its_evidence c.args.options.ruling_out c.args.options.reading c.args.text.read c.in_ok-found.found c.in_ok-found.ensures.found
