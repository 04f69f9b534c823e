use Rattle.api_lines.proofs.LineLemmas.{first_line_feedless, first_line_found, first_line_missing, last_line_feedless}
use Rattle.api_lines.proofs.lines.first_line.Goals as goal

pub returns-in-Some-clause-lines : goal.returns-in-Some-clause-lines
returns-in-Some-clause-lines c = first_line_found c.args.text.now c.in-Some.end c.in-Some.ensures

pub returns-in-None-clause-lines : goal.returns-in-None-clause-lines
returns-in-None-clause-lines c = first_line_missing c.args.text.now c.requires c.in-None.ensures

pub returns-in-Some-clause-feed : goal.returns-in-Some-clause-feed
returns-in-Some-clause-feed c = first_line_feedless c.args.text.now c.in-Some.end c.in-Some.ensures

pub returns-in-None-clause-feed : goal.returns-in-None-clause-feed
returns-in-None-clause-feed c = last_line_feedless c.args.text.now c.in-None.ensures
