use Rattle.api_lines.proofs.TableLaws.{heard_is, heard_one}
use Rattle.api_lines.proofs.laws.fields_are_heard.Goals as goal

pub returns : goal.returns
returns c = record { heard_so = heard_is; alone = heard_one }
