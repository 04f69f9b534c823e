-- The longest piece, which is more than the search takes on by itself.
use Rattle.std.proofs.Common.{ap, sym}
use Rattle.page.specs.Markups.{markup_bytes}
use Rattle.page.proofs.markup.markup_text.Goals as goal

pub returns-in-Style : goal.returns-in-Style
returns-in-Style c = sym (ap markup_bytes c.in-Style.is)
