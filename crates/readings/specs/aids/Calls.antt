-- The calls of a document, with what is looked up for each get.
use Rattle.write_chain.specs.AnsweredCalls.{AreAnsweredCalls}
use Rattle.readings.specs.aids.Peaks.{ArePeaks}
use Rattle.readings.specs.declared.document.Calls.{Calls}
use Rattle.readings.specs.declared.peaks.Changes.TheVariants.{All, Makes}

-- what is looked up is that of the records
pub record AreReady (calls : Calls) : Type 0 where
  pub answers : AreAnsweredCalls calls.records.now calls.answers.items
  pub all : ArePeaks All calls.records.now calls.answers.items calls.all.items
  pub makes : ArePeaks Makes calls.records.now calls.answers.items calls.makes.items
