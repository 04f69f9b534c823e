mod TextLemmas
pub mod TextLengths
mod SaidLines
mod TextReading
mod TextLaws
mod RuledLines
mod StrictTexts
mod RuledTexts
mod CallLines
mod WrittenText
mod BulkTextLemmas
