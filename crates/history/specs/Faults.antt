-- What is reported of a line whose event a history refuses.
use Rattle.api_lines.specs.declared.text_fault.LineFault.{LineFault}
use Rattle.api_lines.specs.declared.text_fault.LineFault.TheVariants as line
use Rattle.api_lines.specs.declared.text_fault.TextCause.{TextCause}
use Rattle.api_lines.specs.declared.text_fault.TextCause.TheVariants.{Shape, SecondCall, NoCall, Ended, Full, ShardMoved}
use Rattle.events.specs.declared.fault.HistFault.{HistFault}
use Rattle.events.specs.declared.fault.HistFault.TheVariants as event

-- The cause of a refusal. A reply of a kind that its call can't have would be of another shape, but the reply
-- table gives none; being out of memory is not a refusal.
-- Source: profile.
abbrev pub cause_of : HistFault → TextCause
cause_of event.SecondCall = SecondCall
cause_of event.NoCall = NoCall
cause_of event.Ended = Ended
cause_of event.Kind = Shape
cause_of event.Full = Full
cause_of event.NoMemory = Full
cause_of event.ShardMoved = ShardMoved

-- the same as a fault of the line, to which being out of memory belongs too
abbrev pub line_fault : HistFault → LineFault
line_fault event.SecondCall = line.Reported SecondCall
line_fault event.NoCall = line.Reported NoCall
line_fault event.Ended = line.Reported Ended
line_fault event.Kind = line.Reported Shape
line_fault event.Full = line.Reported Full
line_fault event.NoMemory = line.NoMemory
line_fault event.ShardMoved = line.Reported ShardMoved
