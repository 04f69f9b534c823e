-- Threads may share a clock recorder: nothing can be done through a reference to the maker's seat, which has no bytes.
use denote.RattleType.{RattleType}
use denote.Builtin.{unit}
use denote.Param.Send.{IsSend, IsSync, part_keyless, sendable}
use Rattle.atomic_table.specs.contracts.shared.Seat as seat
use Rattle.atomic_table.proofs.shared.Seat.TheSendSync as seat_crosses
use Rattle.recorder.proofs.clock.Clock.TheSendSync as clock_shared
use Rattle.recorder.specs.contracts.clock_recorder.ClockRecorder.{the_row}

seat_sync : (S V : RattleType) → IsSend S → IsSync (seat.the_row S V)
seat_sync S V s = record { shared = λ d b o ν q. part_keyless (seat.the_row S V) (seat_crosses.the_send S V s) q d b o }

unit_send : IsSend unit
unit_send = search sendable

pub clock_recorder_sync : IsSync the_row
clock_recorder_sync = search (sendable, seat_sync, unit_send, clock_shared.the_sync) depth 20
