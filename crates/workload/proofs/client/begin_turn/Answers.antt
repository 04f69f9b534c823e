use Rattle.recorder.proofs.PenLemmas.{called_last}
use Rattle.workload.proofs.client.begin_turn.Goals as goal

pub returns-clause-opens : goal.returns-clause-opens
returns-clause-opens g c =
    let called = called_last (g.X.Recording.pen_state c.args.pen.now).list c.in_ok-no.no c.in_ok-copy.field-0 c.operation-op.result c.in_ok-no.ensures.records.unused in
    record {
      document = c.in_ok-id.id;
      op = c.operation-op.result;
      called = rw c.in_ok-no.ensures.records.grows called.0;
      unended = rw c.in_ok-no.ensures.records.grows called.1;
      was_issued = c.in_ok-ticket.ensures.ticket;
    }
