use Rattle.evidence.proofs.RuledOutLemmas.{records_ready}
use Rattle.evidence.proofs.ruled_out_calls.Rulings.judged.Goals as goal

pub returns : goal.returns
returns c = record {
  are = c.in_ok-records.ensures;
  in_order = records_ready c.args.self.now.history.now c.args.doc c.in_ok-records.records.items c.len.ensures.history c.in_ok-records.ensures;
  others = c.in_ok-elsewhere.ensures;
}
