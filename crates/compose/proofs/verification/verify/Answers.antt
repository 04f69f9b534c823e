use Rattle.places.specs.Documents.{doc_places}
use Rattle.std.proofs.Common.{map}
use Rattle.compose.proofs.FaultLaws.{faulty_are_no_cover}
use Rattle.compose.proofs.verification.verify.Goals as goal

pub returns-in-Err-clause-no_cover : goal.returns-in-Err-clause-no_cover
returns-in-Err-clause-no_cover c = λ known. faulty_are_no_cover c.args.conflicts c.args.history (map doc_places c.args.entries.items) c.in-Err.fault (c.in-Err.ensures.fault known)
