-- What is written for a bulk request and its reply.
use Rattle.std.specs.Prelude.{◌≡◌, ℕ, List, Ok, Err, Option, IfSome}
use Rattle.api_lines.specs.declared.bulk_fault.BulkFault.{BulkFault}
use Rattle.history.specs.BulkText.{bulk_history}
use Rattle.result_lines.specs.Lines.{bulk_fault_line}
use Rattle.stream_io.specs.declared.status.Status.{Status}
use Rattle.stream_io.specs.declared.status.Status.TheVariants.{Yes, No, Refuted, Refused}

-- What `bulk` writes. Yes: the lines of the bulk's calls, numbered from first on, and of their endings
-- (`bulk_history`), the status being 200. Refused: the `bulk_fault_line` of the first fault. It is never No
-- or Refuted.
-- Source: profile.
abbrev pub IsBulkAnswer : ℕ → List ℕ → List ℕ → Status → List ℕ → Type 0
IsBulkAnswer first body reply Yes text = bulk_history first body 200 reply ≡ Ok text
IsBulkAnswer first body reply No text = ⊥
IsBulkAnswer first body reply Refuted text = ⊥
IsBulkAnswer first body reply Refused line = (fault : BulkFault) × (line ≡ bulk_fault_line fault) × (bulk_history first body 200 reply ≡ Err fault)

-- what is written for the bytes that the two readers had, if both are known
abbrev pub AnswersBulk : ℕ → Option (List ℕ) → Option (List ℕ) → Status → List ℕ → Type 0
AnswersBulk first body reply status text = IfSome body (λ b. IfSome reply (λ r. IsBulkAnswer first b r status text))
