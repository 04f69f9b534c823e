-- The reply table: which reply a status and a body are, for each operation. It is defined as a relation, and
-- by the fields of the body as a function. That both agree is the law `FieldsAreHeard`. In one piece the
-- table is in docs/FORMATS.md.
use Rattle.std.specs.Prelude.{◌≡◌, ◌≢◌, ◌==◌, ◌&&◌, ℕ, List, true, false, Option, Some, None, option_map, codes, if◌then◌else◌}
use Rattle.version_pair.specs.declared.pair.Pair.{Pair}
use Rattle.doc_register.specs.declared.op.Op.{Op}
use Rattle.doc_register.specs.declared.op.Op.TheVariants.{Get, Index, Delete, Create}
use Rattle.doc_register.specs.declared.reply.Reply.{Reply as Answer}
use Rattle.doc_register.specs.declared.reply.Reply.TheVariants.{Indexed, Deleted, Found, Missing, Conflict}
use Rattle.serde_json.specs.Data.{Data}
use Rattle.serde_json.specs.Find.{get}
use Rattle.api_lines.specs.Fields.{BodyValues}
use Rattle.api_lines.specs.Json.{FieldValue, absent, whole, not_whole, text, truth, other, HasNumber, HasText, HasBool}
use Rattle.api_lines.specs.Kinds.{is_other_text, is_text, is_truth}
use Rattle.api_lines.specs.Pairs.{pair_of}
use Rattle.api_lines.specs.declared.reply_table.Heard.{Heard}
use Rattle.api_lines.specs.declared.reply_table.Heard.TheVariants.{Reply, Unknown, Stranger}

-- ---- the table

-- the body names another document: its `_id` is a text other than d
-- Source: profile.
abbrev pub IsStranger : List ℕ → Data → Type 0
IsStranger d body = (name : List ℕ) × HasText (codes "_id") name body × (name ≢ d)

-- the body carries the pair: `_primary_term` and `_seq_no` hold its two numbers
-- Source: OpenSearch.
pub record CarriesPair (body : Data) (p : Pair) : Type 0 where
  pub term : HasNumber (codes "_primary_term") p.term body
  pub seq : HasNumber (codes "_seq_no") p.seq body

-- a performed write: the wanted status, this text as its `result`, and a pair
-- Source: OpenSearch, index document, delete document.
pub record ReportsWrite (wanted : ℕ) (result_text : List ℕ) (status : ℕ) (body : Data) (p : Pair) : Type 0 where
  pub has_status : status ≡ wanted
  pub outcome : HasText (codes "result") result_text body
  pub pair : CarriesPair body p

-- a version conflict: the status 409, and an `error` whose `type` is `version_conflict_engine_exception`
-- Source: OpenSearch, optimistic concurrency control.
pub record ReportsConflict (status : ℕ) (body : Data) : Type 0 where
  pub has_status : status ≡ 409
  pub error : (e : Data) × (get (codes "error") body ≡ Some e) × HasText (codes "type") (codes "version_conflict_engine_exception") e

-- a document that exists: the status 200, `found` is true, a pair, and a `_source` whose `k` is this number
-- Source: OpenSearch, get document; profile (`k`).
pub record ReportsFound (status : ℕ) (body : Data) (p : Pair) (k : ℕ) : Type 0 where
  pub has_status : status ≡ 200
  pub found : HasBool (codes "found") true body
  pub pair : CarriesPair body p
  pub source : (s : Data) × (get (codes "_source") body ≡ Some s) × HasNumber (codes "k") k s

-- a document that is missing: the status 404, and `found` is false
-- Source: OpenSearch, get document.
pub record ReportsMissing (status : ℕ) (body : Data) : Type 0 where
  pub has_status : status ≡ 404
  pub found : HasBool (codes "found") false body

-- The reply table: for each operation the replies that it knows, each with its status and its body.
-- Source: OpenSearch.
abbrev pub Reports : Op → ℕ → Data → Answer → Type 0
Reports Get status body (Indexed p created) = ⊥
Reports Get status body (Deleted p found) = ⊥
Reports Get status body (Found p k) = ReportsFound status body p k
Reports Get status body Missing = ReportsMissing status body
Reports Get status body Conflict = ⊥
Reports (Index j c) status body (Indexed p true) = ReportsWrite 201 (codes "created") status body p
Reports (Index j c) status body (Indexed p false) = ReportsWrite 200 (codes "updated") status body p
Reports (Index j c) status body (Deleted p found) = ⊥
Reports (Index j c) status body (Found p k) = ⊥
Reports (Index j c) status body Missing = ⊥
Reports (Index j c) status body Conflict = ReportsConflict status body
Reports (Delete c) status body (Indexed p created) = ⊥
Reports (Delete c) status body (Deleted p true) = ReportsWrite 200 (codes "deleted") status body p
Reports (Delete c) status body (Deleted p false) = ReportsWrite 404 (codes "not_found") status body p
Reports (Delete c) status body (Found p k) = ⊥
Reports (Delete c) status body Missing = ⊥
Reports (Delete c) status body Conflict = ReportsConflict status body
Reports (Create j) status body (Indexed p true) = ReportsWrite 201 (codes "created") status body p
Reports (Create j) status body (Indexed p false) = ⊥
Reports (Create j) status body (Deleted p found) = ⊥
Reports (Create j) status body (Found p k) = ⊥
Reports (Create j) status body Missing = ⊥
Reports (Create j) status body Conflict = ReportsConflict status body

-- The reply is of unknown outcome: no row of the table knows it. The call may have taken effect at any point
-- after it was made, or may never.
-- Source: profile.
abbrev pub IsUnknown : Op → ℕ → Data → Type 0
IsUnknown op status body = (r : Answer) → ¬ Reports op status body r

-- What is heard of a document's call by a status and a body. A body that names another document is a
-- stranger's, whatever its status; otherwise the table decides.
-- Source: profile.
abbrev pub IsHeard : List ℕ → Op → ℕ → Data → Heard → Type 0
IsHeard d op status body Stranger = IsStranger d body
IsHeard d op status body (Reply r) = (¬ IsStranger d body) × Reports op status body r
IsHeard d op status body Unknown = (¬ IsStranger d body) × IsUnknown op status body

-- ---- the same by the fields of the body, as a function

-- the pair of two fields, term and sequence number, if they hold whole numbers in range
abbrev pub pair_of_fields : FieldValue → FieldValue → Option Pair
pair_of_fields (whole t) (whole s) = pair_of t s
pair_of_fields (whole t) absent = None
pair_of_fields (whole t) not_whole = None
pair_of_fields (whole t) (text x) = None
pair_of_fields (whole t) (truth b) = None
pair_of_fields (whole t) other = None
pair_of_fields absent seq = None
pair_of_fields not_whole seq = None
pair_of_fields (text x) seq = None
pair_of_fields (truth b) seq = None
pair_of_fields other seq = None

-- the pair that the body carries
abbrev pub carried_pair : BodyValues → Option Pair
carried_pair body = pair_of_fields body.primary_term body.seq_no

-- Found, if there are a pair and a whole number
abbrev pub found_with : Option Pair → FieldValue → Option Answer
found_with None k = None
found_with (Some p) absent = None
found_with (Some p) (whole k) = Some (Found p k)
found_with (Some p) not_whole = None
found_with (Some p) (text x) = None
found_with (Some p) (truth b) = None
found_with (Some p) other = None

-- the reply to a get, by its status and its body; none if no row of the table fits
-- Source: profile.
abbrev pub got : ℕ → BodyValues → Option Answer
got status body =
    if (status == 200) && is_truth true body.found then found_with (carried_pair body) body.source_k
    else (if (status == 404) && is_truth false body.found then Some Missing else None)

-- a write that was refused: Conflict, by the status 409 and the type of the error
-- Source: profile.
abbrev pub conflicted : ℕ → BodyValues → Option Answer
conflicted status body =
    if (status == 409) && is_text (codes "version_conflict_engine_exception") body.error_type then Some Conflict else None

-- the reply to an index; none if no row fits
-- Source: profile.
abbrev pub indexed : ℕ → BodyValues → Option Answer
indexed status body =
    if (status == 201) && is_text (codes "created") body.outcome then option_map (λ p. Indexed p true) (carried_pair body)
    else (if (status == 200) && is_text (codes "updated") body.outcome then option_map (λ p. Indexed p false) (carried_pair body)
    else conflicted status body)

-- the reply to a delete; none if no row fits
-- Source: profile.
abbrev pub deleted : ℕ → BodyValues → Option Answer
deleted status body =
    if (status == 200) && is_text (codes "deleted") body.outcome then option_map (λ p. Deleted p true) (carried_pair body)
    else (if (status == 404) && is_text (codes "not_found") body.outcome then option_map (λ p. Deleted p false) (carried_pair body)
    else conflicted status body)

-- the reply to a create; none if no row fits
-- Source: profile.
abbrev pub created : ℕ → BodyValues → Option Answer
created status body =
    if (status == 201) && is_text (codes "created") body.outcome then option_map (λ p. Indexed p true) (carried_pair body)
    else conflicted status body

-- the reply to an operation; none if no row fits
abbrev pub reported_reply : Op → ℕ → BodyValues → Option Answer
reported_reply Get status body = got status body
reported_reply (Index k c) status body = indexed status body
reported_reply (Delete c) status body = deleted status body
reported_reply (Create k) status body = created status body

-- the reply, or Unknown if there is none
-- Source: profile.
abbrev pub reply_or_unknown : Option Answer → Heard
reply_or_unknown None = Unknown
reply_or_unknown (Some r) = Reply r

-- what is heard of the document's call: Stranger if the body names another document, otherwise the reply, or
-- Unknown if the table gives none
-- Source: profile.
abbrev pub heard : Op → List ℕ → ℕ → BodyValues → Heard
heard op d status body = if is_other_text d body.id then Stranger else reply_or_unknown (reported_reply op status body)
