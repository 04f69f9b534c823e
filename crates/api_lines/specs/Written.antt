-- The status and the body that are written of a reply.
use Rattle.std.specs.Prelude.{ℕ, List, true, false, codes, if◌then◌else◌}
use Rattle.version_pair.specs.declared.pair.Pair.{Pair}
use Rattle.doc_register.specs.declared.reply.Reply.{Reply}
use Rattle.doc_register.specs.declared.reply.Reply.TheVariants.{Indexed, Deleted, Found, Missing, Conflict}
use Rattle.serde_json.specs.Data.{Data, Members, boolean, unsigned, number, string, object, member, no_members}

-- the status that is written of a reply: 201 for an Indexed that says created, 404 for Missing and for a
-- Deleted that says not found, 409 for Conflict, otherwise 200
-- Source: OpenSearch.
abbrev pub written_status : Reply → ℕ
written_status (Indexed p created) = if created then 201 else 200
written_status (Deleted p found) = if found then 200 else 404
written_status (Found p k) = 200
written_status Missing = 404
written_status Conflict = 409

-- a member with a number, before other members
abbrev pub number_member : List ℕ → ℕ → Members → Members
number_member key n rest = member key (number (unsigned n)) rest

-- the document's id and the pair, before other members
abbrev pub id_and_pair : List ℕ → Pair → Members → Members
id_and_pair d p rest =
    member (codes "_id") (string d) (number_member (codes "_primary_term") p.term (number_member (codes "_seq_no") p.seq rest))

-- the body of a performed write: its document, its pair, and its `result`
-- Source: OpenSearch.
abbrev pub write_body : List ℕ → Pair → List ℕ → Data
write_body d p outcome = object (id_and_pair d p (member (codes "result") (string outcome) no_members))

-- the body of a document that exists
-- Source: OpenSearch.
abbrev pub found_body : List ℕ → Pair → ℕ → Data
found_body d p k =
    object (id_and_pair d p (member (codes "_source") (object (number_member (codes "k") k no_members)) (member (codes "found") (boolean true) no_members)))

-- the body of a document that is missing
-- Source: OpenSearch.
abbrev pub missing_body : List ℕ → Data
missing_body d = object (member (codes "_id") (string d) (member (codes "found") (boolean false) no_members))

-- the body of a conflict
-- Source: OpenSearch.
abbrev pub conflict_body : Data
conflict_body = object (member (codes "error") (object (member (codes "type") (string (codes "version_conflict_engine_exception")) no_members)) no_members)

-- The body that is written of a reply about the document. It has the keys by which the reply is recognised,
-- and no others.
abbrev pub written_body : List ℕ → Reply → Data
written_body d (Indexed p created) = write_body d p (if created then codes "created" else codes "updated")
written_body d (Deleted p found) = write_body d p (if found then codes "deleted" else codes "not_found")
written_body d (Found p k) = found_body d p k
written_body d Missing = missing_body d
written_body d Conflict = conflict_body
