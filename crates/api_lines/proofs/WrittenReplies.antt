-- What is written of a reply is read back as that reply.
use Rattle.std.proofs.Common.{ℕ, ◌≡◌, List, refl, sym, true, false, codes}
use Rattle.version_pair.specs.declared.pair.Pair.{Pair}
use Rattle.doc_register.specs.Register.{fits}
use Rattle.doc_register.specs.declared.op.Op.{Op}
use Rattle.doc_register.specs.declared.op.Op.TheVariants.{Get, Index, Delete, Create}
use Rattle.doc_register.specs.declared.reply.Reply.{Reply as Answer}
use Rattle.doc_register.specs.declared.reply.Reply.TheVariants.{Indexed, Deleted, Found, Missing, Conflict}
use Rattle.serde_json.specs.Data.{object, member, no_members, string}
use Rattle.api_lines.specs.Json.{absent, text}
use Rattle.api_lines.specs.ReplyTable.{IsStranger, Reports, ReportsConflict, ReportsWrite}
use Rattle.api_lines.specs.Written.{conflict_body, write_body, written_body, written_status}

write_back : (wanted : ℕ) (outcome d : List ℕ) (p : Pair) → ReportsWrite wanted outcome wanted (write_body d p outcome) p
write_back wanted outcome d p = record { has_status = refl; outcome = refl; pair = record { term = refl; seq = refl } }

conflict_back : ReportsConflict 409 conflict_body
conflict_back = record {
  has_status = refl;
  error = (object (member (codes "type") (string (codes "version_conflict_engine_exception")) no_members), refl, refl);
}

-- the table says it, for each operation that the reply fits
pub written_reported : (op : Op) (d : List ℕ) (r : Answer) → fits op r ≡ true → Reports op (written_status r) (written_body d r) r
written_reported Get d (Indexed p flag) fit = cc
written_reported Get d (Deleted p flag) fit = cc
written_reported Get d (Found p k) fit = record { has_status = refl; found = refl; pair = record { term = refl; seq = refl }; source = (_, refl, refl) }
written_reported Get d Missing fit = record { has_status = refl; found = refl }
written_reported Get d Conflict fit = cc
written_reported (Index j c) d (Indexed p true) fit = write_back 201 (codes "created") d p
written_reported (Index j c) d (Indexed p false) fit = write_back 200 (codes "updated") d p
written_reported (Index j c) d (Deleted p flag) fit = cc
written_reported (Index j c) d (Found p k) fit = cc
written_reported (Index j c) d Missing fit = cc
written_reported (Index j c) d Conflict fit = conflict_back
written_reported (Delete c) d (Indexed p flag) fit = cc
written_reported (Delete c) d (Deleted p true) fit = write_back 200 (codes "deleted") d p
written_reported (Delete c) d (Deleted p false) fit = write_back 404 (codes "not_found") d p
written_reported (Delete c) d (Found p k) fit = cc
written_reported (Delete c) d Missing fit = cc
written_reported (Delete c) d Conflict fit = conflict_back
written_reported (Create j) d (Indexed p true) fit = write_back 201 (codes "created") d p
written_reported (Create j) d (Indexed p false) fit = cc
written_reported (Create j) d (Deleted p flag) fit = cc
written_reported (Create j) d (Found p k) fit = cc
written_reported (Create j) d Missing fit = cc
written_reported (Create j) d Conflict fit = conflict_back

named : (d name : List ℕ) → text d ≡ text name → (name ≡ d → ⊥) → ⊥
named d name is differs = differs (let same : d ≡ name = cc in sym same)

unnamed : (name : List ℕ) → absent ≡ text name → ⊥
unnamed name is = cc

-- the document's own reply is no stranger's
pub written_known : (d : List ℕ) (r : Answer) → ¬ IsStranger d (written_body d r)
written_known d (Indexed p created) (name, has, differs) = named d name has differs
written_known d (Deleted p found) (name, has, differs) = named d name has differs
written_known d (Found p k) (name, has, differs) = named d name has differs
written_known d Missing (name, has, differs) = named d name has differs
written_known d Conflict (name, has, differs) = unnamed name has
