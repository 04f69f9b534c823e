-- The members of a call's line, as they are put one after the other.
use Rattle.std.proofs.Common.{◌≡◌, ◌==◌, ℕ, List, Bool, Some, None, codes, false, if◌then◌else◌, refl, true}
use Rattle.doc_register.specs.Register.{condition_of, value_of}
use Rattle.doc_register.specs.declared.op.Op.{Op}
use Rattle.doc_register.specs.declared.op.Op.TheVariants.{Get, Index, Delete, Create}
use Rattle.serde_json.specs.Data.{Members, member, no_members, object, string}
use Rattle.api_lines.specs.Objects.{with_number, with_text}
use Rattle.api_lines.specs.Written.{number_member}
use Rattle.history.specs.Written.{call_value, call_with, op_members, op_name}
use Rattle.history.specs.aids.Writing.{with_condition, with_shard, with_value}

-- the members before the shard
abbrev before_shard : ℕ → List ℕ → Op → Members
before_shard n d op =
    with_text (codes "op") (op_name op) (with_number (codes "n") n (with_value (value_of op) (with_condition (condition_of op) (with_text (codes "id") d (with_text (codes "e") (codes "call") no_members)))))

-- whether the shard is 0 or not
in_order : (is_first : Bool) (n h : ℕ) (d : List ℕ) (op : Op) → object (if is_first then before_shard n d op else with_number (codes "shard") h (before_shard n d op))
    ≡ call_with d (op_members op (number_member (codes "n") n (member (codes "op") (string (op_name op)) (if is_first then no_members else number_member (codes "shard") h no_members))))
in_order true n h d Get = refl
in_order true n h d (Index k None) = refl
in_order true n h d (Index k (Some p)) = refl
in_order true n h d (Delete None) = refl
in_order true n h d (Delete (Some p)) = refl
in_order true n h d (Create k) = refl
in_order false n h d Get = refl
in_order false n h d (Index k None) = refl
in_order false n h d (Index k (Some p)) = refl
in_order false n h d (Delete None) = refl
in_order false n h d (Delete (Some p)) = refl
in_order false n h d (Create k) = refl

pub call_members : (n h : ℕ) (d : List ℕ) (op : Op)
    → object (with_shard h (with_text (codes "op") (op_name op) (with_number (codes "n") n (with_value (value_of op) (with_condition (condition_of op) (with_text (codes "id") d (with_text (codes "e") (codes "call") no_members)))))))
    ≡ call_value n h d op
call_members n h d op = in_order (h == 0) n h d op
