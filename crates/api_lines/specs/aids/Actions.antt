-- The fields of an action as the code has them: an aid of its contracts.
use Rattle.api_lines.specs.Bulk.{ActionValues}
use Rattle.api_lines.specs.Fields.{value_of}
use Rattle.api_lines.specs.declared.action.ActionFields.{ActionFields}

-- the code's fields as the definitions see them
abbrev pub action_seen : ActionFields → ActionValues
action_seen a = record { action = a.action; id = value_of a.id; seq = value_of a.seq; term = value_of a.term }
