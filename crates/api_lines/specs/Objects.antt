-- Objects of JSON that are built member by member.
use Rattle.std.specs.Prelude.{ℕ, List}
use Rattle.serde_json.specs.Data.{Members, number, put, string, unsigned}
use Rattle.serde_json.specs.View.{members_view}
use Rattle.api_lines.specs.declared.line_object.LineObject.{LineObject}

-- the members of an object
abbrev pub members_of : LineObject → Members
members_of o = members_view o.members.entries

-- the members, with a text as the value of this key, in place of one that it may have
abbrev pub with_text : List ℕ → List ℕ → Members → Members
with_text key text ms = put key (string text) ms

-- the members, with a number as the value of this key, in place of one that it may have
abbrev pub with_number : List ℕ → ℕ → Members → Members
with_number key n ms = put key (number (unsigned n)) ms
