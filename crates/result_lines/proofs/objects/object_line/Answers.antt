use Rattle.std.proofs.Common.{◌≡◌, ◌∙◌, ◌++◌, ◌∷◌, [], ap, false}
use Rattle.serde_json.specs.Data.{Data, no_members, object}
use Rattle.serde_json.specs.View.{view}
use Rattle.serde_json.specs.Written.{compact_text, has_float}
use Rattle.result_lines.proofs.PlainObjects.{object_plain}
use Rattle.result_lines.specs.Objects.{facts_members, line_members}
use Rattle.result_lines.proofs.objects.object_line.Goals as goal

pub returns : goal.returns
returns c =
    let whole : Data = object (facts_members c.args.facts.now (line_members c.args.reported.now no_members)) in
    let value : view c.into_value-object.result ≡ whole =
    c.into_value-object.ensures
    ∙ ap object (c.in_ok-with_facts.ensures ∙ ap (facts_members c.args.facts.now) (c.in_ok-object.ensures ∙ ap (line_members c.args.reported.now) c.new.ensures)) in
    let plain : has_float (view c.into_value-object.result) ≡ false = ap has_float value ∙ object_plain c.args.reported.now c.args.facts.now in
    c.in_ok-push.ensures.items ∙ ap (λ t. t ++ 10 ∷ []) (c.in_ok-text.ensures.text plain ∙ ap compact_text value)
