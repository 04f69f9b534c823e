use Rattle.std.proofs.Common.{◌∙◌, ap, codes, option_map}
use Rattle.std.proofs.lemmas.Result.{IfOk-weaker}
use Rattle.result_lines.specs.Objects.{broken_reply_members, milliseconds_member, proved_member, reading_member, text_member}
use Rattle.result_lines.proofs.objects.with_facts.Goals as goal

pub returns : goal.returns
returns c =
    let facts = c.args.facts.now in
    IfOk-weaker c.with_broken_reply.result _ _ (λ made is.
    is ∙ ap (broken_reply_members facts.broken_reply) (c.in_ok-object-6.ensures
    ∙ ap (reading_member facts.reading) (c.in_ok-object-5.ensures
    ∙ ap (proved_member facts.proved) (c.in_ok-object-4.ensures
    ∙ ap (text_member (codes "explanation") (option_map (λ t. t.now) facts.explanation)) (c.in_ok-object-3.ensures
    ∙ ap (text_member (codes "witness") (option_map (λ t. t.now) facts.witness)) (c.in_ok-object-2.ensures
    ∙ ap (milliseconds_member facts.milliseconds) c.in_ok-object.ensures)))))) c.with_broken_reply.ensures
