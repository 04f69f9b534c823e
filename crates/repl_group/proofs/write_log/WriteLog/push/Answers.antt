use Rattle.std.proofs.Common.{◌≡◌, ◌∙◌, ◌+◌, ◌++◌, ◌∷◌, [], ap, length}
use Rattle.repl_group.specs.aids.Logging.{held_sets}
use Rattle.repl_group.proofs.LogLemmas.{first_after, log_after, next_place, place_within, sets_after}
use Rattle.repl_group.proofs.write_log.WriteLog.push.Goals as goal

pub invariant_of-self-2 : goal.invariant_of-self-2
invariant_of-self-2 c =
    let number : c.len-number.result ≡ length c.self.inside.entries.items = c.len-number.ensures ∙ c.self.inside.entries.ok.0 in
    rw (c.push_reserved.ensures.items, c.in_ok-reserve.ensures.items)
    (log_after c.self.inside.entries.items c.self.inside.first.entries c.note_first.new.first.entries (record { ticket = c.args.ticket; write = c.args.write; before = c.args.place })
    c.self.invariant (place_within _ _ c.args.place c.self.view_is c.requires)
    (λ t. c.in_ok-note_first.ensures.ok t ∙ ap (λ n. first_after c.self.inside.first.entries c.args.ticket n t) number))

pub returns-clause-place : goal.returns-clause-place
returns-clause-place c = ap (λ n. n + 1) (c.len-number.ensures ∙ c.self.inside.entries.ok.0) ∙ next_place c.self.inside.entries.items c.args.self.now c.self.view_is

pub returns-clause-sets : goal.returns-clause-sets
returns-clause-sets c =
    ap (λ es. held_sets es) (c.push_reserved.ensures.items ∙ ap (λ es. es ++ record { ticket = c.args.ticket; write = c.args.write; before = c.args.place } ∷ []) c.in_ok-reserve.ensures.items)
    ∙ sets_after c.self.inside.entries.items c.args.self.now (record { ticket = c.args.ticket; write = c.args.write; before = c.args.place }) c.self.view_is
