use Rattle.std.proofs.Common.{◌≡◌, ◌<◌, ◌∙◌, All, None, ap, subst, sym}
use Rattle.recorder.specs.Pens.{IsUnused, refusal_of}
use Rattle.recorder.specs.aids.Notes.{numbered}
use Rattle.recorder.proofs.NoteLemmas.{noted_after, unused_above}
use Rattle.recorder.proofs.notes.Notes.note.Goals as goal

pub invariant_of-self : goal.invariant_of-self
invariant_of-self c =
    let same : c.self.inside.list.items ≡ c.args.self.now.pen.list = ap (λ s. s.pen.list) c.self.view_is in
    let below : All (λ entry. entry.0 < c.args.number) c.self.inside.list.items =
    subst (λ list. All (λ entry. entry.0 < c.args.number) list) (sym same) c.requires.above in
    let accepted : refusal_of c.self.inside.list.items (numbered c.args.event c.args.number) ≡ None =
    ap (λ list. refusal_of list (numbered c.args.event c.args.number)) same ∙ c.requires.accepted in
    rw (c.push_reserved.ensures.items, c.with_number.ensures)
    (noted_after c.self.inside.list.items _ _ c.args.number c.args.event c.self.invariant below accepted c.note_event.ensures)

pub returns-clause-unused : goal.returns-clause-unused
returns-clause-unused c =
    let same : c.self.inside.list.items ≡ c.args.self.now.pen.list = ap (λ s. s.pen.list) c.self.view_is in
    subst (λ list. IsUnused c.args.number list) same
    (unused_above c.self.inside.list.items c.args.number c.self.invariant.list_kept
    (subst (λ list. All (λ entry. entry.0 < c.args.number) list) (sym same) c.requires.above))
