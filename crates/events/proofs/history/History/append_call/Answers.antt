use Rattle.std.proofs.Common.{◌≡◌, [], ◌∷◌, ◌++◌, ◌+◌, None, length, rules, subst}
use Rattle.events.specs.declared.event.Event.TheVariants.{Call}
use Rattle.events.specs.Events.{with_document}
use Rattle.events.specs.aids.CallPlaces.{AreFoundAlike}
use Rattle.events.specs.aids.Indexes.{AreIndexed, IsNotedAt, with_listed}
use Rattle.events.proofs.DocumentLemmas.{stands_among}
use Rattle.events.proofs.PushLemmas.{indexed_alike, indexed_by_call}
use Rattle.events.proofs.history.History.append_call.Goals as goal

built : (c : goal.After-push_reserved-2) → AreIndexed c.push_reserved-2.new.self.items c.note_call.new.self c.push_reserved.new.self.items
    c.note_call.new.documents.entries c.note_call.new.documents.lists c.note_call.new.documents.calls
built c =
    let place : c.len-place.result ≡ length c.self.inside.events.items = search rules in
    let grown : c.push_reserved-2.new.self.items ≡ c.self.inside.events.items ++ Call c.args.shard c.args.no c.args.id c.args.op ∷ [] = search rules in
    let ended : c.push_reserved.new.self.items ≡ c.self.inside.endings.items ++ None ∷ [] = search rules in
    let noted : IsNotedAt c.args.no (length c.self.inside.events.items) c.self.inside.calls c.note_call.new.self =
    subst (λ k. IsNotedAt c.args.no k c.self.inside.calls c.note_call.new.self) place (search rules) in
    let documented : c.note_call.new.documents.entries ≡ with_document c.self.inside.documents.entries c.args.id c.args.shard = search rules in
    let listed : c.note_call.new.documents.lists
    ≡ with_listed c.self.inside.documents.entries c.self.inside.documents.lists c.args.id (length c.self.inside.events.items) =
    subst (λ k. c.note_call.new.documents.lists ≡ with_listed c.self.inside.documents.entries c.self.inside.documents.lists c.args.id k) place
    (search rules) in
    let counted : c.note_call.new.documents.calls ≡ c.self.inside.documents.calls + 1 = search rules in
    indexed_by_call c.self.inside.events.items c.self.inside.calls c.self.inside.endings.items c.self.inside.documents.entries c.self.inside.documents.lists
    c.self.inside.documents.calls c.args.no c.args.shard c.args.id c.args.op c.push_reserved-2.new.self.items c.note_call.new.self c.push_reserved.new.self.items
    c.note_call.new.documents.entries c.note_call.new.documents.lists c.note_call.new.documents.calls c.self.invariant (search rules) c.requires.shard noted grown ended
    documented listed counted

pub invariant_of-self-2 : goal.invariant_of-self-2
invariant_of-self-2 c = built c

pub returns-clause-history : goal.returns-clause-history
returns-clause-history c = (built c).history

pub invariant_of-self-in_err-note_call : goal.invariant_of-self-in_err-note_call
invariant_of-self-in_err-note_call c =
    let alike : AreFoundAlike c.self.inside.calls c.note_call.new.self = search rules in
    let whole = indexed_alike c.self.inside.events.items c.self.inside.calls c.note_call.new.self c.self.inside.endings.items c.self.inside.documents.entries
    c.self.inside.documents.lists c.self.inside.documents.calls c.self.invariant alike in
    let events : c.reserve.new.self.items ≡ c.self.inside.events.items = search rules in
    let endings : c.reserve-2.new.self.items ≡ c.self.inside.endings.items = search rules in
    let documents : c.note_call.new.documents.entries ≡ c.self.inside.documents.entries = search rules in
    let lists : c.note_call.new.documents.lists ≡ c.self.inside.documents.lists = search rules in
    let count : c.note_call.new.documents.calls ≡ c.self.inside.documents.calls = search rules in
    rw (events, endings, documents, lists, count) whole

pub note_call-requires-clause-stands : goal.note_call-requires-clause-stands
note_call-requires-clause-stands c =
    stands_among c.args.doc c.args.id c.args.self.now c.self.inside.events.items c.self.inside.documents.entries c.requires.stands c.self.view_is c.self.invariant.in_order
