use Rattle.std.proofs.Common.{◌≡◌, ◌∙◌, ◌++◌, ◌∷◌, ◌+◌, [], ap, length, map, refl, subst, sym}
use Rattle.std.proofs.lemmas.List.{length-append, length-map, map-append}
use Rattle.std.proofs.lemmas.Result.{IfErr-weaker, IfOk-weaker}
use Rattle.places.specs.Documents.{doc_places}
use Rattle.compose.specs.VerifyFaults.{IsFirstVerifyFault}
use Rattle.compose.specs.aids.Verified.{AreVerified}
use Rattle.compose.proofs.VerifyLemmas.{first_of_entry}
use Rattle.covers.proofs.Yielded.{all_given, next_given}
use Rattle.compose.proofs.verification.witnesses_of.Goals as goal

pub loop-places-init : goal.loop-places-init
loop-places-init c = (tt, tt, refl, c.into_iter-places-iterator.ensures.into_iter_gives.0, c.in-Ok.ensures.size, c.in-Ok.ensures.ok c.args.conflicts)

pub returns-in-Err-enter-clause-fault : goal.returns-in-Err-enter-clause-fault
returns-in-Err-enter-clause-fault c = λ known.
    let before = map doc_places c.loop-places.yielded in
    let after = map doc_places c.next.new.self.rest.items in
    let are = c.loop-places.invariant.5 in
    let size : length before ≡ c.loop-places.entry = length-map c.loop-places.yielded doc_places ∙ c.loop-places.invariant.2 in
    let all : before ++ doc_places c.in-Some.places ∷ after ≡ map doc_places c.args.entries.items =
    sym (map-append doc_places c.loop-places.yielded (c.in-Some.places ∷ c.next.new.self.rest.items))
    ∙ ap (map doc_places) (ap (λ xs. c.loop-places.yielded ++ xs) (sym c.in-Some.ensures.steps.0) ∙ c.loop-places.invariant.3) in
    subst (λ es. IsFirstVerifyFault c.args.conflicts c.args.history.now es c.in-Err-enter.fault) all
    (first_of_entry c.args.conflicts c.args.history.now before (doc_places c.in-Some.places) after c.in-Err-enter.fault are.fine
    (c.in-Err-enter.ensures.fault known before are size))

pub loop-places-preserved : goal.loop-places-preserved
loop-places-preserved c =
    let before = map doc_places c.loop-places.yielded in
    let next = c.in-Ok-enter.ensures.ok before c.loop-places.invariant.5 in (
      tt,
      tt,
      length-append c.loop-places.yielded (c.in-Some.places ∷ []) ∙ ap (λ n. n + 1) c.loop-places.invariant.2,
      next_given c.loop-places.yielded c.loop-places.places-iterator.rest.items c.next.new.self.rest.items c.args.entries.items c.in-Some.places c.in-Some.ensures.steps.0 c.loop-places.invariant.3,
      c.in-Ok-enter.ensures.size,
      subst (λ es. AreVerified c.args.conflicts c.args.history.now es c.enter.new.self.entered.items c.enter.new.self.witnesses.items)
          (sym (map-append doc_places c.loop-places.yielded (c.in-Some.places ∷ []))) next,
    )

pub returns-clause-ok : goal.returns-clause-ok
returns-clause-ok c =
    let are = c.loop-places.invariant.5 in
    let all = all_given c.loop-places.yielded c.loop-places.places-iterator.rest.items c.args.entries.items (sym c.loop-places.places-iterator.rest.ok.0 ∙ c.in-None.ensures.steps.0)
    c.loop-places.invariant.3 in
    IfOk-weaker c.covering.result _ _
    (λ ws covers. let is = covers (map doc_places c.loop-places.yielded) are in (is.0 ∙ ap (map doc_places) all, is.1)) c.covering.ensures.ok

pub returns-clause-fault : goal.returns-clause-fault
returns-clause-fault c =
    let are = c.loop-places.invariant.5 in
    let all = all_given c.loop-places.yielded c.loop-places.places-iterator.rest.items c.args.entries.items (sym c.loop-places.places-iterator.rest.ok.0 ∙ c.in-None.ensures.steps.0)
    c.loop-places.invariant.3 in
    IfErr-weaker c.covering.result _ _
    (λ reported wrong known. subst (λ es. IsFirstVerifyFault c.args.conflicts c.args.history.now es reported) (ap (map doc_places) all) (wrong known (map doc_places c.loop-places.yielded) are))
    c.covering.ensures.fault
