-- Complete records: no valid places of them give a pair.
use Rattle.std.proofs.Common.{ℕ, zero, suc, ◌≡◌, List, [], ◌∷◌, refl, sym, subst, ◌∙◌, Option, Some, None, slice_get}
use Rattle.version_pair.specs.declared.pair.Pair.{Pair}
use Rattle.doc_register.specs.declared.op.Op.{Op}
use Rattle.doc_register.specs.declared.op.Op.TheVariants.{Get, Index, Delete, Create}
use Rattle.doc_register.specs.declared.reply.Reply.{Reply}
use Rattle.doc_register.specs.declared.reply.Reply.TheVariants.{Indexed, Deleted, Found, Missing, Conflict}
use Rattle.doc_register.specs.declared.state.Conflicts.{Conflicts}
use Rattle.doc_register.specs.declared.state.Conflicts.TheVariants.{Plain, Maybe}
use Rattle.doc_register.specs.declared.state.DocState.{DocState}
use Rattle.events.specs.declared.record.Rec.{Rec}
use Rattle.version_pair.proofs.ListLemmas.{none_is_not_some, same_some}
use Rattle.places.specs.declared.place.Place.{Place}
use Rattle.places.specs.Places.{GivesAsMay, IsPlaceOf, IsPlaceRun, IsUnansweredGet, StepsAt}
use Rattle.doc_check.specs.NoOrders.{CompleteHaveNone}
use Rattle.events.specs.Heard.{ShowsOutcome}

-- the step at a place
step_of : (records : List Rec) (s t : DocState) (ps : List Place) (i : ℕ) (p : Place) → IsPlaceRun records s ps t → slice_get ps i ≡ Some p
    → (m u : DocState) × (r : Rec) × IsPlaceOf records p r × StepsAt m r.op r.heard p.pair u
step_of records s t [] i p run at = absurd (none_is_not_some p at)
step_of records s t (q ∷ ps) zero p run at =
    (s, run.0, run.1, subst (λ k. IsPlaceOf records k run.1) (same_some q p at) run.2, subst (λ k. StepsAt s run.1.op run.1.heard k.pair run.0) (same_some q p at) run.3)
step_of records s t (q ∷ ps) (suc i) p run at = step_of records run.0 t ps i p run.4 at

-- a complete call gives no pair
gives_none : (conflicts : Conflicts) (op : Op) (heard : Option (ℕ × Reply)) (pair : Option Pair) (m u : DocState) → ((op ≡ Get → ⊥) → ShowsOutcome conflicts heard)
    → ((op ≡ Get) × (heard ≡ None) → ⊥) → GivesAsMay conflicts heard pair → StepsAt m op heard pair u → pair ≡ None
gives_none conflicts Get None pair m u reported known gives step = absurd (known (refl, refl))
gives_none conflicts (Index k c) None pair m u reported known gives step = absurd (reported (λ same. (let impossible : Index k c ≡ Get = same in cc)))
gives_none conflicts (Delete c) None pair m u reported known gives step = absurd (reported (λ same. (let impossible : Delete c ≡ Get = same in cc)))
gives_none conflicts (Create k) None pair m u reported known gives step = absurd (reported (λ same. (let impossible : Create k ≡ Get = same in cc)))
gives_none conflicts op (Some (at, Indexed q created)) pair m u reported known gives step = gives
gives_none conflicts op (Some (at, Deleted q found)) pair m u reported known gives step = gives
gives_none conflicts op (Some (at, Found q k)) pair m u reported known gives step = gives
gives_none conflicts op (Some (at, Missing)) pair m u reported known gives step = gives
gives_none Plain op (Some (at, Conflict)) pair m u reported known gives step = gives refl
gives_none Maybe Get (Some (at, Conflict)) pair m u reported known gives step = step.1
gives_none Maybe (Index k c) (Some (at, Conflict)) pair m u reported known gives step = absurd (reported (λ same. (let impossible : Index k c ≡ Get = same in cc)) refl refl)
gives_none Maybe (Delete c) (Some (at, Conflict)) pair m u reported known gives step = absurd (reported (λ same. (let impossible : Delete c ≡ Get = same in cc)) refl refl)
gives_none Maybe (Create k) (Some (at, Conflict)) pair m u reported known gives step = absurd (reported (λ same. (let impossible : Create k ≡ Get = same in cc)) refl refl)

pub complete_have_none : CompleteHaveNone
complete_have_none conflicts records complete none places valid = none places (λ i p at.
    let step = step_of records _ valid.right.legal.0 places i p valid.right.legal.1 at in
    let known = valid.right.known i p at in
    gives_none conflicts step.2.op step.2.heard p.pair step.0 step.1 (complete p.rec step.2 step.3)
    (λ unanswered. known.2 (subst IsUnansweredGet (same_some step.2 known.0 (sym step.3 ∙ known.1)) unanswered))
    (valid.right.pairs i p step.2 at step.3) step.4) valid
