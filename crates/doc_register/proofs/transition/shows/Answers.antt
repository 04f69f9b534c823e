use Rattle.std.proofs.Common.{rules, ℕ, ◌≡◌, sym, ap, ◌∙◌, refl}
use Rattle.version_pair.specs.declared.pair.Pair.{Pair}
use Rattle.version_pair.proofs.PairLemmas.{same_by_test}
use Rattle.doc_register.specs.declared.reply.Reply.{Reply}
use Rattle.doc_register.specs.declared.reply.Reply.TheVariants.{Found}
use Rattle.doc_register.specs.declared.state.DocState.{DocState}
use Rattle.doc_register.specs.declared.state.DocState.TheVariants.{Here}
use Rattle.doc_register.specs.Register.{shown}
use Rattle.doc_register.proofs.transition.shows.Goals as goal

-- a get that shows the document shows its number
number_shown : (p q : Pair) (k n : ℕ) (s : DocState) (r : Reply) → r ≡ Found p k → s ≡ Here q n → r ≡ shown s → k ≡ n
number_shown p q k n s r found here shows =
    let same : Found p k ≡ Found q n = sym found ∙ (shows ∙ ap shown here) in cc

pub returns-then-eq : goal.returns-then-eq
returns-then-eq c =
    let same : c.in-Here-Found.pair ≡ c.in-Here-Found.last = same_by_test _ _ (sym c.eq.ensures ∙ c.if-eq.true) in (
      λ h. let k : c.in-Here-Found.k ≡ c.in-Here-Found.number = search rules in rw (c.in-Here-Found.is-0, c.in-Here-Found.is-1, same, k) refl,
      λ e. let k : c.in-Here-Found.k ≡ c.in-Here-Found.number = number_shown _ _ _ _ _ _ c.in-Here-Found.is-1 c.in-Here-Found.is-0 e in search (rules, k),
    )
