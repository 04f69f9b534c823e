use Rattle.std.proofs.Common.{sym, subst, true}
use Rattle.std.specs.Prelude.{IfSome, IfNone}
use Rattle.doc_register.specs.declared.op.Op.TheVariants.{Create}
use Rattle.doc_register.specs.declared.reply.Reply.TheVariants.{Conflict}
use Rattle.doc_check.specs.aids.Stretches.{HoldsNowhere, IsGuess, IsReadIn}
use Rattle.doc_check.proofs.StretchLemmas.{create_back, create_to, entry_none, entry_some}
use Rattle.doc_check.proofs.stretches.Stretches.of_conflict.Goals as goal

pub returns-in-Create-clause-some : goal.returns-in-Create-clause-some
returns-in-Create-clause-some c =
    let states = c.args.self.now.states.items in
    subst (λ op. IfSome c.index.result.now (IsGuess (IsReadIn states op Conflict) c.args.bound)) (sym c.in-Create.is)
    (entry_some states true c.args.self.now.present.items c.args.bound c.index.result.now
    (IsReadIn states (Create c.in-Create.k) Conflict) c.requires.laid_out.1.present c.requires.bound c.index.ensures
    (create_to states c.in-Create.k) (create_back states c.in-Create.k))

pub returns-in-Create-clause-none : goal.returns-in-Create-clause-none
returns-in-Create-clause-none c =
    let states = c.args.self.now.states.items in
    subst (λ op. IfNone c.index.result.now (HoldsNowhere (IsReadIn states op Conflict) c.args.bound)) (sym c.in-Create.is)
    (entry_none states true c.args.self.now.present.items c.args.bound c.index.result.now
    (IsReadIn states (Create c.in-Create.k) Conflict) c.requires.laid_out.1.present c.requires.bound c.index.ensures
    (create_to states c.in-Create.k))
