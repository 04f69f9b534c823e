use Rattle.std.proofs.Common.{sym, subst, false}
use Rattle.std.specs.Prelude.{IfSome, IfNone}
use Rattle.doc_register.specs.declared.reply.Reply.TheVariants.{Missing}
use Rattle.doc_check.specs.aids.Stretches.{HoldsNowhere, IsGuess, IsReadIn}
use Rattle.doc_check.proofs.StretchLemmas.{entry_none, entry_some, found_guess, missing_back, missing_to}
use Rattle.doc_check.proofs.stretches.Stretches.guess.Goals as goal

pub returns-in-Found-clause-some : goal.returns-in-Found-clause-some
returns-in-Found-clause-some c =
    subst (λ reply. IfSome c.of_found.result (IsGuess (IsReadIn c.args.self.now.states.items c.args.found.now.op reply) c.args.bound)) (sym c.in-Found.is)
    (found_guess c.args.self.now.states.items c.args.found.now.op c.in-Found.pair c.in-Found.k c.args.bound c.of_found.result c.of_found.ensures.some)

pub returns-in-Missing-clause-some : goal.returns-in-Missing-clause-some
returns-in-Missing-clause-some c =
    let states = c.args.self.now.states.items in
    subst (λ reply. IfSome c.index.result.now (IsGuess (IsReadIn states c.args.found.now.op reply) c.args.bound)) (sym c.in-Missing.is)
    (entry_some states false c.args.self.now.absent.items c.args.bound c.index.result.now
    (IsReadIn states c.args.found.now.op Missing) c.requires.laid_out.1.absent c.requires.bound c.index.ensures
    (missing_to states c.args.found.now.op) (missing_back states c.args.found.now.op))

pub returns-in-Missing-clause-none : goal.returns-in-Missing-clause-none
returns-in-Missing-clause-none c =
    let states = c.args.self.now.states.items in
    subst (λ reply. IfNone c.index.result.now (HoldsNowhere (IsReadIn states c.args.found.now.op reply) c.args.bound)) (sym c.in-Missing.is)
    (entry_none states false c.args.self.now.absent.items c.args.bound c.index.result.now
    (IsReadIn states c.args.found.now.op Missing) c.requires.laid_out.1.absent c.requires.bound c.index.ensures
    (missing_to states c.args.found.now.op))
