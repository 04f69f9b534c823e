use Rattle.std.proofs.Common.{◌≡◌, ◌+◌, ◌∙◌, ap, cond, sym, true, false, add-zero}
use Rattle.std.specs.Prelude.{replicate}
use Rattle.repl_group.specs.aids.Following.{follows}
use Rattle.repl_group.proofs.FollowLemmas.{led-follower, led-other, popped, popped_some}
use Rattle.repl_group.proofs.replicas.lead.Goals as goal

pub returns-in-Some : goal.returns-in-Some
returns-in-Some c held n equal =
    let is : follows c.args.replica.now ≡ true = sym c.is_follower.ensures ∙ c.if-not-is_follower.false in
    let p = popped _ _ c.in-Some.set n _ held (equal ∙ ap (λ b. replicate (n + cond b 1 0) held) is) c.args.sets.now.ok.0 c.in-Some.ensures.value c.in-Some.ensures.rest in
    (ap (λ s. record c.args.replica.now { held = s }) p.0 ∙ led-follower c.args.replica.now held is, p.1)

pub returns-in_default : goal.returns-in_default
returns-in_default c held n equal =
    let is : follows c.args.replica.now ≡ true = sym c.is_follower.ensures ∙ c.if-not-is_follower.false in
    popped_some _ n _ held (equal ∙ ap (λ b. replicate (n + cond b 1 0) held) is) c.args.sets.now.ok.0 c.in_default.ensures.value

pub returns-then-not-is_follower : goal.returns-then-not-is_follower
returns-then-not-is_follower c held n equal =
    let is : follows c.args.replica.now ≡ false = sym c.is_follower.ensures ∙ c.if-not-is_follower.true in
    let none : n + 0 ≡ n = add-zero n in
    (led-other c.args.replica.now held is, equal ∙ (ap (λ b. replicate (n + cond b 1 0) held) is ∙ ap (λ k. replicate k held) none))
