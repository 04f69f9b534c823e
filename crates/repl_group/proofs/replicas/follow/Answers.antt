use Rattle.std.proofs.Common.{◌≡◌, ◌∙◌, ap, sym}
use Rattle.std.proofs.lemmas.Option.{get_or_from_slice_get}
use Rattle.std.specs.Prelude.{count_by, replicate}
use Rattle.repl_group.specs.aids.Keeping.{taken_by}
use Rattle.repl_group.specs.declared.replica.Replica.{Replica}
use Rattle.repl_group.specs.aids.Following.{follows}
use Rattle.repl_group.proofs.FollowLemmas.{led-follower, sets_are}
use Rattle.repl_group.proofs.ListLemmas.{count-set, map-set_alike}
use Rattle.repl_group.proofs.replicas.follow.Goals as goal

pub returns-clause-ok : goal.returns-clause-ok
returns-clause-ok c y at is =
    let before : Replica = c.index_mut.result.now in
    let emptied : Replica = record before { held = c.replace-own.new.dest } in
    let was : before ≡ y = c.index_mut.ensures.value ∙ get_or_from_slice_get c.args.replicas.now.items c.args.primary y before at in
    let seen : c.index.result.now ≡ y = c.index.ensures ∙ get_or_from_slice_get c.args.replicas.now.items c.args.primary y c.index.result.now at in
    let follows_still : follows emptied ≡ follows y = ap follows was in
    let led : taken_by y.held emptied ≡ taken_by y.held y =
    sym (led-follower emptied y.held (follows_still ∙ is)) ∙ (ap (λ (z : Replica). record z { held = y.held }) was ∙ led-follower y y.held is) in
    let sets : c.push_reserved.new.self.items ≡ replicate (count_by follows c.args.replicas.now.items) y.held =
    sets_are c.args.replicas.now.items c.args.primary y c.follower_count.result c.saturating_sub-others.result c.reserve.new.self.items c.push_reserved.new.self.items
    c.index.result.now.held c.replace-own.result at is (c.follower_count.ensures ∙ ap (count_by follows) c.deref.ensures.value) c.saturating_sub-others.ensures
    (c.in_ok-reserve.ensures.items ∙ c.in_ok-sets.ensures) (ap (λ (z : Replica). z.held) seen) (c.replace-own.ensures.value ∙ ap (λ (z : Replica). z.held) was) c.push_reserved.ensures.items in
    c.hand_over.ensures y.held (sets ∙ ap (λ n. replicate n y.held) (sym (count-set follows c.args.replicas.now.items c.args.primary y emptied at follows_still)))
    ∙ map-set_alike (taken_by y.held) c.args.replicas.now.items c.args.primary y emptied at led
