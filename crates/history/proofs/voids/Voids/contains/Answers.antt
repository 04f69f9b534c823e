use Rattle.std.proofs.Common.{sym, subst}
use Rattle.std.specs.Prelude.{◌↔◌, Contains, IsTrue}
use Rattle.std.specs.Cmp.{nat_cmp_total}
use Rattle.std.specs.FinMap.{nat_cmp-IsAntisymmetric}
use Rattle.std.proofs.lemmas.Map.Views.{btree_set_contains_from_list}
use Rattle.history.proofs.voids.Voids.contains.Goals as goal

pub returns : goal.returns
returns c =
    subst (λ xs. IsTrue c.contains.result ↔ Contains xs c.args.no) c.self.view_is
    (subst (λ b. IsTrue b ↔ Contains c.self.inside.numbers.items c.args.no) (sym c.contains.ensures)
    (btree_set_contains_from_list nat_cmp_total nat_cmp-IsAntisymmetric c.self.inside.numbers.items c.self.inside.known c.self.invariant c.args.no))
