use Rattle.std.proofs.Common.{◌≡◌, ◌⊎◌, true, Some, None, map, take}
use Rattle.std.specs.List.{All}
use Rattle.casbench.specs.Input.{names_input}
use Rattle.casbench.specs.declared.files.Source.TheVariants.{Input}
use Rattle.casbench.proofs.files.open_each.Given as goal

abbrev pub invariant-loop-name : goal.invariant-loop-name
invariant-loop-name g l =
    (map (λ t. t.name.now) l.texts.items ≡ map (λ n. n.now) (take l.name-index l.names))
    × All (λ t. names_input (Some t.name.now) ≡ true → t.source ≡ Input l.fn.input) l.texts.items
    × ((l.left ≡ Some l.fn.input) ⊎ (l.left ≡ None))
