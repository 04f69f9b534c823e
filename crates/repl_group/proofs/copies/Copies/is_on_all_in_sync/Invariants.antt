use Rattle.std.proofs.Common.{◌≡◌, take, true}
use Rattle.std.specs.Prelude.{◌||◌, not}
use Rattle.std.specs.List.{list_all}
use Rattle.repl_group.specs.Copies.{holds}
use Rattle.repl_group.specs.aids.Logging.{held_at}
use Rattle.repl_group.proofs.copies.Copies.is_on_all_in_sync.Given as goal

abbrev pub invariant-loop-replica : goal.invariant-loop-replica
invariant-loop-replica l =
    list_all (λ z. not z.is_in_sync || holds (held_at l.self-inside.log z.held.place) l.ticket) (take l.replica-index l.self-inside.list.items) ≡ true
