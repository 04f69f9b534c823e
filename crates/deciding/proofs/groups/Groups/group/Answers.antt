use Rattle.std.proofs.Common.{rules, ◌≡◌, ◌-◌, ◌∙◌, Some, sym, subst, ap, slice_get, length, take, drop, eqb, ltb}
use Rattle.std.proofs.lemmas.List.{take_rest}
use Rattle.std.proofs.lemmas.List.Sorted.{IsPartitionPoint-from_clause, IsPartitionedBy-ltb}
use Rattle.std.specs.List.Sorted.{IsPartitionedBy}
use Rattle.deciding.specs.declared.groups.Entry.{Entry}
use Rattle.deciding.specs.aids.Groups.{Has}
use Rattle.deciding.proofs.GroupLemmas.{DoKeysRise, IsEnd, IsFirst, group_has, group_only, in_listed, keys_rise, listed_in, rest_parted}
use Rattle.deciding.proofs.groups.Groups.group.Goals as goal

first_is : (c : goal.After-partition_point) → DoKeysRise c.args.self.now.entries.items → IsFirst c.args.key c.args.self.now.entries.items c.partition_point-first.result
first_is c rise =
    let entries = c.deref.result.now in
    let parted = IsPartitionedBy-ltb (λ (e : Entry). e.key) entries c.args.key (subst DoKeysRise (sym c.deref.ensures.value) rise) in
    let point = IsPartitionPoint-from_clause (λ (e : Entry). ltb e.key c.args.key) entries c.partition_point-first.result c.partition_point-first.ensures.partitioned parted (λ a r q k. search rules) in
    subst (λ xs. IsFirst c.args.key xs c.partition_point-first.result) c.deref.ensures.value point

rest_is : (c : goal.After-partition_point) → take (length c.deref-2.result.now - c.partition_point-first.result) (drop c.partition_point-first.result c.deref-2.result.now)
    ≡ drop c.partition_point-first.result c.args.self.now.entries.items
rest_is c = take_rest c.deref-2.result.now c.partition_point-first.result ∙ ap (drop c.partition_point-first.result) c.deref-2.ensures.value

end_is : (c : goal.After-partition_point) → DoKeysRise c.args.self.now.entries.items
    → IsEnd c.args.key (drop c.partition_point-first.result c.args.self.now.entries.items) c.partition_point.result
end_is c rise =
    let rest = take (length c.deref-2.result.now - c.partition_point-first.result) (drop c.partition_point-first.result c.deref-2.result.now) in
    let parted = rest_parted c.args.key c.args.self.now.entries.items c.partition_point-first.result rise (first_is c rise) in
    let point = IsPartitionPoint-from_clause (λ (e : Entry). eqb e.key c.args.key) rest c.partition_point.result c.partition_point.ensures.partitioned
    (subst (IsPartitionedBy (λ (e : Entry). eqb e.key c.args.key)) (sym (rest_is c)) parted) (λ a r q k. search rules) in
    subst (λ xs. IsEnd c.args.key xs c.partition_point.result) (rest_is c) point

pub returns-clause-all : goal.returns-clause-all
returns-clause-all c list are i e at is =
    let rise = keys_rise list c.args.self.now are in
    let has = listed_in list c.args.self.now e are (i, at) in
    let there = group_has c.args.key c.args.self.now.entries.items c.partition_point-first.result c.partition_point.result e (first_is c rise) (end_is c rise) has is in
    subst (λ xs. Has (take c.partition_point.result xs) e) (sym (rest_is c)) there

pub returns-clause-only : goal.returns-clause-only
returns-clause-only c list are j e at =
    let rise = keys_rise list c.args.self.now are in
    let there = subst (λ xs. slice_get (take c.partition_point.result xs) j ≡ Some e) (rest_is c) at in
    let is = group_only c.args.key c.args.self.now.entries.items c.partition_point-first.result c.partition_point.result j e (end_is c rise) there in
    (is.0, in_listed list c.args.self.now e are is.1)
