use Rattle.std.proofs.Common.{rules, arith, ◌≡◌, ◌-◌, ap₂, subst, leb, take, length, List, ℕ}
use Rattle.std.proofs.lemmas.List.Sorted.{IsPartitionPoint-from_clause, IsPartitionedBy-leb}
use Rattle.slice_gates.specs.Ticks.{IsSliceOf}
use Rattle.slice_gates.proofs.Boundaries.{slice-found, starts-rise}
use Rattle.slice_gates.proofs.Grid.slice_of.Goals as goal

pub overflow_sub-result : goal.overflow_sub-result
overflow_sub-result c =
    let same : take (c.len.result - 1) c.deref.result.now ≡ take (length c.self.inside.bounds.items - 1) c.self.inside.bounds.items = ap₂ (λ (n : ℕ) (l : List ℕ). take (n - 1) l) (omega arith) c.deref.ensures.value in
    let parted = IsPartitionedBy-leb (λ s. s) _ c.args.tick (starts-rise c.self.inside.bounds.items _ c.self.invariant same) in
    let point = IsPartitionPoint-from_clause (λ s. leb s c.args.tick) _ _ c.partition_point-begun.ensures.partitioned parted (λ a r q k. search rules) in
    (slice-found c.self.inside.bounds.items _ c.args.tick c.partition_point-begun.result c.self.invariant same c.partition_point-begun.ensures.bound point).0

pub returns : goal.returns
returns c =
    let same : take (c.len.result - 1) c.deref.result.now ≡ take (length c.self.inside.bounds.items - 1) c.self.inside.bounds.items = ap₂ (λ (n : ℕ) (l : List ℕ). take (n - 1) l) (omega arith) c.deref.ensures.value in
    let parted = IsPartitionedBy-leb (λ s. s) _ c.args.tick (starts-rise c.self.inside.bounds.items _ c.self.invariant same) in
    let point = IsPartitionPoint-from_clause (λ s. leb s c.args.tick) _ _ c.partition_point-begun.ensures.partitioned parted (λ a r q k. search rules) in
    subst (λ (l : List ℕ). IsSliceOf l c.args.tick (c.partition_point-begun.result - 1)) c.self.view_is
    (slice-found c.self.inside.bounds.items _ c.args.tick c.partition_point-begun.result c.self.invariant same c.partition_point-begun.ensures.bound point).1
