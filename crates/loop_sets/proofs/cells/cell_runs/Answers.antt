use Rattle.std.proofs.Common.{ℕ, List, rules, subst, ◌↔◌}
use Rattle.std.proofs.lemmas.Result.{IfOk-weaker}
use Rattle.std.proofs.lemmas.List.Sorted.{answers_always}
use Rattle.tplane_paver.specs.declared.runs.Run.{Run}
use Rattle.tplane_paver.specs.Runs.{InRuns}
use Rattle.loop_sets.proofs.Lists.{iff-trans}
use Rattle.loop_sets.proofs.Merging.{some-sorted, begin-sorted, sorted-pairs}
use Rattle.loop_sets.proofs.cells.cell_runs.Goals as goal

pub merged-requires-clause-some : goal.merged-requires-clause-some
merged-requires-clause-some c = rw c.deref.ensures.value (some-sorted c.in_ok-over.over.items c.sort_unstable_by_key.new.self.items c.sort_unstable_by_key.ensures.permutation c.in_ok-over.ensures.some)

pub merged-requires-clause-order : goal.merged-requires-clause-order
merged-requires-clause-order c =
    rw c.deref.ensures.value (begin-sorted c.sort_unstable_by_key.new.self.items
    (c.sort_unstable_by_key.ensures.sorted (λ (r : Run). let p : ℕ × ℕ = (r.a, r.first) in p) (answers_always _ _ _ (λ f a r g called. search rules))))

pub returns-clause-cells : goal.returns-clause-cells
returns-clause-cells c =
    IfOk-weaker c.merged.result _ _ (λ v h a b.
    iff-trans (subst (λ (runs : List Run). InRuns v.items a b ↔ InRuns runs a b) c.deref.ensures.value (h a b))
    (iff-trans (sorted-pairs c.in_ok-over.over.items c.sort_unstable_by_key.new.self.items c.sort_unstable_by_key.ensures.permutation a b) (c.in_ok-over.ensures.cells a b))) c.merged.ensures.pairs
