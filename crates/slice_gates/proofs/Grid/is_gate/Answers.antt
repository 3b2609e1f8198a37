use Rattle.std.proofs.Common.{◌≡◌, List, ℕ, Err, subst, ◌∙◌}
use Rattle.std.specs.Ordering.{nat_cmp}
use Rattle.std.specs.List.Sorted.{IsBinarySearchResult}
use Rattle.tube_spec.specs.Grid.{IsGrid}
use Rattle.slice_gates.proofs.Boundaries.{not-found}
use Rattle.slice_gates.proofs.Grid.is_gate.Goals as goal

pub returns-in-Err : goal.returns-in-Err
returns-in-Err c =
    let same : c.deref.result.now ≡ c.args.self.now = c.deref.ensures.value ∙ c.self.view_is in
    not-found c.args.self.now c.args.tick c.in-Err.field-0 (subst IsGrid c.self.view_is c.self.invariant)
    (subst (λ (l : List ℕ). IsBinarySearchResult (λ y. nat_cmp y c.args.tick) l (Err c.in-Err.field-0)) same c.in-Err.ensures.position)
