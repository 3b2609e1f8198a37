use Rattle.std.proofs.Common.{rules, arith, ◌≡◌, sym, subst}
use Rattle.tube_spec.specs.Grid.{IsGrid}
use Rattle.slice_gates.proofs.Boundaries.{IsGrid-from_cuts}
use Rattle.slice_gates.proofs.Grid.from_cuts.Goals as goal

pub invariant_of-result : goal.invariant_of-result
invariant_of-result c =
    let same : c.in_ok-bounds.bounds.items ≡ c.args.cuts.now = search rules in
    subst IsGrid (sym same) (IsGrid-from_cuts c.args.cuts.now (omega arith) (search rules) (search rules) (c.is_rising.ensures.yes (search rules)))
