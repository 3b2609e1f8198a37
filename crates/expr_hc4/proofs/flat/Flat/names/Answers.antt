use Rattle.std.proofs.Common.{◌≡◌, length, ap, arith}
use Rattle.tube_names.specs.declared.leaves.Leaf.{Leaf}
use Rattle.tube_names.proofs.Uses.{uses-length}
use Rattle.expr_hc4.proofs.flat.Flat.names.Goals as goal

pub returns-clause-few : goal.returns-clause-few
returns-clause-few c =
    let e = c.as_slice.ensures.value in
    let f = ap length c.self.invariant.uses in
    omega (arith, ap length e, f, uses-length c.self.inside.leaves.items, c.self.invariant.each, c.self.invariant.few)
