use Rattle.std.proofs.Common.{rules, subst, arith}
use Rattle.std.proofs.lemmas.Int.{ints, clamps}
use Rattle.tube_spec.specs.Span.{IsProper}
use Rattle.int_interval.proofs.Images.{union-same}
use Rattle.int_interval.proofs.Interval.hull.Goals as goal

pub invariant_of-result : goal.invariant_of-result
invariant_of-result c = (omega (arith, ints, clamps), record { low = omega (arith, ints, clamps); high = omega (arith, ints, clamps) })

pub returns-clause-least : goal.returns-clause-least
returns-clause-least c = union-same c.args.self c.args.other _ (search rules) (subst IsProper c.self.view_is c.self.invariant.0) (subst IsProper c.other.view_is c.other.invariant.0)
