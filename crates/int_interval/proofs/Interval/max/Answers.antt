use Rattle.std.proofs.Common.{rules, subst, arith}
use Rattle.std.specs.Int.{int_max}
use Rattle.std.proofs.lemmas.Int.{ints, clamps}
use Rattle.tube_spec.specs.Span.{IsProper}
use Rattle.int_interval.specs.Image.{max_of}
use Rattle.int_interval.proofs.Images.{max-image, image_of_two-same}
use Rattle.int_interval.proofs.Interval.max.Goals as goal

pub invariant_of-result : goal.invariant_of-result
invariant_of-result c = (omega (arith, ints, clamps), record { low = omega (arith, ints, clamps); high = omega (arith, ints, clamps) })

pub returns-clause-image : goal.returns-clause-image
returns-clause-image c = image_of_two-same int_max c.args.self c.args.other _ (max_of c.args.self c.args.other) (search rules) (max-image c.args.self c.args.other (subst IsProper c.self.view_is c.self.invariant.0) (subst IsProper c.other.view_is c.other.invariant.0))
