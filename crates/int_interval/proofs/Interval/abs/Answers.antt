use Rattle.std.proofs.Common.{rules, subst}
use Rattle.tube_spec.specs.Span.{IsProper}
use Rattle.int_interval.specs.Image.{int_abs, abs_of}
use Rattle.int_interval.proofs.Images.{abs-image, image-same}
use Rattle.int_interval.proofs.Interval.abs.Goals as goal

pub returns-then-self-ge0-clause-image : goal.returns-then-self-ge0-clause-image
returns-then-self-ge0-clause-image c = image-same int_abs c.args.self _ (abs_of c.args.self) (search rules) (abs-image c.args.self (subst IsProper c.self.view_is c.self.invariant.0))

pub returns-then-self-le0-clause-image : goal.returns-then-self-le0-clause-image
returns-then-self-le0-clause-image c = image-same int_abs c.args.self _ (abs_of c.args.self) (search rules) (abs-image c.args.self (subst IsProper c.self.view_is c.self.invariant.0))

pub returns-else-self-le0-clause-image : goal.returns-else-self-le0-clause-image
returns-else-self-le0-clause-image c = image-same int_abs c.args.self _ (abs_of c.args.self) (search rules) (abs-image c.args.self (subst IsProper c.self.view_is c.self.invariant.0))
