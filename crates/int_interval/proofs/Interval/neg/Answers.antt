use Rattle.std.proofs.Common.{rules, subst, neg_ℤ}
use Rattle.tube_spec.specs.Span.{IsProper}
use Rattle.int_interval.specs.Image.{neg_of}
use Rattle.int_interval.proofs.Images.{neg-image, image-same}
use Rattle.int_interval.proofs.Interval.neg.Goals as goal

pub returns-clause-image : goal.returns-clause-image
returns-clause-image c = image-same neg_ℤ c.args.self _ (neg_of c.args.self) (search rules) (neg-image c.args.self (subst IsProper c.self.view_is c.self.invariant.0))
