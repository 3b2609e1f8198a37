use Rattle.std.proofs.Common.{sym, ap, ◌∙◌}
use Rattle.std.specs.Prelude.{decimal}
use Rattle.report_reader.proofs.Ranges.{no_minus_zero, no_negative}
use Rattle.report_reader.proofs.words.negative_of.Goals as goal

pub returns-in_default : goal.returns-in_default
returns-in_default c = no_negative c.args.digits.now c.in_default.ensures

pub returns-then-n-eq0 : goal.returns-then-n-eq0
returns-then-n-eq0 c = no_minus_zero c.args.digits.now (ap decimal (sym c.if-n-eq0.true) ∙ c.in-Some.ensures.1)
