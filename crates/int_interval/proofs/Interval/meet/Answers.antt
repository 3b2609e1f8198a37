use Rattle.std.proofs.Common.{rules}
use Rattle.int_interval.proofs.Images.{meeting-some, meeting-none}
use Rattle.int_interval.proofs.Interval.meet.Goals as goal

pub returns-then-lo-hi-clause-shared : goal.returns-then-lo-hi-clause-shared
returns-then-lo-hi-clause-shared c = meeting-some c.args.self c.args.other _ (search rules) (search rules)

pub returns-else-lo-hi-clause-shared : goal.returns-else-lo-hi-clause-shared
returns-else-lo-hi-clause-shared c = meeting-none c.args.self c.args.other (search rules)
