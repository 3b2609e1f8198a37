use Rattle.std.proofs.Common.{arith}
use Rattle.log_draft.proofs.Records.{beacons-few}
use Rattle.log_draft.proofs.draft.Draft.beacons.Goals as goal

pub returns-clause-few : goal.returns-clause-few
returns-clause-few c = omega (arith, c.self.invariant.counts.beacon_count, beacons-few c.self.inside.items.items, c.self.invariant.few.variables)
