use Rattle.std.proofs.Common.{ap}
use Rattle.mission_items.specs.Names.{beacon_of}
use Rattle.mission_items.proofs.Standing.{beacon-found}
use Rattle.log_draft.proofs.draft.Draft.beacon.Goals as goal

pub returns-in-Beacon-clause-known : goal.returns-in-Beacon-clause-known
returns-in-Beacon-clause-known c = beacon-found c.requires.name c.args.self.now.items c.args.declared c.in-Beacon.place c.requires.found (ap beacon_of c.in-Beacon.is)
