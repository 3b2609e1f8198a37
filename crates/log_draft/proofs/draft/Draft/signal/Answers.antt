use Rattle.std.proofs.Common.{ap}
use Rattle.log_spelling.specs.declared.reference.Part.TheVariants as part
use Rattle.mission_items.specs.Names.{signal_of}
use Rattle.mission_items.proofs.Standing.{signal-found}
use Rattle.log_draft.proofs.draft.Draft.signal.Goals as goal

pub returns-in-Signal-clause-known : goal.returns-in-Signal-clause-known
returns-in-Signal-clause-known c = (signal-found c.requires.name c.args.self.now.items c.args.declared c.in-Signal.id part.Whole c.requires.found (ap signal_of c.in-Signal.is)).0
