use Rattle.std.proofs.Common.{◌≡◌, ◌<◌, Option, Some, IfSome, arith, length, slice_get}
use Rattle.ctc_network.specs.Nets.{IsThere, of_place}
use Rattle.round_firing.proofs.Rounds.{fired-says, said-there}
use Rattle.round_firing.proofs.fire_waiting.Goals as goal

pub returns-clause-says : goal.returns-clause-says
returns-clause-says g c =
    said-there g.C.Contractor.projections c.args.net.now c.fire.new.self c.args.id.0 c.fire.result _ _ (c.known.ensures.there c.args.id.0 c.if-not-waits.ensures)
    (omega (arith, c.requires.number, c.known.ensures.places.beside)) c.fire.ensures.fired c.fire.ensures.waiting
