use Rattle.std.proofs.Common.{sym}
use Rattle.slice_gates.proofs.Places.{tick_place-at_gate, tick_place-in_slice}
use Rattle.slice_gates.proofs.Grid.place_of.Goals as goal

pub returns-in-Some-clause-place : goal.returns-in-Some-clause-place
returns-in-Some-clause-place c = sym (tick_place-at_gate c.args.self.now c.args.tick c.in-Some.i c.known.ensures c.in-Some.ensures)

pub returns-in-None-clause-place : goal.returns-in-None-clause-place
returns-in-None-clause-place c = sym (tick_place-in_slice c.args.self.now c.args.tick c.slice_of.result c.known.ensures c.requires c.in-None.ensures c.slice_of.ensures)
