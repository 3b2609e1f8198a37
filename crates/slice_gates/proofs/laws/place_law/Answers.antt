use Rattle.slice_gates.proofs.Places.{tick_place-at_gate, tick_place-in_slice}
use Rattle.slice_gates.proofs.laws.place_law.Goals as goal

pub returns-clause-gate : goal.returns-clause-gate
returns-clause-gate c = tick_place-at_gate

pub returns-clause-envelope : goal.returns-clause-envelope
returns-clause-envelope c = tick_place-in_slice
