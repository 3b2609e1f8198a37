use Rattle.ctc_network.proofs.Events.{signal-step, var-step, add-step, fire-step}
use Rattle.ctc_network.proofs.laws.event_law.Goals as goal

pub returns-clause-add_signal : goal.returns-clause-add_signal
returns-clause-add_signal g c = signal-step g.row.C.Denot g.C.Contractor.projections g.C.Contractor.fits

pub returns-clause-add_var : goal.returns-clause-add_var
returns-clause-add_var g c = var-step g.row.C.Denot g.C.Contractor.projections g.C.Contractor.fits

pub returns-clause-add : goal.returns-clause-add
returns-clause-add g c = add-step g.row.C.Denot g.C.Contractor.projections g.C.Contractor.fits

pub returns-clause-fire : goal.returns-clause-fire
returns-clause-fire g c = fire-step g.row.C.Denot g.C.Contractor.projections g.C.Contractor.fits
