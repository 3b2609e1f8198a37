use Rattle.std.proofs.Common.{not, subst}
use Rattle.ctc_core.specs.Checking.{Checks}
use Rattle.ctc_deriv.specs.Derivs.{deriv_projections}
use Rattle.ctc_deriv.specs.declared.DerivCtc.{DerivCtc}
use Rattle.ctc_sweeps.proofs.Reading.{checks-still}
use Rattle.ctc_sweeps.proofs.deriv_sweep.DerivSweepParts.is_part_held.Goals as goal

pub returns : goal.returns
returns c =
    let s = c.args.store.now in
    let slice = c.new-slice.result in
    let still = c.still_by_formulas.result in
    subst (λ (d : DerivCtc). Checks (deriv_projections s.shape d.x.0 d.rate.0 d.slice) s.box (not still)) c.new-slice.ensures
    (checks-still (deriv_projections s.shape slice.x.0 slice.rate.0 slice.slice) s still c.known.ensures c.still_by_formulas.ensures.yes c.still_by_formulas.ensures.no)
