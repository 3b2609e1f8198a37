use Rattle.std.proofs.Common.{Some, None, ap}
use Rattle.ctc_core.specs.Given.{narrowing_given}
use Rattle.ctc_core.proofs.OneByOne.{given-fires}
use Rattle.ctc_core.proofs.one_by_one.revise_at.Goals as goal

pub returns-in-Nothing : goal.returns-in-Nothing
returns-in-Nothing g c =
    let F = g.F.Formulas in
    let me = c.args.formulas.now in
    given-fires (F.projections me) (F.fits me) (g.met.F.Formulas.monotone me) (g.met.F.Formulas.fits_below me) c.args.store.now c.hold.new.store c.args.i c.target-cell.result.0 c.given.result None c.hold.result c.requires.fits c.requires.below c.target-cell.ensures c.given.ensures (ap narrowing_given c.in-Nothing.is) c.hold.ensures

pub returns-in-Within : goal.returns-in-Within
returns-in-Within g c =
    let F = g.F.Formulas in
    let me = c.args.formulas.now in
    given-fires (F.projections me) (F.fits me) (g.met.F.Formulas.monotone me) (g.met.F.Formulas.fits_below me) c.args.store.now c.hold-in-Within.new.store c.args.i c.target-cell.result.0 c.given.result (Some c.in-Within.to) c.hold-in-Within.result c.requires.fits c.requires.below c.target-cell.ensures c.given.ensures (ap narrowing_given c.in-Within.is) c.hold-in-Within.ensures
