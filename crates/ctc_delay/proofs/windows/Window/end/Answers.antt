use Rattle.std.proofs.Common.{arith}
use Rattle.ctc_delay.proofs.OverWindows.{first-rises, last-rises}
use Rattle.ctc_delay.proofs.windows.Window.end.Goals as goal

pub overflow_sub-result : goal.overflow_sub-result
overflow_sub-result c =
    omega (arith, c.requires.fits.reached, c.ticks_at.ensures.first, c.ticks_at.ensures.order, first-rises c.args.store.now.shape.grid c.known.ensures.shape.grid c.args.from c.args.place c.requires.after c.requires.place)

pub returns-clause-rises : goal.returns-clause-rises
returns-clause-rises c = omega (arith, c.ticks_at.ensures.last, last-rises c.args.store.now.shape.grid c.known.ensures.shape.grid c.args.from c.args.place c.requires.after c.requires.place)
