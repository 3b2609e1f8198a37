use Rattle.std.proofs.Common.{◌<◌, length, arith}
use Rattle.ctc_core.proofs.OneByOne.{revise-step}
use Rattle.ctc_core.proofs.one_by_one.revise_by_formulas.Goals as goal

pub loop-i-preserved : goal.loop-i-preserved
loop-i-preserved g c =
    let F = g.F.Formulas in
    let me = c.args.formulas.now in
    let inside : c.loop-i.i < length (F.projections me c.args.store.now.shape) = omega (arith, c.count-i-end.ensures) in
    revise-step (F.projections me) (F.fits me) (g.met.F.Formulas.monotone me) (g.met.F.Formulas.fits_below me) c.args.store.now c.loop-i.store c.revise_at-next.new.store c.loop-i.i c.loop-i.answer c.revise_at-next.result c.then-answer.result inside c.requires c.then-answer.ensures c.loop-i.invariant c.revise_at-next.ensures
