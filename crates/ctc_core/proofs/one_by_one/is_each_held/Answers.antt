use Rattle.std.proofs.Common.{◌≡◌, ◌<◌, true, length, arith}
use Rattle.ctc_core.proofs.OneByOne.{checks-step}
use Rattle.ctc_core.proofs.one_by_one.is_each_held.Goals as goal

pub loop-i-preserved : goal.loop-i-preserved
loop-i-preserved g c =
    let inside : c.loop-i.i < length (g.F.Formulas.projections c.args.formulas.now c.args.store.now.shape) = omega (arith, c.count-i-end.ensures) in
    let held : c.is_held_at.result ≡ true = grind arith in
    checks-step _ c.args.store.now.box c.loop-i.i c.is_held_at.result inside held c.loop-i.invariant c.is_held_at.ensures
