use Rattle.std.proofs.Common.{◌≡◌, ◌<◌, true, false, arith}
use Rattle.ctc_parts.proofs.Testing.{checks-more, checks-not}
use Rattle.ctc_parts.proofs.all.is_each_part_held.Goals as goal

pub returns-then-not-is_part_held : goal.returns-then-not-is_part_held
returns-then-not-is_part_held g c =
    let P = g.P.Parts in
    let me = c.args.parts.now in
    let s = c.args.store.now in
    let inside : c.loop-i.i < P.parts me s.shape = omega (arith, c.loop-i-test.true, c.count-i-end.ensures) in
    let held : c.is_part_held.result ≡ false = grind arith in
    checks-not (P.parts me s.shape) (P.part me s.shape) s.box c.loop-i.i c.is_part_held.result inside held c.is_part_held.ensures

pub loop-i-preserved : goal.loop-i-preserved
loop-i-preserved g c =
    let P = g.P.Parts in
    let me = c.args.parts.now in
    let s = c.args.store.now in
    let held : c.is_part_held.result ≡ true = grind arith in
    checks-more (P.part me s.shape) s.box c.loop-i.i c.is_part_held.result held c.loop-i.invariant c.is_part_held.ensures
