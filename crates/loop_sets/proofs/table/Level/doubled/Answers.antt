use Rattle.std.proofs.Common.{arith, length, ◌≡◌, ◌-◌}
use Rattle.loop_sets.proofs.Tabling.{next-level}
use Rattle.loop_sets.proofs.table.Level.doubled.Goals as goal

pub returns-clause-tops : goal.returns-clause-tops
returns-clause-tops c = λ values is.
    let n : c.loop-i.i ≡ length c.args.self.now.tops.items - c.args.self.now.side = omega arith in
    next-level values c.args.self.now c.loop-i.tops is (omega (arith, c.loop-i.invariant.len)) (λ k l. c.loop-i.invariant.tops k (omega (arith, c.loop-i.invariant.len, l)))
