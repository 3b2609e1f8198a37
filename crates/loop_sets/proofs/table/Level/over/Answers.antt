use Rattle.std.proofs.Common.{arith, ◌+◌, ◌-◌}
use Rattle.std.proofs.lemmas.Int.{ints, clamps}
use Rattle.loop_sets.proofs.Tabling.{level-top, read-at}
use Rattle.loop_sets.proofs.table.Level.over.Goals as goal

pub returns : goal.returns
returns c = λ values is.
    let level = c.args.self.now in
    let place = c.args.last + 1 - level.side in
    let l = read-at level.tops.items c.args.first c.index.result.now (omega arith) c.index.ensures in
    let r = read-at level.tops.items place c.index-2.result.now (omega arith) c.index-2.ensures in
    let value = c.max.ensures.value in
    let a = is.small c.args.first in
    let b = is.small place in
    level-top values level c.args.first c.args.last place c.index.result.now c.index-2.result.now _ is (omega arith) (omega arith) (omega arith) (omega arith) l r (omega (arith, ints, clamps, l, r, a, b, value))
