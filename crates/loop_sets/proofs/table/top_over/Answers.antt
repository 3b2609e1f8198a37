use Rattle.loop_sets.proofs.Tabling.{level-some}
use Rattle.loop_sets.proofs.table.top_over.Goals as goal

pub returns-then-is_some : goal.returns-then-is_some
returns-then-is_some c = level-some c.args.levels.now c.loop-level.level-index c.args.first c.args.last c.level-item.result c.over-top.result c.loop-level-test.true c.level-item.is c.over-top.ensures
