use Rattle.std.proofs.Common.{arith}
use Rattle.std.proofs.lemmas.List.Elements.{All-push}
use Rattle.loop_sets.specs.Tables.{IsLevel}
use Rattle.loop_sets.proofs.table.Sparse.new.Goals as goal

pub loop-level-preserved : goal.loop-level-preserved
loop-level-preserved c =
    let before = c.loop-level.invariant in
    record {
      side = omega (arith, before.side, c.in_ok-next.ensures.side);
      short = omega (arith, before.short, c.in_ok-next.ensures.len);
      next = c.in_ok-next.ensures.tops c.args.values.items before.next;
      levels = rw c.in_ok-push.ensures.items (All-push (IsLevel c.args.values.items) c.loop-level.levels.items c.loop-level.level before.levels before.next);
    }

pub invariant_of-result : goal.invariant_of-result
invariant_of-result c =
    rw c.in_ok-push-2.ensures.items (All-push (IsLevel c.args.values.items) c.loop-level.levels.items c.loop-level.level c.loop-level.invariant.levels c.loop-level.invariant.next)
