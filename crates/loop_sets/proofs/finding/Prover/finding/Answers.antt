use Rattle.std.proofs.Common.{◌∙◌, sym, arith}
use Rattle.loop_sets.proofs.finding.Prover.finding.Goals as goal

pub least_sure-requires-clause-tracked : goal.least_sure-requires-clause-tracked
least_sure-requires-clause-tracked c =
    let i = c.self.invariant in record {
      ticks = i.tube_y.len ∙ sym i.tube_x.len;
      short = omega (arith, i.tube_x.len, i.short);
      x = i.tube_x.bounded;
      y = i.tube_y.bounded;
      radius = i.asked.radius;
    }
