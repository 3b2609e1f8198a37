use Rattle.std.proofs.Common.{ℕ, ◌<◌}
use Rattle.area_paver.specs.Lattice.{coordinate}
use Rattle.area_paver.specs.Survey.{IsMark}
use Rattle.area_paver.specs.Charts.{AreLines, mark_in, marks_of}
use Rattle.area_paver.proofs.line.lines.Given as goal

-- the lines so far
abbrev pub invariant-loop-i : goal.invariant-loop-i
invariant-loop-i l = record {
  len : AreLines (marks_of l.lines.items) l.i l.axis.count;
  marks : (i c : ℕ) → i < l.i → c < l.axis.count → IsMark (record { xs = l.xs; ys = l.ys; radius = l.sensor.radius; norm = l.sensor.norm }) (coordinate l.axis c) (coordinate l.other i) (mark_in (marks_of l.lines.items) i c);
}
