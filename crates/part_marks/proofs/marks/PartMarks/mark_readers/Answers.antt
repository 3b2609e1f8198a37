use Rattle.std.proofs.Common.{arith}
use Rattle.part_marks.proofs.marks.PartMarks.mark_readers.Goals as goal

pub returns-clause-marked : goal.returns-clause-marked
returns-clause-marked g c i below reads =
    let near = c.reach.ensures i below reads in
    c.mark.ensures.marked i near.0 near.1 (omega (arith, below, c.requires.len))
