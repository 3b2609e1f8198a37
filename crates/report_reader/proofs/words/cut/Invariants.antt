use Rattle.std.proofs.Common.{take}
use Rattle.report_reader.specs.Words.{Lacks}
use Rattle.report_reader.proofs.words.cut.Given as goal

abbrev pub invariant-loop-i : goal.invariant-loop-i
invariant-loop-i l = Lacks l.at (take l.i l.text)
