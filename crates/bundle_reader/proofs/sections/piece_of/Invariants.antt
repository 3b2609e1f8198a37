use Rattle.std.proofs.Common.{length}
use Rattle.bundle_reader.proofs.SectionParts.{IsPassed}
use Rattle.bundle_reader.proofs.sections.piece_of.Given as goal

-- What was passed stands in front of the rest, and of a section that stands in front only lines before its last were passed.
abbrev pub invariant-loop-line : goal.invariant-loop-line
invariant-loop-line l = IsPassed l.bytes l.rest

abbrev pub decreases-loop-line : goal.decreases-loop-line
decreases-loop-line l = length l.rest
