use Rattle.std.proofs.Common.{◌≡◌, ◌+◌, ◌≤◌, ◌++◌, length, flat_map}
use Rattle.std.specs.List.{AllByRecursion}
use Rattle.report_reader.specs.Sections.{IsLine, line_text}
use Rattle.report_reader.proofs.read.read_lines.Given as goal

-- The lines read so far are right and stand before the rest, and the next one has this number.
abbrev pub invariant-loop-text : goal.invariant-loop-text
invariant-loop-text l = record {
  lines : AllByRecursion IsLine l.lines.items;
  split : flat_map line_text l.lines.items ++ l.rest ≡ l.bytes;
  at : l.at ≡ length l.lines.items + 2;
  room : length l.lines.items + length l.rest ≤ length l.bytes;
}

abbrev pub decreases-loop-text : goal.decreases-loop-text
decreases-loop-text l = length l.rest
