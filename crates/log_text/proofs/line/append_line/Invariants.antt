use Rattle.std.proofs.Common.{◌≡◌, ◌++◌, map, take}
use Rattle.csv_rows.specs.Lines.{others}
use Rattle.log_spelling.specs.Kinds.{word_of}
use Rattle.log_text.specs.Written.{field_text}
use Rattle.log_text.proofs.line.append_line.Given as goal

abbrev pub invariant-loop-field : goal.invariant-loop-field
invariant-loop-field l = l.out.items ≡ (l.fn.out.items ++ word_of l.fn.kind) ++ others (map field_text (take l.field-index l.fields))
