use Rattle.std.proofs.Common.{◌≡◌, take, flat_map}
use Rattle.log_text.specs.NameTexts.{texts_of}
use Rattle.log_text.specs.Texts.{item_line}
use Rattle.log_text.proofs.print.print_log.Given as goal

abbrev pub invariant-loop-item : goal.invariant-loop-item
invariant-loop-item l = l.text.items ≡ flat_map (item_line (texts_of l.items) l.mission) (take l.item-index l.items)
