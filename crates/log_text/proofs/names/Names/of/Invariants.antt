use Rattle.std.proofs.Common.{◌≡◌, take}
use Rattle.log_text.specs.NameTexts.{texts_of}
use Rattle.log_text.proofs.names.Names.of.Given as goal

abbrev pub invariant-loop-item : goal.invariant-loop-item
invariant-loop-item l = l.names ≡ texts_of (take l.item-index l.items)
