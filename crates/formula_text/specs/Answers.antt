-- What a refusal to read a text says of it.
use Rattle.std.specs.Prelude.{◌≡◌, ℕ, List, Err}
use Rattle.expr_text.specs.declared.fault.ExprFault.{ExprFault}
use Rattle.expr_text.specs.declared.fault.ExprFault.TheVariants as fault
use Rattle.expr_text.specs.Reading.{FaultAt}
use Rattle.formula_text.specs.Readings.{Deep, Text, reading_of}

-- The text is no relation, and its first fault stands there; it is one that passes a limit; or memory was refused.
abbrev pub IsRefusal : List ℕ → ExprFault → Type 0
IsRefusal text (fault.Text place) = (reading_of text ≡ Err Text) × FaultAt text place
IsRefusal text fault.Deep = reading_of text ≡ Err Deep
IsRefusal text fault.NoMemory = Unit {0}
