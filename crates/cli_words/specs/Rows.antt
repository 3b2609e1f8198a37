-- Command lines, and what they ask for.
use Rattle.std.specs.Prelude.{◌≡◌, ℕ, List, Some, None, Option, false}
use Rattle.cli_words.specs.Asked.{asked_of}
use Rattle.cli_words.specs.declared.answer.Asked.{Asked}
use Rattle.cli_words.specs.declared.answer.Mode.{Mode}
use Rattle.cli_words.specs.declared.answer.OrderWord.TheVariants as order

-- a mode with no option
abbrev pub plain : Mode → Asked
plain m = record { mode = m; budget = 1000000000000000000; order = order.Fifo; brief = false; seed = 1; step = 1000 }

-- these words ask for this
abbrev pub AsksFor : List (List ℕ) → Asked → Type 0
AsksFor words asked = asked_of words ≡ Some asked

-- the command refuses these words
abbrev pub IsRefused : List (List ℕ) → Type 0
IsRefused words = ◌≡◌ {A = Option Asked} (asked_of words) None
