-- What the words of a command line ask for.
use Rattle.std.specs.Prelude.{ℕ, ◌≤◌, ◌&&◌, Bool, true, false, List, [], ◌∷◌, Option, Some, None, option_map, option_and_then, unwrap_or, if◌then◌else◌, codes, bytes_eq, nat_le}
use Rattle.std.specs.Str.Parse.{digits_value, without_leading_plus}
use Rattle.clap.specs.Faults.{fault_of}
use Rattle.clap.specs.Kinds.{Kinds}
use Rattle.clap.specs.Simple.{matches_of}
use Rattle.clap.specs.ValueTests.{is_unsigned_in}
use Rattle.clap.specs.Walk.{Row, Text, first_of}
use Rattle.cli_words.specs.Rules.{command_app}
use Rattle.cli_words.specs.declared.answer.Asked.{Asked}
use Rattle.cli_words.specs.declared.answer.Mode.{Mode}
use Rattle.cli_words.specs.declared.answer.Mode.TheVariants as mode
use Rattle.cli_words.specs.declared.answer.OrderWord.{OrderWord}
use Rattle.cli_words.specs.declared.answer.OrderWord.TheVariants as order

-- the mode that a text names
abbrev pub mode_of : Text → Option Mode
mode_of t =
    if bytes_eq t (codes "solve") then Some mode.Solve
    else if bytes_eq t (codes "loops") then Some mode.Loops
    else if bytes_eq t (codes "demo") then Some mode.Demo
    else if bytes_eq t (codes "area") then Some mode.Area
    else None

-- the order that a text names
abbrev pub order_of : Text → Option OrderWord
order_of t =
    if bytes_eq t (codes "fifo") then Some order.Fifo
    else if bytes_eq t (codes "lifo") then Some order.Lifo
    else if bytes_eq t (codes "rank") then Some order.Rank
    else None

-- the value of an argument that always has one
abbrev pub text_at : Text → List Row → Text
text_at id rows = unwrap_or (first_of id rows) []

-- the number that `u64` reads from a text, and 0 where it reads none
abbrev pub number_in : Text → ℕ
number_in t = if is_unsigned_in 0 18446744073709551615 t then digits_value 10 (without_leading_plus t) else 0

-- the greatest step of a lattice that can be asked for, in millimetres
abbrev pub greatest_step : ℕ
greatest_step = 1000000000

-- the step that a text names, from 1 to the greatest
abbrev pub step_of : Text → Option ℕ
step_of t = if nat_le 1 (number_in t) && nat_le (number_in t) greatest_step then Some (number_in t) else None

-- what the values of the arguments ask for; None where one names no mode, no order or no step
abbrev pub asked_by : List Row → Option Asked
asked_by rows =
    option_and_then (λ m. option_and_then (λ o. option_map (λ s. record {
      mode = m;
      budget = number_in (text_at (codes "budget") rows);
      order = o;
      brief = bytes_eq (text_at (codes "brief") rows) (codes "true");
      seed = number_in (text_at (codes "seed") rows);
      step = s;
    }) (step_of (text_at (codes "step") rows))) (order_of (text_at (codes "order") rows))) (mode_of (text_at (codes "mode") rows))

-- the step lies from 1 to the greatest
pub record HasStep (asked : Asked) : Type 0 where
  pub least : 1 ≤ asked.step
  pub most : asked.step ≤ greatest_step

abbrev pub is_empty : Kinds → Bool
is_empty [] = true
is_empty (k ∷ ks) = false

-- what the words ask for; None where the command refuses them
unfoldable pub asked_of : List Text → Option Asked
asked_of words = if is_empty (fault_of command_app words) then asked_by (matches_of command_app words) else None
