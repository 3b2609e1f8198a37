-- What a run does, as the words ask for it: one line for each mode. No other definition asks for the mode.
use Rattle.std.specs.Prelude.{ℕ, true, false, List, Option, option_map}
use Rattle.ctc_network.specs.declared.answers.Order.{Order}
use Rattle.ctc_network.specs.declared.answers.Order.TheVariants as order
use Rattle.cli_words.specs.Asked.{asked_of}
use Rattle.cli_words.specs.declared.answer.Asked.{Asked}
use Rattle.cli_words.specs.declared.answer.Mode.{Mode}
use Rattle.cli_words.specs.declared.answer.Mode.TheVariants as mode
use Rattle.cli_words.specs.declared.answer.OrderWord.{OrderWord}
use Rattle.cli_words.specs.declared.answer.OrderWord.TheVariants as word
use Rattle.codac_run.specs.declared.plan.Origin.{Origin}
use Rattle.codac_run.specs.declared.plan.Origin.TheVariants as origin
use Rattle.codac_run.specs.declared.plan.Tail.{Tail}
use Rattle.codac_run.specs.declared.plan.Tail.TheVariants as tail
use Rattle.codac_run.specs.declared.plan.Plan.{Plan}

abbrev pub order_of : OrderWord → Order
order_of word.Fifo = order.Fifo
order_of word.Lifo = order.Lifo
order_of word.Rank = order.Rank

-- a run over a log from there, in sections as the words ask for, which hands out the settled net and the sets of the last query
abbrev pub plan_with : Asked → Origin → Tail → Plan
plan_with asked from told = record {
  origin = from;
  sections = record { order = order_of asked.order; budget = asked.budget; brief = asked.brief };
  tail = told;
  hands_out = true;
}

-- The table of modes. A demo is always told in brief, and after a chart of areas no net is handed out.
abbrev pub plan_by : Mode → Asked → Plan
plan_by mode.Solve asked = plan_with asked origin.Source tail.Nothing
plan_by mode.Loops asked = plan_with asked origin.Source tail.Findings
plan_by mode.Demo asked = plan_with (record asked { brief = true }) (origin.Demo asked.seed) tail.Findings
plan_by mode.Area asked = record (plan_with asked origin.Source (tail.Areas asked.step)) { hands_out = false }

-- the plan of what the words ask for
abbrev pub plan_of : Asked → Plan
plan_of asked = plan_by asked.mode asked

-- the plan of a command line; None where its words are wrong
abbrev pub planned : List (List ℕ) → Option Plan
planned words = option_map plan_of (asked_of words)
