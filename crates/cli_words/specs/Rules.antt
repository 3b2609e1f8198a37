-- The simple command of `clap` that takes the words of a command line.
use Rattle.std.specs.Prelude.{[], ◌∷◌, Some, codes, true}
use Rattle.clap.specs.Simple.{App, new_app, new_rule, on_top, with_rule}
use Rattle.clap.specs.Walk.{Rule}
use Rattle.clap.specs.declared.builder.action.ArgAction.TheVariants.{SetTrue}
use Rattle.clap.specs.declared.builder.value_parser.ValueParser.TheVariants.{Unsigned}

-- MODE, which has to be given
abbrev pub mode_rule : Rule
mode_rule = record (new_rule (codes "mode")) { required = true }

-- --budget N, from 0 to 10^18, and 10^18 where it is not given
abbrev pub budget_rule : Rule
budget_rule = record (new_rule (codes "budget")) {
  long = Some (codes "budget");
  defaults = codes "1000000000000000000" ∷ [];
  parser = Some (Unsigned 0 1000000000000000000);
}

-- --order ORDER, and fifo where it is not given
abbrev pub order_rule : Rule
order_rule = record (new_rule (codes "order")) { long = Some (codes "order"); defaults = codes "fifo" ∷ [] }

-- --brief, a flag
abbrev pub brief_rule : Rule
brief_rule = record (new_rule (codes "brief")) { long = Some (codes "brief"); action = Some SetTrue }

-- --seed N, of 64 bits, and 1 where it is not given
abbrev pub seed_rule : Rule
seed_rule = record (new_rule (codes "seed")) {
  long = Some (codes "seed");
  defaults = codes "1" ∷ [];
  parser = Some (Unsigned 0 18446744073709551615);
}

-- --step N, of 64 bits, and 1000 where it is not given
abbrev pub step_rule : Rule
step_rule = record (new_rule (codes "step")) {
  long = Some (codes "step");
  defaults = codes "1000" ∷ [];
  parser = Some (Unsigned 0 18446744073709551615);
}

-- no help flag and no version flag; the program's name is not among the words
abbrev pub bare_app : App
bare_app = on_top (λ s. record s { no_binary_name = true; disable_help_flag = true; disable_version_flag = true }) (new_app (codes "codac_cli"))

-- the whole command
unfoldable pub command_app : App
command_app = with_rule (with_rule (with_rule (with_rule (with_rule (with_rule bare_app mode_rule) budget_rule) order_rule) brief_rule) seed_rule) step_rule
