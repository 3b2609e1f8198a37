use Rattle.std.proofs.Common.{refl}
use Rattle.clap.proofs.OnLiterals.{clap_on_literals}
use Rattle.cli_words.proofs.worked.refused_rows.Goals as goal
use Rattle.cli_words.specs.Asked.{asked_of}
use Rattle.cli_words.specs.Rules.{command_app}

pub returns-clause-none : goal.returns-clause-none
unfolding clap_on_literals command_app asked_of
returns-clause-none c = refl

pub returns-clause-mode : goal.returns-clause-mode
unfolding clap_on_literals command_app asked_of
returns-clause-mode c = refl

pub returns-clause-second : goal.returns-clause-second
unfolding clap_on_literals command_app asked_of
returns-clause-second c = refl

pub returns-clause-order : goal.returns-clause-order
unfolding clap_on_literals command_app asked_of
returns-clause-order c = refl

pub returns-clause-budget : goal.returns-clause-budget
unfolding clap_on_literals command_app asked_of
returns-clause-budget c = refl

pub returns-clause-seed : goal.returns-clause-seed
unfolding clap_on_literals command_app asked_of
returns-clause-seed c = refl

pub returns-clause-no_step : goal.returns-clause-no_step
unfolding clap_on_literals command_app asked_of
returns-clause-no_step c = refl

pub returns-clause-wide_step : goal.returns-clause-wide_step
unfolding clap_on_literals command_app asked_of
returns-clause-wide_step c = refl

pub returns-clause-help : goal.returns-clause-help
unfolding clap_on_literals command_app asked_of
returns-clause-help c = refl

pub returns-clause-again : goal.returns-clause-again
unfolding clap_on_literals command_app asked_of
returns-clause-again c = refl

pub returns-clause-short : goal.returns-clause-short
unfolding clap_on_literals command_app asked_of
returns-clause-short c = refl

pub returns-clause-alone : goal.returns-clause-alone
unfolding clap_on_literals command_app asked_of
returns-clause-alone c = refl

pub returns-clause-minus : goal.returns-clause-minus
unfolding clap_on_literals command_app asked_of
returns-clause-minus c = refl

pub returns-clause-flag : goal.returns-clause-flag
unfolding clap_on_literals command_app asked_of
returns-clause-flag c = refl
