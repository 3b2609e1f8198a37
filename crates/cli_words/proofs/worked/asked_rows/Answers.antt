use Rattle.std.proofs.Common.{refl}
use Rattle.clap.proofs.OnLiterals.{clap_on_literals}
use Rattle.cli_words.proofs.worked.asked_rows.Goals as goal
use Rattle.cli_words.specs.Asked.{asked_of}
use Rattle.cli_words.specs.Rules.{command_app}

pub returns-clause-solve : goal.returns-clause-solve
unfolding clap_on_literals command_app asked_of
returns-clause-solve c = refl

pub returns-clause-loops : goal.returns-clause-loops
unfolding clap_on_literals command_app asked_of
returns-clause-loops c = refl

pub returns-clause-demo : goal.returns-clause-demo
unfolding clap_on_literals command_app asked_of
returns-clause-demo c = refl

pub returns-clause-area : goal.returns-clause-area
unfolding clap_on_literals command_app asked_of
returns-clause-area c = refl

pub returns-clause-equals : goal.returns-clause-equals
unfolding clap_on_literals command_app asked_of
returns-clause-equals c = refl

pub returns-clause-plus : goal.returns-clause-plus
unfolding clap_on_literals command_app asked_of
returns-clause-plus c = refl

pub returns-clause-dashes : goal.returns-clause-dashes
unfolding clap_on_literals command_app asked_of
returns-clause-dashes c = refl

pub returns-clause-budget : goal.returns-clause-budget
unfolding clap_on_literals command_app asked_of
returns-clause-budget c = refl

pub returns-clause-seed : goal.returns-clause-seed
unfolding clap_on_literals command_app asked_of
returns-clause-seed c = refl
