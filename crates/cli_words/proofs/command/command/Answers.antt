use Rattle.std.proofs.Common.{◌∙◌, ap₂}
use Rattle.clap.specs.Simple.{with_rule}
use Rattle.cli_words.specs.Rules.{command_app}
use Rattle.cli_words.proofs.command.command.Goals as goal

pub returns : goal.returns
unfolding command_app
returns c =
    let mode = c.in_ok-with_mode.ensures.shape c.mode_arg.ensures.local ∙ ap₂ with_rule c.bare_command.ensures c.mode_arg.ensures.rule in
    let budget = c.in_ok-with_budget.ensures.shape c.budget_arg.ensures.local ∙ ap₂ with_rule mode c.budget_arg.ensures.rule in
    let order = c.in_ok-with_order.ensures.shape c.order_arg.ensures.local ∙ ap₂ with_rule budget c.order_arg.ensures.rule in
    let brief = c.in_ok-with_brief.ensures.shape c.brief_arg.ensures.local ∙ ap₂ with_rule order c.brief_arg.ensures.rule in
    let seed = c.in_ok-with_seed.ensures.shape c.seed_arg.ensures.local ∙ ap₂ with_rule brief c.seed_arg.ensures.rule in
    c.in_ok-with_step.ensures.shape c.step_arg.ensures.local ∙ ap₂ with_rule seed c.step_arg.ensures.rule
