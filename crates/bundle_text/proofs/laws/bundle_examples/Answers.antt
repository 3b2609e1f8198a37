use Rattle.std.proofs.Common.{refl, arith}
use Rattle.std.specs.Fmt.{digits}
use Rattle.std.proofs.lemmas.Int.{ints}
use Rattle.loop_report.specs.Loops.{crowded_line, done_line, front_text, run_line, sets_line}
use Rattle.tube_report.specs.Lines.{first_line, gate_line, last_line, signal_line, slice_line}
use Rattle.bundle_text.specs.Lines.{bundle_line, cell_line, corner_line, fire_line, fires_line}
use Rattle.bundle_text.proofs.laws.bundle_examples.Goals as goal

pub returns-clause-bundles : goal.returns-clause-bundles
returns-clause-bundles c = grind (arith, ints)

pub returns-clause-small : goal.returns-clause-small
unfolding digits bundle_line fires_line first_line signal_line gate_line slice_line last_line
returns-clause-small c = refl

pub returns-clause-told : goal.returns-clause-told
unfolding digits bundle_line fires_line fire_line first_line last_line crowded_line sets_line done_line front_text run_line cell_line corner_line
returns-clause-told c = refl
