use Rattle.mission_log.proofs.LeavesStand.{leaves-few}
use Rattle.mission_log.proofs.formulas.formula_in.Goals as goal

pub returns-in-Ok-clause-few : goal.returns-in-Ok-clause-few
returns-in-Ok-clause-few c = leaves-few c.in-Ok.formula (c.printing_law.ensures.printable c.args.text.now c.in-Ok.formula c.in-Ok.ensures.read)
