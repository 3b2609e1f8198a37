use Rattle.std.proofs.Common.{refl}
use Rattle.pair_causes.proofs.read.form_of.Goals as goal

pub returns-in-Err-Form : goal.returns-in-Err-Form
returns-in-Err-Form c = (refl, refl, λ form says. cc (c.in-Err-Form.ensures.only form says))
