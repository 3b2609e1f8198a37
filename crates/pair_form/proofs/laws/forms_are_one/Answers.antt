use Rattle.pair_form.proofs.Sources.{forms_are_one}
use Rattle.pair_form.proofs.laws.forms_are_one.Goals as goal

pub returns : goal.returns
returns c = forms_are_one
