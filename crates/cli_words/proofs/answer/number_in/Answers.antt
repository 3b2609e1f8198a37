use Rattle.cli_words.proofs.Numbers.{number_not, number_read}
use Rattle.cli_words.proofs.answer.number_in.Goals as goal

pub returns-in-Ok : goal.returns-in-Ok
returns-in-Ok c = let h = c.in-Ok.ensures.value.0 in number_read c.args.text.now c.in-Ok.n h.0.0 h.0.1 h.1

pub returns-in-Err : goal.returns-in-Err
returns-in-Err c = number_not c.args.text.now c.in-Err.ensures.value.0
