use Rattle.expr_text.proofs.parser.parse.Goals as goal
use Rattle.expr_text.proofs.Unique.{reads_as, refuses_deep, refuses_text}

pub returns-clause-read : goal.returns-clause-read
returns-clause-read c = reads_as c.args.text.now _ c.read.ensures

pub returns-clause-deep : goal.returns-clause-deep
returns-clause-deep c = refuses_deep c.args.text.now _ c.read.ensures

pub returns-clause-refused : goal.returns-clause-refused
returns-clause-refused c = refuses_text c.args.text.now _ c.read.ensures
