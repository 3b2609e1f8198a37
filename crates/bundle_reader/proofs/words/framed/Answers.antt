use Rattle.bundle_reader.proofs.Numbers.{framed_by}
use Rattle.bundle_reader.proofs.words.framed.Goals as goal

pub returns : goal.returns
returns c = framed_by c.args.word.now c.args.end c.args.bytes.now c.in_ok-rest.rest.now c.in_ok-rest.ensures c.cut.result c.cut.ensures
