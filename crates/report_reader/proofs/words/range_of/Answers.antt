use Rattle.std.proofs.Common.{arith}
use Rattle.std.proofs.lemmas.Int.{ints}
use Rattle.report_reader.proofs.Ranges.{no_high_bound, no_low_bound, range_read}
use Rattle.report_reader.proofs.words.range_of.Goals as goal

pub returns-in_default-bound_of : goal.returns-in_default-bound_of
returns-in_default-bound_of c = no_low_bound c.args.text.now _ _ c.in-Some.ensures c.in_default-bound_of.ensures

pub returns-in_default-bound_of-2 : goal.returns-in_default-bound_of-2
returns-in_default-bound_of-2 c = no_high_bound c.args.text.now _ _ c.in-Some.ensures c.in_default-bound_of-2.ensures

pub returns : goal.returns
returns c =
    range_read c.args.text.now _ _ c.in-Some-bound_of.lo c.in-Some-bound_of-2.hi _ _ c.new.result c.in-Some.ensures
    c.in-Some-bound_of.ensures.0 c.in-Some-bound_of.ensures.1 c.in-Some-bound_of-2.ensures.0 c.in-Some-bound_of-2.ensures.1
    (omega (arith, ints)) (omega (arith, ints)) c.new.ensures.value c.new.ensures.exists
