use Rattle.std.proofs.Common.{◌<◌, ◌^◌, arith, ℕ}
use Rattle.std.specs.Prelude.{decimal}
use Rattle.std.proofs.lemmas.Fmt.{decimal_injective}
use Rattle.report_reader.proofs.Cuts.{decimal_lacks}
use Rattle.bundle_reader.proofs.Numbers.{none_inside, none_there, one_inside}
use Rattle.bundle_reader.proofs.words.count_after.Goals as goal

abbrev IsCount : ℕ → Type 0
IsCount n = n < 2 ^ 64

pub returns-in_err-digits : goal.returns-in_err-digits
returns-in_err-digits c = rw (c.from_residual.ensures) (none_there decimal IsCount c.args.word.now c.args.end c.args.bytes.now c.in_err-digits.ensures)

pub returns-in_err-n : goal.returns-in_err-n
returns-in_err-n c =
    rw (c.from_residual-in_err-n.ensures)
    (none_inside decimal IsCount c.args.word.now c.args.end c.args.bytes.now (λ n h. decimal_lacks c.args.end n (omega arith) h) c.in_ok-digits.digits.now c.in_ok-digits.rest.now c.in_ok-digits.ensures c.in_err-n.ensures)

pub returns : goal.returns
returns c =
    one_inside decimal IsCount c.args.word.now c.args.end c.args.bytes.now (λ n h. decimal_lacks c.args.end n (omega arith) h) c.in_ok-digits.digits.now c.in_ok-digits.rest.now c.in_ok-digits.ensures
    decimal_injective c.in_ok-n.n c.in_ok-n.ensures.0 c.in_ok-n.ensures.1
