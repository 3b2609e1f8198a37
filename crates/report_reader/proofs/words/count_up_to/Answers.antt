use Rattle.std.proofs.Common.{◌≡◌, ◌∙◌, sym, arith}
use Rattle.report_reader.proofs.Numerals.{same_count}
use Rattle.report_reader.proofs.words.count_up_to.Goals as goal

pub returns-then-n-most : goal.returns-then-n-most
returns-then-n-most c = λ v h e.
    let same : v ≡ c.in-Some.n = same_count v c.in-Some.n (omega arith) c.in-Some.ensures.0 (e ∙ sym c.in-Some.ensures.1) in
    omega arith
