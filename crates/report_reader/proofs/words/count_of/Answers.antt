use Rattle.std.proofs.Common.{◌<◌, length, arith}
use Rattle.std.proofs.lemmas.Bool.Decides.{nat_tests}
use Rattle.report_reader.proofs.Numerals.{decimal_led, decimal_short, decimal_some}
use Rattle.report_reader.proofs.Ranges.{count_read}
use Rattle.report_reader.proofs.words.count_of.Goals as goal
use Rattle.report_reader.proofs.words.count_of.Goals.{then-is_empty-via-then-is_empty, then-is_empty-via-else-is_empty+then-word-gt19, else-word-eq48-via-then-word-eq48+else-word-gt1, else-word-eq48-via-else-word-eq48}

pub returns-then-is_empty : goal.returns-then-is_empty
returns-then-is_empty c = λ v small e.
    let some = decimal_some v c.args.word.now small e in
    let short = decimal_short v c.args.word.now small e in
    elim c.then-is_empty.branch [
      | then-is_empty-via-then-is_empty w ↦ grind (arith, nat_tests, w.if-is_empty.true)
      | then-is_empty-via-else-is_empty+then-word-gt19 w ↦ omega arith
    ]

pub returns-then-word-gt1 : goal.returns-then-word-gt1
returns-then-word-gt1 c = λ v small e. decimal_led v c.args.word.now small e c.if-word-gt1.true c.if-word-eq48.true

pub returns : goal.returns
returns c =
    let some : 0 < length c.args.word.now = grind (arith, nat_tests) in
    elim c.else-word-eq48.branch [
      | else-word-eq48-via-then-word-eq48+else-word-gt1 w ↦ count_read c.args.word.now c.digits_value.result c.digits_value.ensures.value c.digits_value.ensures.small some (λ e. omega arith)
      | else-word-eq48-via-else-word-eq48 w ↦ count_read c.args.word.now c.digits_value.result c.digits_value.ensures.value c.digits_value.ensures.small some (λ e. absurd (w.if-word-eq48.false e))
    ]
