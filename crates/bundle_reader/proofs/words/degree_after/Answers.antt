use Rattle.std.proofs.Common.{w64}
use Rattle.std.specs.Fmt.{signed_decimal}
use Rattle.std.proofs.lemmas.Int.{to_z-of_z}
use Rattle.bundle_text.proofs.LineTexts.{same_signed}
use Rattle.report_reader.proofs.Cuts.{signed_lacks}
use Rattle.bundle_reader.specs.Parts.{IsDegree}
use Rattle.bundle_reader.proofs.Numbers.{abs_small, degree_fits, none_inside, none_there, one_inside}
use Rattle.bundle_reader.proofs.words.degree_after.Goals as goal

pub returns-in_err-digits : goal.returns-in_err-digits
returns-in_err-digits c = rw (c.from_residual.ensures) (none_there signed_decimal IsDegree c.args.word.now c.args.end c.args.bytes.now c.in_err-digits.ensures)

pub returns-in_err-z : goal.returns-in_err-z
returns-in_err-z c =
    rw (c.from_residual-in_err-z.ensures)
    (none_inside signed_decimal IsDegree c.args.word.now c.args.end c.args.bytes.now (λ z h. signed_lacks c.args.end z c.requires (abs_small z h)) c.in_ok-digits.digits.now c.in_ok-digits.rest.now c.in_ok-digits.ensures c.in_err-z.ensures)

pub returns : goal.returns
returns c =
    rw (to_z-of_z w64 c.in_ok-z.z (degree_fits c.in_ok-z.z c.in_ok-z.ensures.0))
    (one_inside signed_decimal IsDegree c.args.word.now c.args.end c.args.bytes.now (λ z h. signed_lacks c.args.end z c.requires (abs_small z h)) c.in_ok-digits.digits.now c.in_ok-digits.rest.now c.in_ok-digits.ensures
    (λ y z h k. same_signed y z (abs_small y h) (abs_small z k)) c.in_ok-z.z c.in_ok-z.ensures.0 c.in_ok-z.ensures.1)
