use Rattle.std.proofs.Common.{sym, ap, ◌∙◌, subst, ◌≡◌, w64}
use Rattle.std.proofs.lemmas.Int.{to_z-of_z}
use Rattle.std.specs.Fmt.{signed_decimal}
use Rattle.std.specs.Str.{IsUtf8}
use Rattle.std.proofs.lemmas.Fmt.{IsAscii-signed, parse-signed_decimal}
use Rattle.std.proofs.lemmas.Str.{IsUtf8-from_ascii}
use Rattle.bundle_reader.proofs.Numbers.{degree_fits, degree_small, not_another}
use Rattle.bundle_reader.proofs.words.degree_of.Goals as goal

pub returns-in_default : goal.returns-in_default
returns-in_default c = λ v h e. c.in_default.ensures.cases.0 (subst IsUtf8 e (IsUtf8-from_ascii (signed_decimal v) (IsAscii-signed v (degree_small v h))))

pub returns-in_default-parse : goal.returns-in_default-parse
returns-in_default-parse c = λ v h e.
    c.in_default-parse.not-Ok v (parse-signed_decimal _ v c.in-Ok.text.now c.parse.result (degree_fits v h) (degree_small v h) (c.in-Ok.ensures.cases.0 ∙ sym e) c.parse.ensures.value.0)

pub returns-then-ne : goal.returns-then-ne
returns-then-ne c = λ v h e.
    let read = parse-signed_decimal _ v c.in-Ok.text.now c.parse.result (degree_fits v h) (degree_small v h) (c.in-Ok.ensures.cases.0 ∙ sym e) c.parse.ensures.value.0 in
    let same : c.in-Ok-parse.z ≡ v = cc in
    not_another _ _ c.if-ne.ensures (c.as_bytes.ensures.value ∙ (c.format.ensures.text ∙ (ap signed_decimal (to_z-of_z w64 c.in-Ok-parse.z (rw same (degree_fits v h)) ∙ same) ∙ e)))
