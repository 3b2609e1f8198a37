use Rattle.std.proofs.Common.{sym, ap, ◌∙◌, subst, ◌≡◌}
use Rattle.std.specs.Prelude.{decimal}
use Rattle.std.specs.Str.{IsUtf8}
use Rattle.std.proofs.lemmas.Fmt.{IsAscii-decimal, parse-decimal}
use Rattle.std.proofs.lemmas.Str.{IsUtf8-from_ascii}
use Rattle.bundle_reader.proofs.Numbers.{not_another}
use Rattle.bundle_reader.proofs.words.count_of.Goals as goal

pub returns-in_default : goal.returns-in_default
returns-in_default c = λ v h e. c.in_default.ensures.cases.0 (subst IsUtf8 e (IsUtf8-from_ascii (decimal v) (IsAscii-decimal v h)))

pub returns-in_default-parse : goal.returns-in_default-parse
returns-in_default-parse c = λ v h e. c.in_default-parse.not-Ok v (parse-decimal 64 v c.in-Ok.text.now c.parse.result h h (c.in-Ok.ensures.cases.0 ∙ sym e) c.parse.ensures.value.0)

pub returns-then-ne : goal.returns-then-ne
returns-then-ne c = λ v h e.
    let read = parse-decimal 64 v c.in-Ok.text.now c.parse.result h h (c.in-Ok.ensures.cases.0 ∙ sym e) c.parse.ensures.value.0 in
    let same : c.in-Ok-parse.n ≡ v = cc in
    not_another _ _ c.if-ne.ensures (c.as_bytes.ensures.value ∙ (c.format.ensures.text ∙ (ap decimal same ∙ e)))
