use Rattle.std.proofs.Common.{◌∙◌, ap, Ok, sym}
use Rattle.std.proofs.lemmas.Result.{err_from_is_err_and}
use Rattle.formula_text.proofs.Read.{answered, refusal}
use Rattle.formula_text.proofs.reader.read_formula.Goals as goal

pub returns-in_err-rel-clause-refused : goal.returns-in_err-rel-clause-refused
returns-in_err-rel-clause-refused c =
    let p = err_from_is_err_and c.from_residual.result c.from_residual.ensures.1 in
    rw (p.1, p.2) (refusal c.args.text.now _ c.in_err-rel.ensures.answers)

pub returns-clause-read : goal.returns-clause-read
returns-clause-read c = answered c.args.text.now c.in_ok-rel.rel c.in_ok-rel.ensures.answers ∙ ap (λ r. Ok r) (sym c.new.ensures)
