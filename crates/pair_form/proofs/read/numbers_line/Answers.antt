use Rattle.std.proofs.Common.{List, Bor, ℕ, map, subst}
use Rattle.std.proofs.lemmas.Result.{err_from_is_err_and}
use Rattle.pair_form.specs.Forms.{HasNumbers}
use Rattle.pair_form.specs.Reads.{Refuses}
use Rattle.pair_form.proofs.Links.{no_line_of_numbers, no_numbers}
use Rattle.pair_form.proofs.read.numbers_line.Goals as goal

pub returns-in_err-words-clause-value : goal.returns-in_err-words-clause-value
returns-in_err-words-clause-value c =
    let p = err_from_is_err_and c.from_residual.result c.from_residual.ensures.1 in
    rw (p.1, p.2) (no_line_of_numbers c.args.kind.now c.args.bytes.now c.requires c.in_err-words.field-0.0 c.in_err-words.ensures)

pub returns-in_err-numbers-clause-value : goal.returns-in_err-numbers-clause-value
returns-in_err-numbers-clause-value c =
    let p = err_from_is_err_and c.from_residual-in_err-numbers.result c.from_residual-in_err-numbers.ensures.1 in
    let none = subst (λ (ws : List (Bor (List ℕ))). Refuses (HasNumbers c.args.kind.now (map (λ w. w.now) ws)) c.in_err-numbers.field-0.0) c.as_slice.ensures.value c.in_err-numbers.ensures.value in
    rw (p.1, p.2) (no_numbers c.args.kind.now c.args.bytes.now _ _ c.requires c.in_ok-words.ensures c.in_err-numbers.field-0.0 none)
