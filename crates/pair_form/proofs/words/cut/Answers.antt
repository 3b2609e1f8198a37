use Rattle.std.proofs.Common.{◌≡◌, ◌+◌, ◌-◌, length, take, drop, sym, ◌∙◌, subst, ℕ, List, arith}
use Rattle.std.proofs.lemmas.List.{length-drop, take_all}
use Rattle.pair_form.specs.Lines.{IsCut}
use Rattle.pair_form.proofs.Cuts.{cut_at, lacks_without}
use Rattle.pair_form.proofs.words.cut.Goals as goal

pub returns-in_default : goal.returns-in_default
returns-in_default c = lacks_without 10 c.args.bytes.now (sym c.in_default.is ∙ c.end_of_line.ensures)

pub returns : goal.returns
returns c =
    let bytes = c.args.bytes.now in
    let at = c.in-Some.at in
    let behind : take (length bytes - (at + 1)) (drop (at + 1) bytes) ≡ drop (at + 1) bytes = take_all _ _ (omega (arith, length-drop (at + 1) bytes)) in
    subst (λ (rest : List ℕ). IsCut 10 bytes (take at bytes) rest) (sym behind) (cut_at 10 bytes at (sym c.in-Some.is ∙ c.end_of_line.ensures))
