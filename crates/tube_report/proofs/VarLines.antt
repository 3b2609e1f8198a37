-- The line of a variable, which is written in parts.
use Rattle.std.proofs.Common.{◌≡◌, ℕ, List, [], ◌++◌, ap, ◌∙◌, sym, append_assoc, append-nil, codes}
use Rattle.tube_spec.specs.Span.{Span}
use Rattle.tube_report.specs.Lines.{range_text, var_line}

-- its first word and the name, and then the end of the reference and the range
pub var-text : (name part : List ℕ) (range : Span) → (codes "var " ++ (name ++ [])) ++ (part ++ range_text range) ≡ var_line (name ++ part) range
unfolding var_line
var-text name part range =
    ap (λ (l : List ℕ). (codes "var " ++ l) ++ (part ++ range_text range)) (append-nil name)
    ∙ ap (λ (l : List ℕ). codes "var " ++ l) (sym (append_assoc name part (range_text range)))
