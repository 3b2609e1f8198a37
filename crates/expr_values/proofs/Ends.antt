-- Members up to a number and from a number on, for numbers said in two ways.
use Rattle.std.proofs.Common.{◌≡◌, Option, ℤ, ap, ◌∙◌}
use Rattle.tube_spec.specs.Span.{Span}
use Rattle.expr_values.specs.Comparisons.{up_to, from}

pub up_to-same : (a : Span) (m n : ℤ) (o r : Option Span) → o ≡ up_to a m → m ≡ n → up_to a n ≡ r → o ≡ r
up_to-same a m n o r e f g = e ∙ ap (up_to a) f ∙ g

pub from-same : (a : Span) (m n : ℤ) (o r : Option Span) → o ≡ from a m → m ≡ n → from a n ≡ r → o ≡ r
from-same a m n o r e f g = e ∙ ap (from a) f ∙ g
