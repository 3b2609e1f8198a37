use Rattle.std.proofs.Common.{◌≡◌, ◌+◌, ◌*◌, ℕ, unsigned_abs, sym, ap, ap₂, ◌∙◌, SFits, w64}
use Rattle.std.proofs.lemmas.Int.{to_z-of_z}
use Rattle.tube_spec.specs.Span.{natural}
use Rattle.demo_course.proofs.Squares.{sum-is}
use Rattle.demo_course.proofs.course.squared_length.Goals as goal

pub returns : goal.returns
returns c =
    let across : c.unsigned_abs-across.result ≡ unsigned_abs c.args.across = c.unsigned_abs-across.ensures.value ∙ ap unsigned_abs (to_z-of_z w64 c.args.across c.ranges.across) in
    let along : c.unsigned_abs-along.result ≡ unsigned_abs c.args.along = c.unsigned_abs-along.ensures.value ∙ ap unsigned_abs (to_z-of_z w64 c.args.along c.ranges.along) in
    ap₂ (λ (m n : ℕ). m * m + n * n) across along ∙ sym (ap natural (sum-is c.args.across c.args.along))
