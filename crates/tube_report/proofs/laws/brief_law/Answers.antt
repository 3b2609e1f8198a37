use Rattle.std.proofs.Common.{ℕ, ◌*◌, ◌-◌, length, subst, sym, zero-add}
use Rattle.tube_spec.specs.Span.{IsWithin}
use Rattle.tube_spec.proofs.Families.{join_over-holds, join_over-least}
use Rattle.tube_report.specs.Sections.{tube_cell, tube_range}
use Rattle.tube_report.proofs.laws.brief_law.Goals as goal

pub returns : goal.returns
returns c s xs signal =
    let cells = tube_cell s xs signal in
    let last : ℕ = 2 * length s.grid - 2 in (
      λ k h. subst (λ (j : ℕ). IsWithin (cells j) (tube_range s xs signal)) (zero-add k) (join_over-holds cells 0 last k h),
      λ t h. join_over-least cells 0 last t (λ k l. subst (λ (j : ℕ). IsWithin (cells j) t) (sym (zero-add k)) (h k l)),
    )
