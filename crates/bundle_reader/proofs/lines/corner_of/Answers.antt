use Rattle.std.proofs.Common.{refl, ap₂, ℕ}
use Rattle.loop_degree.specs.declared.labels.Label.{Label}
use Rattle.bundle_reader.proofs.Fronts.{built, no_part, no_rest}
use Rattle.bundle_reader.proofs.Rows.{corner_parts}
use Rattle.bundle_reader.proofs.lines.corner_of.Goals as goal

pub returns-in_err-a : goal.returns-in_err-a
returns-in_err-a c = rw (c.from_residual.ensures) (no_part corner_parts c.args.bytes.now c.in_err-a.ensures)

pub returns-in_err-label : goal.returns-in_err-label
returns-in_err-label c =
    rw (c.from_residual-in_err-label.ensures)
    (no_rest corner_parts c.args.bytes.now (c.in_ok-a.a, c.in_ok-a.b) c.in_ok-a.rest.now c.in_ok-a.ensures (λ w s q k e. c.in_err-label.ensures w.2 s tt tt e))

pub returns : goal.returns
returns c =
    built corner_parts c.args.bytes.now (c.in_ok-a.a, c.in_ok-a.b) c.in_ok-a.rest.now c.in_ok-a.ensures (c.in_ok-a.a, c.in_ok-a.b, c.in_ok-label.label) c.in_ok-label.rest.now
    c.in_ok-a.ensures.right refl c.in_ok-label.ensures.whole
    (λ w s q k pair tail.
    let both = c.in_ok-label.ensures.only w.2 s tt tt tail in (
      ap₂ (λ (p : ℕ × ℕ) (l : Label). let x : ℕ × ℕ × Label = (p.0, p.1, l) in x) pair both.0,
      both.1,
    ))
