use Rattle.std.proofs.Common.{refl, ap, ap₂, ◌≡◌, ℕ, arith}
use Rattle.tplane_paver.specs.declared.runs.Run.{Run}
use Rattle.bundle_text.specs.Bundles.{IsNumber, IsRun}
use Rattle.bundle_reader.proofs.Fronts.{built, no_part, no_rest}
use Rattle.bundle_reader.proofs.Rows.{run_parts}
use Rattle.bundle_reader.proofs.lines.run_of.Goals as goal

first_small : (r : Run) → IsRun r → IsNumber r.first
first_small r h = omega (arith, h.some, h.last)

pub returns-in_err-a : goal.returns-in_err-a
returns-in_err-a c = rw (c.from_residual.ensures) (no_part run_parts c.args.bytes.now c.in_err-a.ensures)

pub returns-in_err-first : goal.returns-in_err-first
returns-in_err-first c =
    rw (c.from_residual-in_err-first.ensures)
    (no_rest run_parts c.args.bytes.now c.in_ok-a.a c.in_ok-a.rest.now c.in_ok-a.ensures (λ w s q k e. c.in_err-first.ensures (w.first, w.last) s (first_small w q, q.last) tt e))

pub returns-then-last-first : goal.returns-then-last-first
returns-then-last-first c =
    no_rest run_parts c.args.bytes.now c.in_ok-a.a c.in_ok-a.rest.now c.in_ok-a.ensures
    (λ w s q k e.
    let both = c.in_ok-first.ensures.only (w.first, w.last) s (first_small w q, q.last) tt e in
    let first : w.first ≡ c.in_ok-first.first = ap (λ (p : ℕ × ℕ). p.0) both.0 in
    let last : w.last ≡ c.in_ok-first.last = ap (λ (p : ℕ × ℕ). p.1) both.0 in
    omega (arith, q.some))

pub returns : goal.returns
returns c =
    built run_parts c.args.bytes.now c.in_ok-a.a c.in_ok-a.rest.now c.in_ok-a.ensures (record { a = c.in_ok-a.a; first = c.in_ok-first.first; last = c.in_ok-first.last }) c.in_ok-first.rest.now
    (record { a = c.in_ok-a.ensures.right; some = c.if-last-first.false; last = c.in_ok-first.ensures.right.1 }) refl c.in_ok-first.ensures.whole
    (λ w s q k a tail.
    let both = c.in_ok-first.ensures.only (w.first, w.last) s (first_small w q, q.last) tt tail in (
      ap₂ (λ (n : ℕ) (p : ℕ × ℕ). let r : Run = record { a = n; first = p.0; last = p.1 } in r) a both.0,
      both.1,
    ))
