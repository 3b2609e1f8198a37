use Rattle.std.proofs.Common.{◌≡◌, ℕ, ◌+◌, ◌*◌, ◌-◌, ◌<◌, length, slice_index, sym, ap, ◌∙◌, arith}
use Rattle.ctc_sweeps.specs.DerivSweeps.{deriv_sweep_scope}
use Rattle.ctc_sweeps.proofs.Reading.{scope-gate, scope-cell, scope-count}
use Rattle.ctc_sweeps.proofs.deriv_sweep.DerivSweepContractor.read.Goals as goal

pub returns-then-i-slices : goal.returns-then-i-slices
returns-then-i-slices c =
    let s = c.args.store.now.shape in
    let me = c.args.self.now in
    let inside : c.args.i < length s.grid = omega (arith, c.if-i-slices.true, c.slices-slices.ensures) in
    c.gate.ensures.cell ∙ sym (scope-gate s me.x.0 me.rate.0 c.args.i inside)

pub overflow_add-result : goal.overflow_add-result
overflow_add-result c =
    let s = c.args.store.now.shape in
    let me = c.args.self.now in
    record { fits = omega (arith, scope-count s me.x.0 me.rate.0, c.requires.below, c.slices-slices.ensures, c.known.ensures.shape.signals me.rate.0 0 c.requires.fits.1, c.known.ensures.shape.few, c.gate-first.ensures.cell) }

pub returns : goal.returns
returns c =
    let s = c.args.store.now.shape in
    let me = c.args.self.now in
    let i = c.args.i in
    let j = i - length s.grid in
    let bound : j < 2 * (length s.grid - 1) = omega (arith, scope-count s me.x.0 me.rate.0, c.requires.below, c.if-i-slices.false, c.slices-slices.ensures) in
    let place : length s.grid + j ≡ i = omega (arith, c.if-i-slices.false, c.slices-slices.ensures) in
    let value : c.gate-first.result.0 + (i - c.slices-slices.result) ≡ slice_index s.signals me.rate.0 + 1 + j = omega (arith, c.gate-first.ensures.cell, c.if-i-slices.false, c.slices-slices.ensures) in
    value ∙ sym (scope-cell s me.x.0 me.rate.0 j bound) ∙ ap (λ (n : ℕ). slice_index (deriv_sweep_scope s me.x.0 me.rate.0) n) place
