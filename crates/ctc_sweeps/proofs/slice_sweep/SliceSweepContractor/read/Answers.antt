use Rattle.std.proofs.Common.{◌≡◌, ◌+◌, ◌*◌, ◌-◌, ◌<◌, length, slice_index, sym, ◌∙◌, arith}
use Rattle.ctc_parts.proofs.Members.{single-length, single-at}
use Rattle.ctc_sweeps.proofs.slice_sweep.SliceSweepContractor.read.Goals as goal

pub overflow_add-result : goal.overflow_add-result
overflow_add-result c =
    let s = c.args.store.now.shape in
    let x = c.args.self.now.signal.0 in
    let count = single-length (λ k. slice_index s.signals x + k) (2 * length s.grid - 1) in
    record { fits = omega (arith, count, c.requires.below, c.known.ensures.shape.signals x 0 c.requires.fits, c.known.ensures.shape.few, c.gate-first.ensures.cell) }

pub returns : goal.returns
returns c =
    let s = c.args.store.now.shape in
    let x = c.args.self.now.signal.0 in
    let count = single-length (λ k. slice_index s.signals x + k) (2 * length s.grid - 1) in
    let below : c.args.i < 2 * length s.grid - 1 = omega (arith, count, c.requires.below) in
    let first : c.gate-first.result.0 + c.args.i ≡ slice_index s.signals x + c.args.i = omega (arith, c.gate-first.ensures.cell) in
    first ∙ sym (single-at (λ k. slice_index s.signals x + k) (2 * length s.grid - 1) c.args.i 0 below)
