use Rattle.std.proofs.Common.{◌+◌, ◌*◌, ◌-◌, length, length-append, slice_index, [], ◌∷◌, arith}
use Rattle.ctc_parts.specs.Parts.{each_below}
use Rattle.ctc_parts.proofs.Members.{single-length}
use Rattle.ctc_sweeps.proofs.deriv_sweep.DerivSweepContractor.reads.Goals as goal

pub returns : goal.returns
returns c =
    let s = c.args.store.now.shape in
    let me = c.args.self.now in
    omega (
      arith,
      c.slices.ensures,
      length-append (each_below (λ k. (slice_index s.signals me.x.0 + 2 * k) ∷ []) (length s.grid)) (each_below (λ k. (slice_index s.signals me.rate.0 + 1 + k) ∷ []) (2 * (length s.grid - 1))),
      single-length (λ k. slice_index s.signals me.x.0 + 2 * k) (length s.grid),
      single-length (λ k. slice_index s.signals me.rate.0 + 1 + k) (2 * (length s.grid - 1)),
    )
