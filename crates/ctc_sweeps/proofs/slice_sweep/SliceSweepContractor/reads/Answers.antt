use Rattle.std.proofs.Common.{◌+◌, ◌*◌, ◌-◌, length, slice_index, arith}
use Rattle.ctc_parts.proofs.Members.{single-length}
use Rattle.ctc_sweeps.proofs.slice_sweep.SliceSweepContractor.reads.Goals as goal

pub returns : goal.returns
returns c =
    let s = c.args.store.now.shape in
    omega (arith, c.slices.ensures, single-length (λ k. slice_index s.signals c.args.self.now.signal.0 + k) (2 * length s.grid - 1))
