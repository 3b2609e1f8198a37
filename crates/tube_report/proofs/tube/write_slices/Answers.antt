use Rattle.std.proofs.Common.{◌-◌, [], length, arith, unwrap_or}
use Rattle.std.specs.List.{range_with_len}
use Rattle.std.proofs.lemmas.List.{take_all}
use Rattle.std.proofs.lemmas.List.FromFn.{length-range_with_len}
use Rattle.tube_report.specs.Sections.{slice_text}
use Rattle.tube_report.proofs.Written.{sends_error, sends_index, sends_no_index}
use Rattle.tube_report.proofs.tube.write_slices.Goals as goal

pub returns-in_err-write_slice : goal.returns-in_err-write_slice
returns-in_err-write_slice g c =
    sends_error _ _ _ _ _ _ _ _ c.from_residual.ensures.0
    (sends_no_index _ _ _ (slice_text c.args.store.now.shape (unwrap_or c.args.store.now.box []) c.args.signal.0) (length c.args.store.now.shape.grid - 1) c.loop-i.i _ _ _ _ (omega arith) c.loop-i.invariant c.in_err-write_slice.ensures)

pub loop-i-preserved : goal.loop-i-preserved
loop-i-preserved g c =
    sends_index _ _ _ (slice_text c.args.store.now.shape (unwrap_or c.args.store.now.box []) c.args.signal.0) (length c.args.store.now.shape.grid - 1) c.loop-i.i _ _ _ (omega arith) c.loop-i.invariant c.in_ok-write_slice.ensures

pub returns : goal.returns
returns g c =
    let whole = take_all c.loop-i.i (range_with_len 0 (length c.args.store.now.shape.grid - 1)) (omega (arith, length-range_with_len 0 (length c.args.store.now.shape.grid - 1))) in
    rw whole at c.loop-i.invariant
