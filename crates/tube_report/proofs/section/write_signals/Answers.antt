use Rattle.std.proofs.Common.{[], flat_map, unwrap_or}
use Rattle.tube_io.proofs.Sent.{sends_fail, sends_next}
use Rattle.tube_report.specs.Places.{names_at}
use Rattle.tube_report.specs.Sections.{signal_text}
use Rattle.tube_report.specs.declared.listed.Place.{Place}
use Rattle.tube_report.proofs.Written.{sends_error}
use Rattle.tube_report.proofs.section.write_signals.Goals as goal

pub returns-in_err-write_signal_at : goal.returns-in_err-write_signal_at
returns-in_err-write_signal_at g c =
    let text = λ (p : Place). flat_map (signal_text c.args.store.now.shape (unwrap_or c.args.store.now.box []) c.args.brief) (names_at c.args.items.now p) in
    sends_error _ _ _ _ _ _ _ _ c.from_residual.ensures.0
    (sends_fail _ _ _ text c.args.places.now c.loop-place.place-index _ _ _ _ _ c.loop-place-test.true c.loop-place.invariant c.in_err-write_signal_at.ensures)

pub loop-place-preserved : goal.loop-place-preserved
loop-place-preserved g c =
    let text = λ (p : Place). flat_map (signal_text c.args.store.now.shape (unwrap_or c.args.store.now.box []) c.args.brief) (names_at c.args.items.now p) in
    sends_next _ _ _ text c.args.places.now c.loop-place.place-index _ _ _ _ c.loop-place-test.true c.loop-place.invariant c.in_ok-write_signal_at.ensures
