use Rattle.std.proofs.Common.{[], List, sym, subst, unwrap_or}
use Rattle.std.specs.Prelude.{All}
use Rattle.tube_io.proofs.Sent.{sends_stops, sends_then}
use Rattle.tube_report.specs.Places.{Stands}
use Rattle.tube_report.specs.Sections.{signal_text, variable_text}
use Rattle.tube_report.specs.declared.listed.Place.{Place}
use Rattle.tube_report.proofs.Boxes.{sends_filled}
use Rattle.tube_report.proofs.Listing.{all_stand, listed_text}
use Rattle.tube_report.proofs.Written.{sends_error}
use Rattle.tube_report.proofs.section.write_box.Goals as goal

pub write_signals-requires-clause-stand : goal.write_signals-requires-clause-stand
write_signals-requires-clause-stand g c =
    subst (λ (places : List Place). All (Stands c.args.items.now) places) (sym c.requires.places) (all_stand c.args.items.now)

pub write_variables-requires-clause-stand : goal.write_variables-requires-clause-stand
write_variables-requires-clause-stand g c =
    subst (λ (places : List Place). All (Stands c.args.items.now) places) (sym c.requires.places) (all_stand c.args.items.now)

pub returns-in_err-write_signals : goal.returns-in_err-write_signals
returns-in_err-write_signals g c =
    let items = c.args.items.now in
    let shape = c.args.store.now.shape in
    let box = unwrap_or c.args.store.now.box [] in
    let one = rw (c.requires.places, listed_text (signal_text shape box c.args.brief) items) at c.in_err-write_signals.ensures in
    sends_filled _ _ _ items shape c.args.store.now.box c.args.brief _ _ _ (λ none. cc (c.if-is_empty.false, c.is_empty.ensures.1 none))
    (sends_error _ _ _ _ _ _ _ _ c.from_residual.ensures.0 (sends_stops _ _ _ _ _ _ _ _ one))

pub returns : goal.returns
returns g c =
    let items = c.args.items.now in
    let shape = c.args.store.now.shape in
    let box = unwrap_or c.args.store.now.box [] in
    let one = rw (c.requires.places, listed_text (signal_text shape box c.args.brief) items) at c.in_ok-write_signals.ensures in
    let two = rw (c.requires.places, listed_text (variable_text shape box) items) at c.write_variables.ensures in
    sends_filled _ _ _ items shape c.args.store.now.box c.args.brief _ _ _ (λ none. cc (c.if-is_empty.false, c.is_empty.ensures.1 none))
    (sends_then _ _ _ _ _ _ _ _ _ one two)
