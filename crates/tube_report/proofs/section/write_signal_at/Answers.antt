use Rattle.std.proofs.Common.{[], List, ℕ, flat_map, subst, take, unwrap_or}
use Rattle.mission_items.specs.declared.decl.Decl.{Decl}
use Rattle.tube_io.specs.Sends.{Sends}
use Rattle.tube_report.specs.Sections.{signal_text}
use Rattle.tube_report.proofs.Listing.{item_at}
use Rattle.tube_report.proofs.section.write_signal_at.Goals as goal

pub returns : goal.returns
returns g c =
    let items = c.args.items.now in
    let p = c.args.place.now in
    subst (λ (names : List (List ℕ × Decl)). Sends g.K.Sink.written g.K.Sink.flushed g.K.Sink.faults
    (flat_map (signal_text c.args.store.now.shape (unwrap_or c.args.store.now.box []) c.args.brief) names) c.args.sink.now c.write_signal.new.sink c.write_signal.result)
    (item_at items p c.index-items-place.result c.requires.stands c.index-items-place.is)
    (c.write_signal.ensures (take p.index items) c.requires.stands.signals)
