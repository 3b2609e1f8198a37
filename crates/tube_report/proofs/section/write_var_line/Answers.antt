use Rattle.std.proofs.Common.{ℕ, List, [], ◌++◌, Err, codes, subst}
use Rattle.log_spelling.specs.References.{part_text}
use Rattle.tube_io.specs.Sends.{Sends}
use Rattle.tube_io.specs.declared.whole.WriteFault.{WriteFault}
use Rattle.tube_io.proofs.Sent.{sends_stops, sends_then}
use Rattle.tube_report.specs.Lines.{range_text}
use Rattle.tube_report.proofs.Written.{sends_error}
use Rattle.tube_report.proofs.VarLines.{var-text}
use Rattle.tube_report.proofs.section.write_var_line.Goals as goal

pub returns : goal.returns
returns g c =
    let one = rw c.bytes.ensures at c.in_ok-write_pieces.ensures in
    subst (λ (text : List ℕ). Sends {T = Unit {0}} {E = WriteFault} g.K.Sink.written g.K.Sink.flushed g.K.Sink.faults text c.args.sink.now c.write_range.new.sink c.write_range.result)
    (var-text c.args.name.now (part_text c.args.part) c.args.range)
    (sends_then _ _ _ (codes "var " ++ (c.args.name.now ++ [])) (part_text c.args.part ++ range_text c.args.range) _ _ _ _ one c.write_range.ensures)

pub returns-in_err-write_pieces : goal.returns-in_err-write_pieces
returns-in_err-write_pieces g c =
    let one = rw c.bytes.ensures at c.in_err-write_pieces.ensures in
    let e = c.in_err-write_pieces.field-0.0 in
    sends_error _ _ _ _ _ _ e _ c.from_residual.ensures.0
    (subst (λ (text : List ℕ). Sends {T = Unit {0}} {E = WriteFault} g.K.Sink.written g.K.Sink.flushed g.K.Sink.faults text c.args.sink.now c.write_pieces.new.sink (Err e))
    (var-text c.args.name.now (part_text c.args.part) c.args.range)
    (sends_stops _ _ _ (codes "var " ++ (c.args.name.now ++ [])) (part_text c.args.part ++ range_text c.args.range) _ _ e one))
