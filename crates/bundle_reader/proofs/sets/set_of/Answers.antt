use Rattle.std.proofs.Common.{sym, ap, ◌∙◌, length}
use Rattle.std.proofs.lemmas.Bool.{eqb-true, false≢true}
use Rattle.bundle_reader.proofs.Fronts.{no_part}
use Rattle.bundle_reader.proofs.SetParts.{line_parts, no_runs, not_told, set_here, some_of, told_by}
use Rattle.bundle_reader.proofs.sets.set_of.Goals as goal

pub returns-in_default : goal.returns-in_default
returns-in_default c = no_part (line_parts c.args.number) c.args.bytes.now c.in_default.ensures

pub returns-then-is_empty : goal.returns-then-is_empty
returns-then-is_empty c =
    no_runs c.args.number c.args.bytes.now c.in-Some.line c.in-Some.rest.now c.in-Some.ensures c.in_ok-runs.runs c.in_ok-runs.rest.now c.in_ok-runs.ensures c.in_ok-cells.cells c.in_ok-cells.rest.now c.in_ok-cells.ensures
    c.in_ok-corners.corners c.in_ok-corners.rest.now c.in_ok-corners.ensures (ap length (sym c.as_slice.ensures) ∙ eqb-true (length c.as_slice.result.now) 0 (sym c.is_empty.ensures ∙ c.if-is_empty.true))

pub returns-then-not-may_tell : goal.returns-then-not-may_tell
returns-then-not-may_tell c =
    not_told c.args.number c.args.bytes.now c.in-Some.line c.in-Some.rest.now c.in-Some.ensures c.in_ok-runs.runs c.in_ok-runs.rest.now c.in_ok-runs.ensures c.in_ok-cells.cells c.in_ok-cells.rest.now c.in_ok-cells.ensures
    c.in_ok-corners.corners c.in_ok-corners.rest.now c.in_ok-corners.ensures
    (λ t. false≢true (sym c.if-not-may_tell.true ∙ c.may_tell.ensures.1 (told_by c.in-Some.line.finding _ _ _ _ (sym c.as_slice-2.ensures) (sym c.as_slice-3.ensures) t)))

pub returns : goal.returns
returns c =
    set_here c.args.number c.args.bytes.now c.in-Some.line c.in-Some.rest.now c.in-Some.ensures c.in_ok-runs.runs c.in_ok-runs.rest.now c.in_ok-runs.ensures c.in_ok-cells.cells c.in_ok-cells.rest.now c.in_ok-cells.ensures
    c.in_ok-corners.corners c.in_ok-corners.rest.now c.in_ok-corners.ensures (some_of _ _ c.as_slice.ensures (sym c.is_empty.ensures ∙ c.if-is_empty.false))
    (told_by c.in-Some.line.finding _ _ _ _ c.as_slice-2.ensures c.as_slice-3.ensures (c.may_tell.ensures.0 c.if-not-may_tell.false))
