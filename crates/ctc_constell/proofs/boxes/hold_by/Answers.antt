use Rattle.std.proofs.Common.{◌≡◌, Some, refl, sym, slice_index}
use Rattle.tube_spec.proofs.Monotone.{IfSome-any}
use Rattle.ctc_core.proofs.Firing.{Revises-empty}
use Rattle.ctc_constell.specs.Fixed.{fixed}
use Rattle.ctc_constell.proofs.Passes.{fixed-mono}
use Rattle.ctc_constell.proofs.boxes.hold_by.Goals as goal

pub returns-then-is_empty : goal.returns-then-is_empty
returns-then-is_empty c = Revises-empty _ c.args.store.now c.known.ensures (c.is_empty.ensures.0 c.if-is_empty.true)

pub returns : goal.returns
returns c =
    let s = c.args.store.now in
    let cell = slice_index s.shape.vars c.args.var.0 in
    c.hold.ensures (fixed cell c.args.to) (sym c.var-cell.ensures.cell) (fixed-mono (λ xs. s.box ≡ Some xs) cell c.args.to) (IfSome-any _ s.box (λ xs. refl))
