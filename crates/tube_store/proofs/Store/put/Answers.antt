use Rattle.std.proofs.Common.{◌+◌, ◌-◌, ◌<◌, ℕ, ◌∙◌, arith, sym, ap₂, subst, length, length-set}
use Rattle.tube_spec.specs.Shape.{IsShape}
use Rattle.tube_spec.proofs.Boxes.{IsBox-set}
use Rattle.tube_store.specs.State.{State}
use Rattle.tube_store.proofs.Resetting.{IsOther, other-widths, bounded-other}
use Rattle.tube_store.proofs.Store.put.Goals as goal

place-among : (c : goal.After-width-2) → c.args.c.0 < length c.self.inside.cells.items
place-among c = subst (λ (st : State). c.args.c.0 < st.shape.cells) (sym c.self.view_is) c.requires.named

-- the cell that stood there, and what comes in its place
in-turn : (c : goal.After-width-2) → IsOther c.self.inside.cells.items c.args.c.0 c.index.result.now c.args.to c.self.inside.total
in-turn c = other-widths c.self.inside.cells.items c.args.c.0 c.index.result.now c.args.to c.self.inside.total (place-among c) c.self.invariant.layout.few c.self.invariant.bounded c.requires.bounded c.index.ensures c.self.invariant.widths

pub overflow_sub-self : goal.overflow_sub-self
overflow_sub-self c =
    let xs = c.self.inside.cells.items in
    let inside : c.args.c.0 < length xs = subst (λ (st : State). c.args.c.0 < st.shape.cells) (sym c.self.view_is) c.requires.named in
    omega (arith, (other-widths xs c.args.c.0 c.index.result.now c.args.to c.self.inside.total inside c.self.invariant.layout.few c.self.invariant.bounded c.requires.bounded c.index.ensures c.self.invariant.widths).among, c.width.ensures)

-- src/lib.rt:318:22
pub overflow_add-self : goal.overflow_add-self
overflow_add-self c = omega (arith, (in-turn c).room, (in-turn c).among, c.width.ensures, c.width-2.ensures)

pub invariant_of-self : goal.invariant_of-self
invariant_of-self c =
    let s = c.self.inside in
    let xs = s.cells.items in
    let len = length-set xs c.args.c.0 c.args.to in
    let inside = subst (λ (st : State). c.args.c.0 < st.shape.cells) (sym c.self.view_is) c.requires.named in
    record {
      layout = subst (λ (n : ℕ). IsShape (record { grid = s.grid; signals = s.firsts.items; vars = s.places.items; cells = n })) (sym len) c.self.invariant.layout;
      proper = IsBox-set xs c.args.c.0 c.args.to inside c.self.invariant.proper c.known.ensures.proper;
      bounded = bounded-other xs c.args.c.0 c.args.to inside c.self.invariant.bounded c.requires.bounded;
      beside = c.self.invariant.beside ∙ sym len;
      ring = c.self.invariant.ring;
      widths = ap₂ (λ (h l : ℕ). s.total - h + l) c.width.ensures c.width-2.ensures ∙ (other-widths xs c.args.c.0 c.index.result.now c.args.to s.total inside c.self.invariant.layout.few c.self.invariant.bounded c.requires.bounded c.index.ensures c.self.invariant.widths).widths;
    }
