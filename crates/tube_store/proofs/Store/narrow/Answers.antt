use Rattle.std.proofs.Common.{◌<◌, ◌-◌, ℕ, ◌∙◌, sym, ap₂, subst, refl, length, length-set}
use Rattle.tube_spec.specs.Shape.{IsShape}
use Rattle.tube_spec.specs.Span.{IsProper}
use Rattle.tube_spec.proofs.Boxes.{IsBox-set}
use Rattle.tube_store.specs.State.{State}
use Rattle.tube_store.proofs.Cells.{narrowed-bounded, narrowed-widths}
use Rattle.tube_store.proofs.Store.narrow.Goals as goal

pub invariant_of-self-in-Some : goal.invariant_of-self-in-Some
invariant_of-self-in-Some c =
    let s = c.self.inside in
    let xs = s.cells.items in
    let inside : c.args.c.0 < length xs = subst (λ (st : State). c.args.c.0 < st.shape.cells) (sym c.self.view_is) c.requires.named in
    let len = length-set xs c.args.c.0 c.in-Some.less in
    let proper : IsProper c.in-Some.less = subst IsProper (sym c.in-Some.ensures.value) (c.in-Some.ensures.exists.0 refl) in
    record {
      layout = subst (λ (n : ℕ). IsShape (record { grid = s.grid; signals = s.firsts.items; vars = s.places.items; cells = n })) (sym len) c.self.invariant.layout;
      proper = IsBox-set xs c.args.c.0 c.in-Some.less inside c.self.invariant.proper proper;
      bounded = narrowed-bounded xs c.args.c.0 c.index-held.result.now c.args.to c.in-Some.less inside c.index-held.ensures c.in-Some.ensures.value c.self.invariant.bounded;
      beside = c.touch.ensures.marks ∙ c.self.invariant.beside ∙ sym len;
      ring = c.touch.ensures.touched;
      widths = ap₂ (λ (h l : ℕ). s.total - (h - l)) c.width.ensures c.width-in-Some.ensures ∙ (narrowed-widths xs c.args.c.0 c.index-held.result.now c.args.to c.in-Some.less s.total inside c.index-held.ensures c.in-Some.ensures.value c.self.invariant.widths).widths;
    }
