use Rattle.std.proofs.Common.{◌≡◌, ◌<◌, ◌≤◌, List, arith, rules, sym, ap, ap₂, subst, ◌∙◌, length, map, All, slice_index_or}
use Rattle.tube_spec.specs.Span.{Span}
use Rattle.tube_spec.specs.Hull.{join_option}
use Rattle.tube_store.specs.declared.VarId.{VarId}
use Rattle.ctc_constell.specs.Points.{box_of}
use Rattle.tube_names.specs.Points.{numbers, cells_of}
use Rattle.ctc_constell.specs.Constellations.{left_by, mark_at}
use Rattle.ctc_constell.proofs.Reading.{mark-cells, mark-named, hull-more, IfSome-map3}
use Rattle.tube_names.proofs.Numbers.{numbers-length}
use Rattle.ctc_constell.proofs.constell.ConstellCtc.left.Goals as goal

pub box_of-here-requires : goal.box_of-here-requires
box_of-here-requires g c =
    let me = c.args.self.now in
    let s = c.args.store.now.shape in
    let marks = me.marks.items in
    let k = c.loop-mark.mark-index in
    let mark = c.mark-item.result in
    let all : c.deref-mark-items.result.now ≡ marks = c.deref-mark-items.ensures.value in
    let is : mark ≡ slice_index_or marks k mark = c.mark-item.is ∙ ap (λ (xs : List (List VarId)). slice_index_or xs k mark) all in
    let inside : k < length marks = omega (arith, ap length all) in
    let some : 1 ≤ g.row.N = omega (arith, numbers-length me.p) in
    let few : g.row.N ≤ 8 = omega (arith, numbers-length me.p) in
    let named : All (λ v. v < length s.vars) (numbers mark) = subst (λ (m : List VarId). All (λ v. v < length s.vars) (numbers m)) (sym is) (mark-named (length s.vars) marks c.requires.fits.named k mark inside) in
    search rules

pub loop-mark-preserved : goal.loop-mark-preserved
loop-mark-preserved g c =
    let me = c.args.self.now in
    let s = c.args.store.now.shape in
    let marks = me.marks.items in
    let k = c.loop-mark.mark-index in
    let mark = c.mark-item.result in
    let all : c.deref-mark-items.result.now ≡ marks = c.deref-mark-items.ensures.value in
    let is : mark ≡ slice_index_or marks k mark = c.mark-item.is ∙ ap (λ (xs : List (List VarId)). slice_index_or xs k mark) all in
    let inside : k < length marks = omega (arith, ap length all) in
    let cells : cells_of s (numbers mark) ≡ mark_at (map (cells_of s) (map numbers marks)) k = ap (λ (m : List VarId). cells_of s (numbers m)) is ∙ sym (mark-cells s marks k mark inside) in
    IfSome-map3 _ _ _ _ c.args.store.now.box (λ xs hull point here.
    c.join-hull.ensures ∙ ap₂ join_option hull (c.left_by.ensures ∙ ap₂ (λ (b m : List Span). left_by b m c.args.i) point (here ∙ ap (box_of xs) cells))
    ∙ sym (hull-more (λ j. left_by (box_of xs (cells_of s (numbers me.p))) (box_of xs (mark_at (map (cells_of s) (map numbers marks)) j)) c.args.i) k))
    c.loop-mark.invariant c.box_of-point.ensures.value c.box_of-here.ensures.value
