use Rattle.std.proofs.Common.{◌≡◌, ◌<◌, ◌≤◌, ℕ, List, arith, rules, sym, ap, ap₂, subst, ◌∙◌, length, map, All, slice_index_or}
use Rattle.std.proofs.lemmas.List.{length-map, length-replicate}
use Rattle.tube_spec.specs.Span.{Span}
use Rattle.tube_spec.specs.Hull.{hull_below, join_option}
use Rattle.tube_spec.proofs.Monotone.{IfSome-any, IfSome-map}
use Rattle.tube_store.specs.declared.VarId.{VarId}
use Rattle.ctc_constell.specs.Points.{box_of}
use Rattle.tube_names.specs.Points.{numbers, cells_of}
use Rattle.ctc_constell.specs.Constellations.{left_by, mark_at}
use Rattle.ctc_constell.proofs.Reading.{mark-cells, mark-named, hull-more, IfSome-map3}
use Rattle.ctc_constell.proofs.Passes.{none, none-each}
use Rattle.tube_names.proofs.Numbers.{numbers-length}
use Rattle.ctc_constell.proofs.constell.ConstellCtc.lefts.Goals as goal

pub loop-mark-init : goal.loop-mark-init
loop-mark-init g c = record {
  size = length-replicate g.row.N none;
  each = λ k l. IfSome-any _ c.args.store.now.box (λ xs. none-each g.row.N k);
}

pub box_of-here-requires : goal.box_of-here-requires
box_of-here-requires g c =
    let me = c.args.self.now in
    let s = c.args.store.now.shape in
    let marks = me.marks.items in
    let k = c.loop-mark.mark-index in
    let mark = c.mark-item.result in
    let all : c.deref-mark-items.result.now ≡ marks = c.deref-mark-items.ensures.value in
    let is : mark ≡ slice_index_or marks k mark = c.mark-item.is ∙ ap (λ (xs : List (List VarId)). slice_index_or xs k mark) all in
    let inside : k < length marks = omega (arith, ap length all) in
    let some : 1 ≤ g.row.N = omega (arith, numbers-length me.p) in
    let few : g.row.N ≤ 8 = omega (arith, numbers-length me.p) in
    let named : All (λ v. v < length s.vars) (numbers mark) = subst (λ (m : List VarId). All (λ v. v < length s.vars) (numbers m)) (sym is) (mark-named (length s.vars) marks c.requires.fits.named k mark inside) in
    search rules

pub loop-mark-preserved : goal.loop-mark-preserved
loop-mark-preserved g c =
    let me = c.args.self.now in
    let s = c.args.store.now.shape in
    let marks = me.marks.items in
    let k = c.loop-mark.mark-index in
    let mark = c.mark-item.result in
    let all : c.deref-mark-items.result.now ≡ marks = c.deref-mark-items.ensures.value in
    let is : mark ≡ slice_index_or marks k mark = c.mark-item.is ∙ ap (λ (xs : List (List VarId)). slice_index_or xs k mark) all in
    let inside : k < length marks = omega (arith, ap length all) in
    let cells : cells_of s (numbers mark) ≡ mark_at (map (cells_of s) (map numbers marks)) k = ap (λ (m : List VarId). cells_of s (numbers m)) is ∙ sym (mark-cells s marks k mark inside) in
    record {
      size = c.joined-hulls.ensures.size;
      each = λ i l. IfSome-map3 _ _ _ _ c.args.store.now.box (λ xs hull point here.
          c.joined-hulls.ensures.each i l ∙ ap₂ join_option hull (ap₂ (λ (b m : List Span). left_by b m i) point (here ∙ ap (box_of xs) cells))
          ∙ sym (hull-more (λ j. left_by (box_of xs (cells_of s (numbers me.p))) (box_of xs (mark_at (map (cells_of s) (map numbers marks)) j)) i) k))
          (c.loop-mark.invariant.each i l) c.box_of-point.ensures.value c.box_of-here.ensures.value;
    }

pub returns-clause-each : goal.returns-clause-each
returns-clause-each g c = λ k l.
    let me = c.args.self.now in
    let s = c.args.store.now.shape in
    let marks : List (List ℕ) = map (cells_of s) (map numbers me.marks.items) in
    let all : c.deref-mark-items.result.now ≡ me.marks.items = c.deref-mark-items.ensures.value in
    let size : length marks ≡ length me.marks.items = length-map (map numbers me.marks.items) (cells_of s) ∙ length-map me.marks.items numbers in
    let end : c.loop-mark.mark-index ≡ length marks = omega (arith, size, ap length all, c.loop-mark-test.false, c.loop-mark.auto) in
    IfSome-map _ _ c.args.store.now.box (λ xs e. e ∙ ap (hull_below (λ j. left_by (box_of xs (cells_of s (numbers me.p))) (box_of xs (mark_at marks j)) k)) end) (c.loop-mark.invariant.each k l)
