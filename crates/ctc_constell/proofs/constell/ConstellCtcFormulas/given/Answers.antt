use Rattle.std.proofs.Common.{arith, sym, ap, ◌∙◌, length, map}
use Rattle.std.proofs.lemmas.List.FromFn.{length-map-range_with_len}
use Rattle.tube_spec.specs.Narrowing.{narrowing_of}
use Rattle.tube_spec.specs.Projection.{Projection}
use Rattle.tube_spec.proofs.Monotone.{IfSome-map}
use Rattle.tube_names.specs.Points.{numbers, cells_of}
use Rattle.ctc_constell.specs.Constellations.{constell_projection}
use Rattle.ctc_constell.proofs.Reading.{projection-is}
use Rattle.ctc_constell.proofs.constell.ConstellCtcFormulas.given.Goals as goal

pub returns-in-Some : goal.returns-in-Some
returns-in-Some g c =
    let s = c.args.store.now.shape in
    let p = cells_of s (numbers c.args.self.now.p) in
    let marks = map (cells_of s) (map numbers c.args.self.now.marks.items) in
    let here = projection-is p marks c.args.i (omega (arith, c.requires.below, length-map-range_with_len (constell_projection p marks) 0 (length p))) in
    IfSome-map _ _ c.args.store.now.box (λ xs e. ap narrowing_of (sym c.in-Some.is ∙ e) ∙ ap (λ (x : Projection). x.formula xs) (sym here)) c.left.ensures

pub returns-in-None : goal.returns-in-None
returns-in-None g c =
    let s = c.args.store.now.shape in
    let p = cells_of s (numbers c.args.self.now.p) in
    let marks = map (cells_of s) (map numbers c.args.self.now.marks.items) in
    let here = projection-is p marks c.args.i (omega (arith, c.requires.below, length-map-range_with_len (constell_projection p marks) 0 (length p))) in
    IfSome-map _ _ c.args.store.now.box (λ xs e. ap narrowing_of (sym c.in-None.is ∙ e) ∙ ap (λ (x : Projection). x.formula xs) (sym here)) c.left.ensures
