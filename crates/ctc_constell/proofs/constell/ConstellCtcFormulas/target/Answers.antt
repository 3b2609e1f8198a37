use Rattle.std.proofs.Common.{arith, sym, ap, ◌∙◌, length, map}
use Rattle.std.proofs.lemmas.List.FromFn.{length-map-range_with_len}
use Rattle.tube_spec.specs.Projection.{Projection}
use Rattle.tube_names.specs.Points.{numbers, cells_of}
use Rattle.ctc_constell.specs.Constellations.{constell_projection}
use Rattle.ctc_constell.proofs.Reading.{projection-is}
use Rattle.tube_names.proofs.Numbers.{named-at, cells-length, cell-at}
use Rattle.ctc_constell.proofs.constell.ConstellCtcFormulas.target.Goals as goal

pub var-requires : goal.var-requires
var-requires g c =
    let me = c.args.self.now in
    let s = c.args.store.now.shape in
    let p = cells_of s (numbers me.p) in
    let size = length-map-range_with_len (constell_projection p (map (cells_of s) (map numbers me.marks.items))) 0 (length p) in
    named-at (length s.vars) me.p c.requires.fits.point c.args.i _ (omega (arith, c.requires.below, size, cells-length s me.p))

pub returns : goal.returns
returns g c =
    let me = c.args.self.now in
    let s = c.args.store.now.shape in
    let p = cells_of s (numbers me.p) in
    let marks = map (cells_of s) (map numbers me.marks.items) in
    let size = length-map-range_with_len (constell_projection p marks) 0 (length p) in
    c.var.ensures.cell ∙ sym (cell-at s me.p c.args.i _ (omega (arith, c.requires.below, size, cells-length s me.p)))
    ∙ ap (λ (x : Projection). x.target) (sym (projection-is p marks c.args.i (omega (arith, c.requires.below, size))))
