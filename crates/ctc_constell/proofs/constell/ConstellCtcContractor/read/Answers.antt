use Rattle.std.proofs.Common.{◌+◌, ◌*◌, ◌<◌, ◌≤◌, arith, rules, ap, ◌∙◌, length, map, slice_index}
use Rattle.tube_names.specs.Points.{numbers}
use Rattle.ctc_constell.proofs.Reading.{both-length, scope-length, scope-at, alike-at, all-named}
use Rattle.tube_names.proofs.Numbers.{numbers-length}
use Rattle.ctc_constell.proofs.constell.ConstellCtcContractor.read.Goals as goal

pub var-requires : goal.var-requires
var-requires g c =
    let me = c.args.self.now in
    let marks = me.marks.items in
    let alike = alike-at g.row.N me.p (map numbers marks) (omega arith) c.requires.fits.alike in
    let some : 2 ≤ g.row.N = omega (arith, numbers-length me.p) in
    let few : g.row.N ≤ 3 = omega (arith, numbers-length me.p) in
    let below : c.args.i < g.row.N + g.row.N * length marks = omega (arith, c.requires.below, scope-length c.args.store.now.shape g.row.N me.p marks (omega arith) alike) in
    search rules

pub var-requires-2 : goal.var-requires-2
var-requires-2 g c =
    let me = c.args.self.now in
    let s = c.args.store.now.shape in
    let marks = me.marks.items in
    let alike = alike-at g.row.N me.p (map numbers marks) (omega arith) c.requires.fits.alike in
    let named = all-named (length s.vars) (numbers me.p) (map numbers marks) c.requires.fits.point c.requires.fits.named c.args.i (omega (arith, c.requires.below, scope-length s g.row.N me.p marks (omega arith) alike, both-length g.row.N me.p marks (omega arith) alike)) in
    let var : c.var.result.0 < length s.vars = omega (arith, named, c.var.ensures) in
    search rules

pub returns : goal.returns
returns g c =
    let me = c.args.self.now in
    let s = c.args.store.now.shape in
    let marks = me.marks.items in
    let alike = alike-at g.row.N me.p (map numbers marks) (omega arith) c.requires.fits.alike in
    c.var-2.ensures.cell ∙ ap (slice_index s.vars) c.var.ensures
    ∙ scope-at s (numbers me.p) (map numbers marks) c.args.i (omega (arith, c.requires.below, scope-length s g.row.N me.p marks (omega arith) alike, both-length g.row.N me.p marks (omega arith) alike))
