use Rattle.std.proofs.Common.{◌≡◌, ◌+◌, ◌<◌, ◌≤◌, arith, rules, ap, ◌∙◌, length, slice_index}
use Rattle.tube_names.specs.Points.{numbers, cells_of}
use Rattle.ctc_dist.specs.Distances.{squares_from}
use Rattle.ctc_dist.proofs.Reading.{dimension-is, projections-length, scope-at, target-at}
use Rattle.tube_names.proofs.Numbers.{numbers-length, cells-length}
use Rattle.ctc_dist.proofs.dist.DistCtcFormulas.target.Goals as goal

pub var-requires : goal.var-requires
var-requires g c =
    let me = c.args.self.now in
    let s = c.args.store.now.shape in
    let p = cells_of s (numbers me.p) in
    let b = cells_of s (numbers me.b) in
    let n = dimension-is s me.p me.b g.row.N (omega arith) (omega arith) in
    let some : 2 ≤ g.row.N = omega (arith, numbers-length me.p) in
    let few : g.row.N ≤ 3 = omega (arith, numbers-length me.p) in
    let below : c.args.i < g.row.N + g.row.N = omega (arith, n, projections-length p b (squares_from me.near me.far), c.requires.below) in
    search rules

pub returns : goal.returns
returns g c =
    let me = c.args.self.now in
    let s = c.args.store.now.shape in
    let p = cells_of s (numbers me.p) in
    let b = cells_of s (numbers me.b) in
    let q = squares_from me.near me.far in
    let n = dimension-is s me.p me.b g.row.N (omega arith) (omega arith) in
    let all = projections-length p b q in
    let alike : length b ≡ length p = omega (arith, cells-length s me.p, cells-length s me.b) in
    c.var-2.ensures.cell ∙ ap (slice_index s.vars) c.var.ensures
    ∙ scope-at s (numbers me.p) (numbers me.b) c.args.i (omega (arith, n, all, c.requires.below, numbers-length me.p, numbers-length me.b))
    ∙ target-at p b q alike c.args.i (omega (arith, n, all, c.requires.below, cells-length s me.p))
