use Rattle.std.proofs.Common.{arith}
use Rattle.tube_names.specs.Points.{numbers, cells_of}
use Rattle.ctc_dist.specs.Distances.{squares_from}
use Rattle.ctc_dist.proofs.Reading.{dimension-is, projections-length}
use Rattle.ctc_dist.proofs.dist.DistCtcFormulas.count.Goals as goal

pub returns : goal.returns
returns g c =
    let me = c.args.self.now in
    let s = c.args._store.now.shape in
    let n = dimension-is s me.p me.b g.row.N (omega arith) (omega arith) in
    let l = projections-length (cells_of s (numbers me.p)) (cells_of s (numbers me.b)) (squares_from me.near me.far) in
    omega (arith, n, l)
