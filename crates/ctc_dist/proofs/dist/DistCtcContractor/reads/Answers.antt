use Rattle.std.proofs.Common.{arith, length-append}
use Rattle.tube_names.specs.Points.{numbers, cells_of}
use Rattle.ctc_dist.specs.Distances.{squares_from}
use Rattle.ctc_dist.proofs.Reading.{dimension-is, projections-length}
use Rattle.tube_names.proofs.Numbers.{cells-length}
use Rattle.ctc_dist.proofs.dist.DistCtcContractor.reads.Goals as goal

pub returns : goal.returns
returns g c =
    let me = c.args.self.now in
    let s = c.args.store.now.shape in
    let p = cells_of s (numbers me.p) in
    let b = cells_of s (numbers me.b) in
    let n = dimension-is s me.p me.b g.row.N (omega arith) (omega arith) in
    omega (arith, n, projections-length p b (squares_from me.near me.far), length-append p b, cells-length s me.p, cells-length s me.b, c.count.ensures)
