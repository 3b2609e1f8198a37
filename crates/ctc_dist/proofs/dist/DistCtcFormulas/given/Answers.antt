use Rattle.std.proofs.Common.{◌≡◌, ◌-◌, ◌<◌, ◌≤◌, ℕ, arith, rules, sym, ap, ◌∙◌}
use Rattle.tube_spec.specs.Projection.{Projection}
use Rattle.tube_spec.proofs.Monotone.{IfSome-map}
use Rattle.tube_names.specs.Points.{numbers, cells_of}
use Rattle.ctc_dist.specs.Distances.{squares_from, dimension, back}
use Rattle.ctc_dist.proofs.Reading.{dimension-is, projections-length, forth-at, back-at}
use Rattle.tube_names.proofs.Numbers.{numbers-length}
use Rattle.ctc_dist.proofs.dist.DistCtcFormulas.given.Goals as goal

pub back-requires : goal.back-requires
back-requires g c =
    let me = c.args.self.now in
    let s = c.args.store.now.shape in
    let n = dimension-is s me.p me.b g.row.N (omega arith) (omega arith) in
    let few : g.row.N ≤ 3 = omega (arith, numbers-length me.p) in
    let below : c.args.i - g.row.N < g.row.N = omega (arith, n, projections-length (cells_of s (numbers me.p)) (cells_of s (numbers me.b)) (squares_from me.near me.far), c.requires.below) in
    search rules

pub returns-then-i : goal.returns-then-i
returns-then-i g c =
    let me = c.args.self.now in
    let s = c.args.store.now.shape in
    let n = dimension-is s me.p me.b g.row.N (omega arith) (omega arith) in
    let here = forth-at (cells_of s (numbers me.p)) (cells_of s (numbers me.b)) (squares_from me.near me.far) c.args.i (omega (arith, n)) in
    IfSome-map _ _ c.args.store.now.box (λ xs e. e ∙ ap (λ (x : Projection). x.formula xs) (sym here)) c.forth.ensures

pub returns-else-i : goal.returns-else-i
returns-else-i g c =
    let me = c.args.self.now in
    let s = c.args.store.now.shape in
    let p = cells_of s (numbers me.p) in
    let b = cells_of s (numbers me.b) in
    let q = squares_from me.near me.far in
    let n = dimension-is s me.p me.b g.row.N (omega arith) (omega arith) in
    let here = back-at p b q c.args.i (omega (arith, n)) (omega (arith, projections-length p b q, c.requires.below)) in
    let place : c.args.i - g.row.N ≡ c.args.i - dimension p b = omega (arith, n) in
    IfSome-map _ _ c.args.store.now.box (λ xs e. e ∙ ap (λ (k : ℕ). (back p b q k).formula xs) place ∙ ap (λ (x : Projection). x.formula xs) (sym here)) c.back.ensures
