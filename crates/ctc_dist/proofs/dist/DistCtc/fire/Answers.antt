use Rattle.std.proofs.Common.{◌≡◌, ◌+◌, ◌<◌, ℕ, List, arith, rules, sym, subst, ◌∙◌}
use Rattle.tube_spec.specs.Span.{Span}
use Rattle.tube_spec.specs.Shape.{Shape}
use Rattle.tube_spec.specs.Projection.{Projection}
use Rattle.tube_names.specs.Points.{numbers, cells_of}
use Rattle.ctc_core.specs.declared.Revised.{Revised}
use Rattle.ctc_core.specs.Answers.{Revises, then_of}
use Rattle.ctc_core.proofs.Firing.{Revises-then}
use Rattle.ctc_core.proofs.Fixing.{if-each}
use Rattle.ctc_dist.specs.Distances.{squares_from, dimension, DistFits}
use Rattle.ctc_dist.proofs.Reading.{dimension-is}
use Rattle.ctc_dist.proofs.Pairs.{pair, pairs_below, pairs-more, pair-mono, pairs-fire}
use Rattle.ctc_dist.proofs.dist.DistCtc.fire.Goals as goal

pub loop-i-init : goal.loop-i-init
loop-i-init g c = c.start-answer.ensures.none

pub fire_both-next-requires : goal.fire_both-next-requires
fire_both-next-requires g c =
    let me = c.args.self.now in
    let fits : DistFits c.loop-i.store.shape (numbers me.p) (numbers me.b) me.near me.far =
    subst (λ (s : Shape). DistFits s (numbers me.p) (numbers me.b) me.near me.far) (sym c.loop-i.invariant.revised.shape) c.requires in
    let below : c.loop-i.i < g.row.N = omega (arith, c.loop-i-test.true) in
    search rules

pub loop-i-preserved : goal.loop-i-preserved
loop-i-preserved g c =
    let old = c.args.store.now in
    let me = c.args.self.now in
    let p : List ℕ = cells_of old.shape (numbers me.p) in
    let b : List ℕ = cells_of old.shape (numbers me.b) in
    let q : Span = squares_from me.near me.far in
    let i = c.loop-i.i in
    let anywhere : List Span → Type 0 = λ xs. Unit {0} in
    let new = c.fire_both-next.new.store in
    let next = subst (λ (s : Shape). Revises (pair (cells_of s (numbers me.p)) (cells_of s (numbers me.b)) q i) c.loop-i.store new c.fire_both-next.result) c.loop-i.invariant.revised.shape c.fire_both-next.ensures in
    let both = Revises-then anywhere (pairs_below p b q i) (pair p b q i) old c.loop-i.store new c.loop-i.answer c.fire_both-next.result (if-each old.box anywhere (λ xs. tt)) (pair-mono anywhere p b q i) c.loop-i.invariant next in
    subst (λ (a : Revised). Revises (pairs_below p b q (i + 1)) old new a) (sym c.then-answer.ensures)
    (subst (λ (ps : List Projection). Revises ps old new (then_of c.loop-i.answer c.fire_both-next.result)) (sym (pairs-more p b q i)) both)

pub returns : goal.returns
returns g c =
    let old = c.args.store.now in
    let me = c.args.self.now in
    let p : List ℕ = cells_of old.shape (numbers me.p) in
    let b : List ℕ = cells_of old.shape (numbers me.b) in
    let q : Span = squares_from me.near me.far in
    let n : dimension p b ≡ g.row.N = dimension-is old.shape me.p me.b g.row.N (omega arith) (omega arith) in
    let all : c.loop-i.i ≡ dimension p b = omega (arith, n, c.loop-i-test.false, c.loop-i.auto) in
    pairs-fire p b q old c.loop-i.store c.loop-i.answer (subst (λ (k : ℕ). Revises (pairs_below p b q k) old c.loop-i.store c.loop-i.answer) all c.loop-i.invariant)
