use Rattle.std.proofs.Common.{◌≡◌, ◌+ℤ◌, arith, sym, ap, ap₂, ◌∙◌}
use Rattle.std.proofs.lemmas.Int.{ints}
use Rattle.tube_spec.specs.Span.{Span, add_of}
use Rattle.tube_spec.proofs.Monotone.{IfSome-map2}
use Rattle.tube_names.specs.Points.{numbers, cells_of}
use Rattle.ctc_dist.specs.Distances.{square_but}
use Rattle.ctc_dist.proofs.Reading.{span_sum-more}
use Rattle.ctc_dist.proofs.dist.DistCtc.other_squares.Goals as goal

pub loop-j-preserved : goal.loop-j-preserved
loop-j-preserved g c =
    let s = c.args.store.now.shape in
    let p = cells_of s (numbers c.args.self.now.p) in
    let b = cells_of s (numbers c.args.self.now.b) in
    let low : c.add-sum.result.lo ≡ c.loop-j.sum.lo +ℤ c.square_but.result.lo = ap (λ (x : Span). x.lo) c.add-sum.ensures.value in
    let high : c.add-sum.result.hi ≡ c.loop-j.sum.hi +ℤ c.square_but.result.hi = ap (λ (x : Span). x.hi) c.add-sum.ensures.value in
    record {
      value = IfSome-map2 _ _ _ c.args.store.now.box (λ xs sum term. c.add-sum.ensures.value ∙ ap₂ add_of sum term ∙ sym (span_sum-more (square_but p b xs c.args.i) c.loop-j.j)) c.loop-j.invariant.value c.square_but.ensures.value;
      bounded = record { low = omega (arith, ints); high = omega (arith, ints) };
    }
