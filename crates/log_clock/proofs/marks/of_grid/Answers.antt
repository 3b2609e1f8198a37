use Rattle.std.proofs.Common.{◌≡◌, ◌∙◌, ◌+◌, ◌<◌, ◌≤◌, ap, arith, false, true, length, replicate, rules, slice_index}
use Rattle.std.proofs.lemmas.List.{length-set, take_all}
use Rattle.log_clock.specs.Marks.{marked}
use Rattle.log_clock.proofs.Marking.{all-ends, all-more, grid-more, grid-within, marked-none}
use Rattle.log_clock.proofs.marks.of_grid.Goals as goal

pub loop-i-init : goal.loop-i-init
loop-i-init c =
    let items : c.in_ok-marks.marks.items ≡ replicate (c.ticks.result + 1) false = c.in_ok-marks.ensures.items_if_clones_equal (search rules) in
    record {
      size = omega (arith, c.in_ok-marks.ensures.len, c.ticks.ensures);
      value = ap (marked 0) items ∙ marked-none 0 (c.ticks.result + 1);
      all = λ k below. absurd (omega (arith, below));
    }

pub index_mut-requires : goal.index_mut-requires
index_mut-requires c =
    let inside : c.loop-i.i < length c.args.grid.now = omega (arith, c.slices-i-end.ensures) in
    omega (arith, c.boundary-tick.ensures, grid-within c.args.grid.now c.loop-i.i c.known.ensures inside, c.loop-i.invariant.size)

pub loop-i-preserved : goal.loop-i-preserved
loop-i-preserved c =
    let bs = c.loop-i.marks.items in
    let grid = c.args.grid.now in
    let i = c.loop-i.i in
    let inside : i < length grid = omega (arith, c.slices-i-end.ensures) in
    let low = grid-within grid i c.known.ensures inside in
    let short : slice_index grid i < length bs = omega (arith, low, c.loop-i.invariant.size) in
    rw c.boundary-tick.ensures (record {
      size = length-set bs (slice_index grid i) true ∙ c.loop-i.invariant.size;
      value = grid-more bs grid i c.known.ensures inside c.loop-i.invariant.size low c.loop-i.invariant.value;
      all = all-more bs grid i short c.loop-i.invariant.all;
    })

pub returns : goal.returns
returns c =
    let bs = c.loop-i.marks.items in
    let grid = c.args.grid.now in
    let done : length grid ≤ c.loop-i.i = omega (arith, c.slices-i-end.ensures) in
    record {
      value = c.loop-i.invariant.value ∙ take_all c.loop-i.i grid done;
      ends = all-ends bs grid c.known.ensures c.loop-i.invariant.size (λ k below. c.loop-i.invariant.all k (omega (arith, below, done)));
    }
