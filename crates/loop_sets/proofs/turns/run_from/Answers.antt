use Rattle.std.proofs.Common.{◌≡◌, refl, arith, true}
use Rattle.loop_sets.proofs.Beside.{found-run, missed-run, past-runs}
use Rattle.loop_sets.proofs.turns.run_from.Goals as goal

pub returns-then-place-cells : goal.returns-then-place-cells
returns-then-place-cells c = past-runs c.args.cells.now c.args.a c.args.b c.args.place c.requires.order c.requires.parted (omega arith)

pub returns-then-is_begun : goal.returns-then-is_begun
returns-then-is_begun c =
    let is = c.is_begun.ensures.0 c.if-is_begun.true in
    found-run c.args.cells.now c.args.a c.args.b c.args.place c.requires.order c.requires.parted _ (omega arith) refl is.0 is.1

pub returns : goal.returns
returns c =
    missed-run c.args.cells.now c.args.a c.args.b c.args.place c.requires.order c.requires.parted
    (λ row first. absurd (let t : c.is_begun.result ≡ true = c.is_begun.ensures.1 (row, first) in cc))
