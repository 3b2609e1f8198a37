use Rattle.std.proofs.Common.{◌≡◌, ℕ, List, slice_index, arith, ap, ◌∙◌}
use Rattle.ctc_eval.proofs.Stretches.{boundary-few}
use Rattle.ctc_eval.proofs.readings.tick_of.Goals as goal

pub returns-clause-few : goal.returns-clause-few
returns-clause-few c =
    let grid = c.args.store.now.shape.grid in
    let here : c.boundary.result ≡ slice_index grid c.args.gate = c.boundary.ensures ∙ ap (λ (g : List ℕ). slice_index g c.args.gate) c.grid.ensures in
    omega (arith, here, boundary-few grid c.known.ensures.shape.grid c.args.gate c.requires)
