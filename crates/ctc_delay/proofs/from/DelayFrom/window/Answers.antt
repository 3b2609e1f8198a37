use Rattle.std.proofs.Common.{◌≡◌, ℕ, pos, ◌+ℤ◌, ◌≤ℤ◌, arith, ap, subst, ◌∙◌, slice_index}
use Rattle.std.proofs.lemmas.Int.{ints}
use Rattle.tube_spec.specs.Narrowing.{Within}
use Rattle.tube_spec.specs.Grid.{last_tick}
use Rattle.tube_spec.specs.Box.{cell_at}
use Rattle.ctc_delay.specs.Places.{place_last}
use Rattle.ctc_delay.specs.Delays.{delay_from_at}
use Rattle.ctc_delay.specs.Ranges.{AreDelays}
use Rattle.ctc_delay.specs.Windows.{cells_of}
use Rattle.ctc_delay.proofs.PlaceTicks.{place-order}
use Rattle.ctc_delay.proofs.DelayHulls.{delays-below}
use Rattle.ctc_delay.proofs.OverWindows.{greatest-is, if-cells, from-window}
use Rattle.ctc_delay.proofs.from.DelayFrom.window.Goals as goal

pub returns : goal.returns
returns c =
    let s = c.args.store.now in
    let grid = s.shape.grid in
    let is = c.known.ensures.shape.grid in
    let me = c.args.self.now in
    let tau = c.get-tau.result in
    let least = c.in_ok-delays.delays.least in
    let greatest = c.in_ok-delays.delays.greatest in
    let x : ℕ = slice_index s.shape.signals me.x.0 in
    let y : ℕ = slice_index s.shape.signals me.y.0 in
    let v : ℕ = slice_index s.shape.vars me.tau.0 in
    let end : c.ticks.result ≡ last_tick grid = c.ticks.ensures ∙ ap last_tick c.grid.ensures in
    let last : c.ticks-2.result ≡ last_tick grid = c.ticks-2.ensures ∙ ap last_tick c.grid-2.ensures in
    let are : AreDelays tau (last_tick grid) least greatest = subst (λ (t : ℕ). AreDelays tau t least greatest) last c.in_ok-delays.ensures in
    let below = delays-below tau (last_tick grid) least greatest are in
    let reached : (pos (place_last grid c.args.place) +ℤ tau.hi) ≤ℤ pos (last_tick grid) = grind (arith, ints, c.ticks_at-ticks.ensures.last, end) in
    let top : tau.hi ≤ℤ pos greatest = greatest-is tau (last_tick grid) least greatest are (omega (arith, ints, reached)) in
    record {
      fits = record { signal = c.requires.fits.1; ahead = omega (arith, are.order, are.few, is.ends); width = omega (arith, are.few, is.ends); reached = omega arith };
      inside = omega (arith, ints, reached, below, are.order);
      gives = λ place hull after among within over.
          if-cells s.box (λ xs. tau ≡ cell_at xs c.var.result.0) (λ xs. (delay_from_at grid x y v place).formula xs ≡ Within hull) c.get-tau.ensures.value (λ e.
          from-window grid (cells_of s.box) x y v place least greatest hull tau (e ∙ ap (cell_at (cells_of s.box)) c.var.ensures.cell) are (place-order grid is place among)
          (omega (arith, ints, top, are.order, within)) over);
    }
