use Rattle.std.proofs.Common.{inl, inr, arith}
use Rattle.ctc_sweeps.specs.DerivSweepLaws.{deriv-cells}
use Rattle.ctc_sweeps.proofs.deriv_sweep.DerivSweepParted.reach.Goals as goal

pub returns : goal.returns
returns c = λ i l m.
    let s = c.args.store.now.shape in
    let me = c.args.self.now in
    let own = c.slices_at_gate-own.ensures in
    let rates = c.slice_of_rate-rates.ensures in
    elim (deriv-cells s me.x.0 me.rate.0 i c.args.cell.0 m) [
      | inl g ↦ elim g [
        | inl e ↦ let h = own.left i l e in (grind (arith, h.0, c.min.ensures), grind (arith, h.1, c.max.ensures))
        | inr e ↦ let h = own.right i l e in (grind (arith, h.0, c.min.ensures), grind (arith, h.1, c.max.ensures))
      ]
      | inr g ↦ elim g [
        | inl e ↦ let h = rates.envelope i l e in (grind (arith, h.0, c.min.ensures), grind (arith, h.1, c.max.ensures))
        | inr e ↦ let h = rates.gate i l e in (grind (arith, h.0, c.min.ensures), grind (arith, h.1, c.max.ensures))
      ]
    ]
