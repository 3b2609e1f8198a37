use Rattle.std.proofs.Common.{subst, IfSome, refl, SFits, w64, to_z, of_z, map, arith, ap}
use Rattle.std.proofs.lemmas.Int.{ints, to_z-of_z}
use Rattle.tube_spec.specs.Grid.{last_tick}
use Rattle.loop_prover.proofs.Stepping.{fits}
use Rattle.loop_sets.specs.Views.{label_in}
use Rattle.loop_sets.specs.Finding.{IsTested}
use Rattle.loop_sets.specs.Provers.{Asking}
use Rattle.loop_sets.proofs.Testing.{end-within, tested-of, bound-lent, turns-lent}
use Rattle.loop_sets.proofs.finding.Prover.degree_of.Goals as goal

pub bound_over-d1-requires-clause-within : goal.bound_over-d1-requires-clause-within
bound_over-d1-requires-clause-within c =
    end-within c.args.set.now c.in_ok-cells.cells.items c.deref.result.now c.self.inside.query.now.gap c.ticks-ticks.result (last_tick c.self.inside.store.now.shape.grid) _ c.grid-2.result.now c.in_ok-cells.ensures.order c.in_ok-cells.ensures.cells
    c.deref.ensures.value c.ticks-ticks.ensures (ap last_tick c.grid-2.ensures) c.self.invariant.steps_x.len

pub bound_over-d2-requires-clause-within : goal.bound_over-d2-requires-clause-within
bound_over-d2-requires-clause-within c =
    end-within c.args.set.now c.in_ok-cells.cells.items c.deref-2.result.now c.self.inside.query.now.gap c.ticks-ticks.result (last_tick c.self.inside.store.now.shape.grid) _ c.grid-2.result.now c.in_ok-cells.ensures.order c.in_ok-cells.ensures.cells
    c.deref-2.ensures.value c.ticks-ticks.ensures (ap last_tick c.grid-2.ensures) c.self.invariant.steps_y.len

pub set_turns-turns-requires-clause-within : goal.set_turns-turns-requires-clause-within
set_turns-turns-requires-clause-within c =
    end-within c.args.set.now c.in_ok-cells.cells.items c.deref-3.result.now c.self.inside.query.now.gap c.ticks-ticks.result (last_tick c.self.inside.store.now.shape.grid) _ c.grid-2.result.now c.in_ok-cells.ensures.order c.in_ok-cells.ensures.cells
    c.deref-3.ensures.value c.ticks-ticks.ensures (ap last_tick c.grid-2.ensures) refl

pub returns : goal.returns
returns c =
    let d = c.bound_over-d1.result in
    let e = c.bound_over-d2.result in
    let one = c.bound_over-d1.ensures in
    let two = c.bound_over-d2.ensures in
    let cells = c.in_ok-cells.cells.items in
    let fits_d : SFits w64 d = fits d (omega (arith, ints, one.least)) (omega (arith, ints, one.most)) in
    let fits_e : SFits w64 e = fits e (omega (arith, ints, two.least)) (omega (arith, ints, two.most)) in
    subst (λ (p : Asking). IfSome p.store.box (λ xs. IsTested p.store.shape xs p.query p.rates_x p.rates_y c.args.set.now c.tested.result)) c.self.view_is
    (tested-of c.self.inside.store.now.box c.self.inside.store.now.shape c.self.inside.query.now (map (λ r. r.0) c.self.inside.rates_x.now) (map (λ r. r.0) c.self.inside.rates_y.now) c.args.set.now cells c.self.inside.steps_x c.self.inside.steps_y
    c.ticks-ticks.result c.grid-2.result.now d e _ _ c.set_turns-turns.result c.tested.result
    c.requires.order c.in_ok-cells.ensures.order c.in_ok-cells.ensures.cells c.ticks-ticks.ensures c.grid-2.ensures c.self.invariant.steps_x.made c.self.invariant.steps_y.made
    (bound-lent c.self.inside.steps_x c.self.inside.steps_x cells c.deref.result.now d refl c.deref.ensures.value one.value)
    (bound-lent c.self.inside.steps_y c.self.inside.steps_y cells c.deref-2.result.now e refl c.deref-2.ensures.value two.value)
    (to_z-of_z w64 d fits_d) (to_z-of_z w64 e fits_e)
    (turns-lent (label_in c.self.inside.store.now.shape c.self.inside.store.now.box c.self.inside.query.now (to_z w64 (of_z w64 d)) (to_z w64 (of_z w64 e))) cells c.deref-3.result.now c.set_turns-turns.result c.deref-3.ensures.value c.set_turns-turns.ensures.value) c.tested.ensures)
