use Rattle.std.proofs.Common.{◌+◌, ◌≤◌, IsSome, IsFalse, All, sym, subst, ap, refl, ◌∙◌, flat_map, arith, count_by}
use Rattle.tube_spec.specs.Box.{measure_of}
use Rattle.tube_store.specs.State.{State}
use Rattle.ctc_core.specs.declared.Revised.TheVariants.{Same, Narrowed, Empty}
use Rattle.ctc_network.specs.Nets.{NetState, of_place, fits_place, readers_of}
use Rattle.ctc_network.specs.Settling.{IsNarrowedBy}
use Rattle.ctc_network.proofs.Replaying.{run-then}
use Rattle.ctc_network.proofs.Runs.{measure-below, net-fixpoint, settled-empty}
use Rattle.ctc_network.proofs.Ends.{run-ends, run-falls, run-more, says-at, seek-ends}
use Rattle.ctc_network.proofs.net.Net.settle_some.Goals as goal

pub is_spent-requires : goal.is_spent-requires
is_spent-requires g c =
    let start = c.measure-start.ensures ∙ ap (λ (v : NetState g.row.C.Denot). measure_of v.store.box) c.self.view_is in
    omega (arith, measure-below c.loop-self.self.store.box c.args.self.now.store.box c.loop-self.invariant.narrowed.below, start)

pub returns-in-None-clause-settled : goal.returns-in-None-clause-settled
returns-in-None-clause-settled g c =
    let K = g.C.Contractor in
    let h = c.loop-self.invariant in
    let e = c.seek.ensures in
    net-fixpoint (of_place K.projections) (of_place K.scope) (fits_place K.fits) c.args.self.now.contractors c.args.budget c.args.self.now.store c.seek.new.self (e.contractors ∙ h.contractors)
    (subst (λ (s : State). IsNarrowedBy (flat_map (λ k. of_place K.projections k c.args.self.now.store.shape) c.args.self.now.contractors) c.args.self.now.store s) (sym e.store) h.narrowed)
    (subst (λ (s : State). IsSome s.box) (sym e.store) h.some) e.net (c.in-None.ensures.none refl)

pub returns-in-None-clause-bound : goal.returns-in-None-clause-bound
returns-in-None-clause-bound g c =
    let h = c.loop-self.invariant in
    seek-ends (readers_of (of_place g.C.Contractor.scope) c.args.self.now.store.shape c.args.self.now.contractors) c.args.steps.now c.loop-self.steps c.seek.new.steps c.args.self.now.waiting c.loop-self.self.waiting
    c.args.self.now.store c.seek.new.self.store c.loop-self.self.store c.seek.ensures.store h.narrowed.below h.steps c.seek.ensures.steps

pub returns-in-Some-clause-bound : goal.returns-in-Some-clause-bound
returns-in-Some-clause-bound g c =
    let h = c.loop-self.invariant in
    seek-ends (readers_of (of_place g.C.Contractor.scope) c.args.self.now.store.shape c.args.self.now.contractors) c.args.steps.now c.loop-self.steps c.seek.new.steps c.args.self.now.waiting c.loop-self.self.waiting
    c.args.self.now.store c.seek.new.self.store c.loop-self.self.store c.seek.ensures.store h.narrowed.below h.steps c.seek.ensures.steps

pub returns-in-None-fire_next-clause-settled : goal.returns-in-None-fire_next-clause-settled
returns-in-None-fire_next-clause-settled g c =
    let K = g.C.Contractor in
    let T = g.row.C.Denot in
    let h = c.loop-self.invariant in
    let e = c.fire_next.ensures in
    let n = c.in-None-fire_next.ensures.none refl in
    net-fixpoint (of_place K.projections) (of_place K.scope) (fits_place K.fits) c.args.self.now.contractors c.args.budget c.args.self.now.store c.fire_next.new.self (e.contractors ∙ h.contractors)
    (run-then (of_place K.projections) c.args.self.now.contractors c.loop-self.self.contractors c.args.self.now.store c.loop-self.self.store c.fire_next.new.self.store h.contractors h.narrowed e.narrowed)
    (subst (λ (v : NetState T). IsSome v.store.box) (sym n.1) h.some) e.net (subst (λ (v : NetState T). All IsFalse v.waiting) (sym n.1) n.0)

pub returns-in-None-fire_next-clause-bound : goal.returns-in-None-fire_next-clause-bound
returns-in-None-fire_next-clause-bound g c =
    let h = c.loop-self.invariant in
    let n = c.in-None-fire_next.ensures.none refl in
    let l : c.fire_next.new.steps ≤ c.loop-self.steps + count_by (λ w. w) c.loop-self.self.waiting = omega (arith, n.2) in
    seek-ends (readers_of (of_place g.C.Contractor.scope) c.args.self.now.store.shape c.args.self.now.contractors) c.args.steps.now c.loop-self.steps c.fire_next.new.steps c.args.self.now.waiting c.loop-self.self.waiting
    c.args.self.now.store c.fire_next.new.self.store c.loop-self.self.store (ap (λ (v : NetState g.row.C.Denot). v.store) n.1) h.narrowed.below h.steps l

pub returns-in-Some-Empty-clause-settled : goal.returns-in-Some-Empty-clause-settled
returns-in-Some-Empty-clause-settled g c =
    let K = g.C.Contractor in
    let h = c.loop-self.invariant in
    settled-empty (λ k. of_place K.projections k c.args.self.now.store.shape) c.args.self.now.contractors c.args.budget c.args.self.now.store c.fire_next.new.self.store
    (run-then (of_place K.projections) c.args.self.now.contractors c.loop-self.self.contractors c.args.self.now.store c.loop-self.self.store c.fire_next.new.self.store h.contractors h.narrowed c.fire_next.ensures.narrowed)
    (says-at c.fire_next.new.self.store.box c.in-Some-Empty.field-0 Empty c.in-Some-Empty.field-0-is c.in-Some-Empty.ensures.says)

pub loop-self-preserved-in-Some-Same : goal.loop-self-preserved-in-Some-Same
loop-self-preserved-in-Some-Same g c =
    let K = g.C.Contractor in
    let h = c.loop-self.invariant in
    let e = c.in-Some-Same.ensures in
    record {
      contractors = e.contractors ∙ h.contractors;
      narrowed = run-then (of_place K.projections) c.args.self.now.contractors c.loop-self.self.contractors c.args.self.now.store c.loop-self.self.store c.fire_next.new.self.store h.contractors h.narrowed e.narrowed;
      some = says-at c.fire_next.new.self.store.box c.in-Some-Same.field-0 Same c.in-Some-Same.field-0-is e.says;
      steps = run-more (of_place K.scope) c.args.self.now c.loop-self.self c.fire_next.new.self c.args.steps.now c.loop-self.steps c.fire_next.new.steps h.contractors h.narrowed.shape e.falls h.steps e.step;
    }

pub loop-self-preserved : goal.loop-self-preserved
loop-self-preserved g c =
    let K = g.C.Contractor in
    let h = c.loop-self.invariant in
    let e = c.in-Some-Narrowed.ensures in
    record {
      contractors = e.contractors ∙ h.contractors;
      narrowed = run-then (of_place K.projections) c.args.self.now.contractors c.loop-self.self.contractors c.args.self.now.store c.loop-self.self.store c.fire_next.new.self.store h.contractors h.narrowed e.narrowed;
      some = says-at c.fire_next.new.self.store.box c.in-Some-Narrowed.field-0 Narrowed c.in-Some-Narrowed.field-0-is e.says;
      steps = run-more (of_place K.scope) c.args.self.now c.loop-self.self c.fire_next.new.self c.args.steps.now c.loop-self.steps c.fire_next.new.steps h.contractors h.narrowed.shape e.falls h.steps e.step;
    }

pub returns-in-Some-Empty-clause-bound : goal.returns-in-Some-Empty-clause-bound
returns-in-Some-Empty-clause-bound g c =
    let K = g.C.Contractor in
    let h = c.loop-self.invariant in
    let e = c.in-Some-Empty.ensures in
    run-ends (readers_of (of_place K.scope) c.args.self.now.store.shape c.args.self.now.contractors) c.args.steps.now c.fire_next.new.steps c.fire_next.new.steps c.args.self.now.waiting c.fire_next.new.self.waiting
    c.args.self.now.store.box c.fire_next.new.self.store.box
    (run-then (of_place K.projections) c.args.self.now.contractors c.loop-self.self.contractors c.args.self.now.store c.loop-self.self.store c.fire_next.new.self.store h.contractors h.narrowed c.fire_next.ensures.narrowed).below
    (run-more (of_place K.scope) c.args.self.now c.loop-self.self c.fire_next.new.self c.args.steps.now c.loop-self.steps c.fire_next.new.steps h.contractors h.narrowed.shape e.falls h.steps e.step) (omega arith)

pub loop-self-smaller-in-Some-Same : goal.loop-self-smaller-in-Some-Same
loop-self-smaller-in-Some-Same g c =
    let h = c.loop-self.invariant in
    run-falls (of_place g.C.Contractor.scope) c.args.self.now c.loop-self.self c.fire_next.new.self h.contractors h.narrowed.shape c.in-Some-Same.ensures.falls

pub loop-self-smaller : goal.loop-self-smaller
loop-self-smaller g c =
    let h = c.loop-self.invariant in
    run-falls (of_place g.C.Contractor.scope) c.args.self.now c.loop-self.self c.fire_next.new.self h.contractors h.narrowed.shape c.in-Some-Narrowed.ensures.falls
